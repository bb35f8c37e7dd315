-- The commands about the writer (console.md, the table's middle rows).
use Rattle.std.specs.Prelude.{ℕ, List, take, replicate}
use Rattle.answers.specs.Verdicts.{kept}
use Rattle.writer_state.specs.declared.Writer.{Writer}
use Rattle.writer_state.specs.Written.{Written}
use Rattle.writer_begin_finish.specs.Ends.{begin_answer, begin_buffer, finish_answer, finish_buffer}
use Rattle.writer.specs.Writing.{add_answer, add_buffer}
use Rattle.command.specs.declared.Command.{Command}
use Rattle.console_add.specs.Added.{segment_said}
use Rattle.console_lines.specs.Lines.{one_line, octets_line}
use Rattle.console_state.specs.Answers.{answer_line}

-- the writer and its buffer after a command, and the line that answers it
pub record Composing : Type 0 where
  pub writer : Writer
  pub lent : List ℕ
  pub answer : List ℕ

-- `0 0 AT`, "the writer's new place"
unfoldable pub place_line : Written → List ℕ
place_line w = answer_line w.verdict (one_line w.writer.at)

-- ## Begin

-- `EE`
abbrev pub fresh_octet : ℕ
fresh_octet = 0xEE

-- "a new buffer of SIZE octets, each `EE`"
unfoldable pub fresh_buffer : ℕ → List ℕ
fresh_buffer size = replicate size fresh_octet

-- `begin ero PST SIZE` · `begin rro PST SIZE`: "lends the writer a new buffer of SIZE octets (0 to 65,536), each `EE`, and begins a route in it. Where that is
-- refused the writer keeps the buffer, the kind and the place that it had"; `0 0 4`
abbrev pub begin_turn : Writer → List ℕ → Command → Composing
begin_turn w lent c = record {
  writer = (begin_answer (fresh_buffer c.three) w c.ero c.two).writer;
  lent = kept (begin_answer (fresh_buffer c.three) w c.ero c.two).verdict.number lent (begin_buffer (fresh_buffer c.three) w c.ero);
  answer = place_line (begin_answer (fresh_buffer c.three) w c.ero c.two);
}

-- ## Add

-- `add L V NT BEHAVIOUR SID NAI STRUCTURE M C`: "adds a segment"; `0 0 AT`
abbrev pub add_turn : Writer → List ℕ → Command → List ℕ → Composing
add_turn w lent c line = record {
  writer = (add_answer lent w (segment_said c line)).writer;
  lent = add_buffer lent w (segment_said c line);
  answer = place_line (add_answer lent w (segment_said c line));
}

-- ## Finish

-- `0 0 OCTETS`, "the object": the buffer's octets up to the writer's place
unfoldable pub finish_line : Writer → List ℕ → List ℕ
finish_line w lent = answer_line (finish_answer lent w).verdict (octets_line (take (finish_answer lent w).writer.at (finish_buffer lent w)))

-- `finish`: "finishes the route; the writer stays where it is, so that more can be added and the route finished again"
abbrev pub finish_turn : Writer → List ℕ → Composing
finish_turn w lent = record { writer = (finish_answer lent w).writer; lent = finish_buffer lent w; answer = finish_line w lent }

-- ## Lent

-- `lent`: "shows the writer's whole buffer"; `0 0 OCTETS`
abbrev pub lent_line : List ℕ → List ℕ
lent_line lent = octets_line lent
