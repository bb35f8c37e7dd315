-- What a row about the writer leaves and says; no promise rests on this file: `console_dialogue/specs/Turns` has the table.
use Rattle.std.specs.Prelude.{ℕ, List}
use Rattle.writer_state.specs.declared.Writer.{Writer}
use Rattle.command.specs.declared.Command.{Command}
use Rattle.command_rows.specs.declared.Writing.{Writing}
use Rattle.command_rows.specs.declared.Writing.TheVariants as w
use Rattle.console_writer.specs.WriterLines.{Composing, begin_turn, add_turn, finish_turn, lent_line}

abbrev pub written_turn : Writing → Writer → List ℕ → Command → List ℕ → Composing
written_turn w.Begin old lent c line = begin_turn old lent c
written_turn w.Add old lent c line = add_turn old lent c line
written_turn w.Finish old lent c line = finish_turn old lent
written_turn w.Lent old lent c line = record { writer = old; lent = lent; answer = lent_line lent }
