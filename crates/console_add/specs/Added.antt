-- The segment that a line `add L V NT BEHAVIOUR SID NAI STRUCTURE M C` names (console.md).
use Rattle.std.specs.Prelude.{ℕ, ◌≤◌, not, List, eqb, length, replicate}
use Rattle.octets.specs.Octets.{over}
use Rattle.subobject.specs.declared.segment.Segment.{Segment}
use Rattle.subobject.specs.Layout.{sid_size, nai_size}
use Rattle.words.specs.Words.{space, word_of}
use Rattle.decimal.specs.Decimal.{most_octet, most_two_octets, is_none, structure_of}
use Rattle.command.specs.declared.Command.{Command}
use Rattle.command.specs.Commands.{number_at}
use Rattle.console_state.specs.Spelled.{octets_in}

-- The words SID, NAI, STRUCTURE, M and C, counted from `add`, which is word 0.
abbrev pub sid_word : ℕ
sid_word = 5

abbrev pub nai_word : ℕ
nai_word = 6

abbrev pub structure_word : ℕ
structure_word = 7

abbrev pub labelled_word : ℕ
labelled_word = 8

abbrev pub complete_word : ℕ
complete_word = 9

-- "SID 1 to 16 octets, kept in 16 with 0 behind, or `-`"
unfoldable pub sid_in : List ℕ → List ℕ
sid_in line = over (octets_in line sid_word) (replicate sid_size 0)

-- "NAI 0 to 40 octets, kept in 40 with 0 behind"
unfoldable pub nai_in : List ℕ → List ℕ
nai_in line = over (octets_in line nai_word) (replicate nai_size 0)

-- "L, V 0 or 1, NT 0 to 255, BEHAVIOUR 0 to 65,535, SID .., NAI .., STRUCTURE"; "M, C 0 or 1"
unfoldable pub segment_said : Command → List ℕ → Segment
segment_said c line = record {
  loose = eqb c.one 1;
  verify = eqb c.two 1;
  nt = c.three;
  behaviour = c.four;
  hassid = not (is_none (word_of line space sid_word));
  sid = sid_in line;
  nai = nai_in line;
  structured = not (is_none (word_of line space structure_word));
  structure = structure_of (word_of line space structure_word);
  labelled = eqb (number_at line labelled_word) 1;
  complete = eqb (number_at line complete_word) 1;
}

-- what the form of an `add` says of its words
pub record AddForm (c : Command) (line : List ℕ) : Type 0 where
  pub nt : c.three ≤ most_octet
  pub behaviour : c.four ≤ most_two_octets
  pub sid : length (octets_in line sid_word) ≤ sid_size
  pub nai : length (octets_in line nai_word) ≤ nai_size
