-- The segment of a line, part by part.
use Prim.Native.Nat.{ℕ}
use mathlib.Core.Path.{◌≡◌}
use mathlib.Core.Bool.{Bool, not}
use mathlib.Core.List.{List}
use lib.Dec.{eqb}
use Rattle.words.specs.Words.{space, word_of}
use Rattle.decimal.specs.Decimal.{is_none, structure_of}
use Rattle.command.specs.declared.Command.{Command}
use Rattle.command.specs.Commands.{number_at}
use Rattle.console_add.specs.Added.{sid_word, structure_word, labelled_word, complete_word, sid_in, nai_in, segment_said}

pub segment_made : (c : Command) (line : List ℕ) {sid nai structure : List ℕ} {bare plain : Bool} {m k : ℕ}
    → sid ≡ sid_in line
    → nai ≡ nai_in line
    → bare ≡ is_none (word_of line space sid_word)
    → plain ≡ is_none (word_of line space structure_word)
    → structure ≡ structure_of (word_of line space structure_word)
    → m ≡ number_at line labelled_word
    → k ≡ number_at line complete_word
    → record {
      loose = eqb c.one 1;
      verify = eqb c.two 1;
      nt = c.three;
      behaviour = c.four;
      hassid = not bare;
      sid = sid;
      nai = nai;
      structured = not plain;
      structure = structure;
      labelled = eqb m 1;
      complete = eqb k 1;
    } ≡ segment_said c line
unfolding segment_said
segment_made c line a b d e f g h = cc
