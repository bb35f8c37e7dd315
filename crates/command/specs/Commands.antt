-- A line of the console read into a command (console.md).
use Rattle.std.specs.Prelude.{ℕ, Bool, true, false, cond, List, [], ◌∷◌, eqb, ltb, length}
use Rattle.words.specs.Words.{space, word_of}
use Rattle.same_octets.specs.Same.{same_octets}
use Rattle.decimal.specs.Decimal.{decimal_value}
use Rattle.command_forms.specs.Forms.{the_ero, verb_of, kinds_of, formed}
use Rattle.command_forms.specs.declared.verb.Verb.{Verb}
use Rattle.command_forms.specs.declared.verb.Verb.TheVariants as v
use Rattle.command.specs.declared.Command.{Command}

-- `#`
abbrev pub hash : ℕ
hash = 35

-- "Empty lines, and lines that begin with `#`, are skipped"
unfoldable pub skipped : List ℕ → Bool
skipped [] = true
skipped (c ∷ cs) = eqb c hash

-- the most octets of a line that is no bad line
abbrev pub longest_line : ℕ
longest_line = 131200

abbrev pub bare_command : Verb → Command
bare_command verb = record { verb = verb; ero = false; one = 0; two = 0; three = 0; four = 0 }

-- word i of a line as a number
abbrev pub number_at : List ℕ → ℕ → ℕ
number_at line i = decimal_value (word_of line space i)

-- A command, with what its first four words behind the name say as numbers, and whether the first is `ero`.
abbrev pub commanded : List ℕ → Command
commanded line = record {
  verb = verb_of (word_of line space 0);
  ero = same_octets (word_of line space 1) the_ero;
  one = number_at line 1;
  two = number_at line 2;
  three = number_at line 3;
  four = number_at line 4;
}

-- "Any other line that is not one of the commands, in just that form, is a bad line; so is one of more than 131,200 octets."
unfoldable pub command_of : List ℕ → Command
command_of line = cond (skipped line) (bare_command v.Skip) (cond (ltb longest_line (length line)) (bare_command v.Bad)
    (cond (formed (kinds_of (verb_of (word_of line space 0))) line) (commanded line) (bare_command v.Bad)))
