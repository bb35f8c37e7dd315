-- The laws of commands: which lines are skipped, and the four ways that a reading ends.
use mathlib.Core.Path.{◌≡◌, refl}
use mathlib.Core.Bool.{Bool, true, false}
use mathlib.Core.List.{List, [], ◌∷◌}
use Prim.Native.Nat.{ℕ, ◌≤◌, ◌<◌}
use lib.Dec.{eqb}
use lib.ListN.{length, get_or}
use native.Mathlib.Omega.{arith}
use borrow.Author.Tests.{lt-ltb, le-ltb}
use Rattle.words.specs.Words.{space, word_of}
use Rattle.same_octets.specs.Same.{same_octets}
use Rattle.command_forms.specs.Forms.{the_ero, verb_of, kinds_of, formed}
use Rattle.command_forms.specs.declared.verb.Verb.{Verb}
use Rattle.command_forms.specs.declared.verb.Verb.TheVariants as v
use Rattle.command.specs.Commands.{hash, skipped, longest_line, bare_command, number_at, commanded, command_of}

pub skipped_empty : (l : List ℕ) → length l ≡ 0 → true ≡ skipped l
unfolding skipped
skipped_empty [] h = refl
skipped_empty (c ∷ cs) h = absurd (omega arith)

pub skipped_first : (l : List ℕ) → (length l ≡ 0 → ⊥) → eqb (get_or l 0 0) hash ≡ skipped l
unfolding skipped
skipped_first [] h = absurd (h refl)
skipped_first (c ∷ cs) h = refl

module _ (l : List ℕ) where
  pub read_skipped : skipped l ≡ true → bare_command v.Skip ≡ command_of l
  unfolding command_of
  read_skipped e = rw e

  pub read_long : skipped l ≡ false → longest_line < length l → bare_command v.Bad ≡ command_of l
  unfolding command_of
  read_long e h = rw (e, lt-ltb longest_line (length l) h)

  pub read_out_of_form : skipped l ≡ false → length l ≤ longest_line → formed (kinds_of (verb_of (word_of l space 0))) l ≡ false → bare_command v.Bad ≡ command_of l
  unfolding command_of
  read_out_of_form e h f = rw (e, le-ltb longest_line (length l) h, f)

  pub read_in_form : skipped l ≡ false → length l ≤ longest_line → formed (kinds_of (verb_of (word_of l space 0))) l ≡ true → commanded l ≡ command_of l
  unfolding command_of
  read_in_form e h f = rw (e, le-ltb longest_line (length l) h, f)

  pub made : {verb : Verb} {ero : Bool} {one two three four : ℕ} → verb ≡ verb_of (word_of l space 0) → ero ≡ same_octets (word_of l space 1) the_ero
      → one ≡ number_at l 1 → two ≡ number_at l 2 → three ≡ number_at l 3 → four ≡ number_at l 4
      → record { verb = verb; ero = ero; one = one; two = two; three = three; four = four } ≡ commanded l
  made a b c d e f = λ i. record { verb = a i; ero = b i; one = c i; two = d i; three = e i; four = f i }
