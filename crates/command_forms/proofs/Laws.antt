-- The laws of the table of commands. That the code's commands and names are the table's is computed (`rows_lem`), whatever the rows are. All other laws hold for any list of
-- commands and of kinds.
use Prim.Native.Nat.{ℕ, suc, ◌+◌, ◌≤◌, ◌<◌}
use mathlib.Core.Path.{◌≡◌, refl}
use mathlib.Core.Bool.{true, false}
use mathlib.Core.List.{List, [], ◌∷◌, map}
use lib.ListN.{length, get_or, drop, drop_of_length-le}
use lib.Seq.{drop-cons}
use native.Mathlib.Omega.{arith}
use native.Mathlib.Numerals.{add-one}
use borrow.Author.Tests.{eq-eqb, ne_eqb}
use Rattle.words.specs.Words.{space, word_of, words_in}
use Rattle.same_octets.specs.Same.{same_octets}
use Rattle.command_forms.specs.declared.kind.Kind.{Kind}
use Rattle.command_forms.specs.declared.verb.Verb.{Verb}
use Rattle.command_forms.specs.declared.verb.Verb.TheVariants as v
use Rattle.command_forms.specs.Forms.{CommandRow, rows, verb_named, verb_of, fits, fit_from, formed}
use Rattle.command_forms.specs.Names.{name_of}

-- ## Names

-- the commands that have a name, as the code lists them
abbrev pub verbs : List Verb
verbs = v.Pcc ∷ v.Pce ∷ v.Ero ∷ v.Rro ∷ v.EroSegment ∷ v.RroSegment ∷ v.Begin ∷ v.Add ∷ v.Finish ∷ v.Lent ∷ v.Report ∷ v.Remove ∷ v.Compact
    ∷ v.Body ∷ v.Next ∷ v.Mark ∷ v.Board ∷ v.Chain ∷ v.Positions ∷ v.Addresses ∷ v.Moved ∷ []

abbrev row_of : Verb → CommandRow
row_of x = record { name = name_of x; verb = x }

rows_lem : rows ≡ map row_of verbs
rows_lem = refl

-- The walk has passed i commands: what is left of it gives the whole answer.
pub record Looking (w : List ℕ) (i : ℕ) : Type 0 where
  pub within : i ≤ length verbs
  pub same : verb_named (map row_of (drop i verbs)) w ≡ verb_of w

pub looking_start : (w : List ℕ) → Looking w 0
unfolding verb_of
looking_start w = record { within = omega arith; same = rw (← rows_lem) }

module _ (w : List ℕ) (i : ℕ) (d : Verb) (h : i < length verbs) (l : Looking w i) where
  pub looking_hit : same_octets w (name_of (get_or verbs i d)) ≡ true → get_or verbs i d ≡ verb_of w
  unfolding verb_named
  looking_hit e = rw (drop-cons verbs i d h, e) at l.same

  pub looking_miss : same_octets w (name_of (get_or verbs i d)) ≡ false → Looking w (i + 1)
  unfolding verb_named
  looking_miss e = record { within = omega arith; same = rw add-one (rw (drop-cons verbs i d h, e) at l.same) }

pub looking_end : (w : List ℕ) (i : ℕ) → length verbs ≤ i → Looking w i → v.Bad ≡ verb_of w
unfolding verb_named
looking_end w i h l = rw (drop_of_length-le verbs h) at l.same

-- ## Forms

-- The walk has passed i kinds: what is left of it gives the whole answer.
pub record KindsLeft (kinds : List Kind) (line : List ℕ) (i : ℕ) : Type 0 where
  pub within : i ≤ length kinds
  pub many : words_in line space ≡ length kinds + 1
  pub same : fit_from (drop i kinds) line (i + 1) ≡ fit_from kinds line 1

module _ (kinds : List Kind) (line : List ℕ) where
  pub other_number : (words_in line space ≡ length kinds + 1 → ⊥) → false ≡ formed kinds line
  unfolding formed
  other_number h = rw (ne_eqb (words_in line space) (suc (length kinds)) (λ n. h (omega arith)))

  pub fitting_start : words_in line space ≡ length kinds + 1 → KindsLeft kinds line 0
  fitting_start h = record { within = omega arith; many = h; same = refl }

  whole : (i : ℕ) → KindsLeft kinds line i → fit_from (drop i kinds) line (i + 1) ≡ formed kinds line
  unfolding formed
  whole i f = rw (eq-eqb (words_in line space) (suc (length kinds)) (omega (arith, f.many))) f.same

  module _ (i : ℕ) (d : Kind) (f : KindsLeft kinds line i) where
    pub fitting_miss : i < length kinds → fits (word_of line space (i + 1)) (get_or kinds i d) ≡ false → false ≡ formed kinds line
    fitting_miss h t = rw (drop-cons kinds i d h, t) at (whole i f)

    pub fitting_hit : i < length kinds → fits (word_of line space (i + 1)) (get_or kinds i d) ≡ true → KindsLeft kinds line (i + 1)
    fitting_hit h t = record {
      within = omega arith;
      many = f.many;
      same = rw (add-one, add-one) (rw (drop-cons kinds i d h, add-one, rw add-one at t) at f.same);
    }

    pub fitting_end : length kinds ≤ i → true ≡ formed kinds line
    fitting_end h = rw (drop_of_length-le kinds h) at (whole i f)
