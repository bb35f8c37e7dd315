-- Of any two answers that fit a contract, both are the same.
use Prim.Native.Nat.{ℕ}
use mathlib.Core.Path.{◌≡◌, sym, ◌∙◌}
use mathlib.Core.List.{List}
use mathlib.Core.Bool.{Bool}
use lib.ListN.{get_or}
use Rattle.std.specs.Prelude.{Option}
use Rattle.frame.specs.declared.gathering.Facts.{Facts}
use Rattle.frame.specs.Frames.{places_of}
use Rattle.frame.specs.Gathered.{PlacedIn, found_of, facts_of}
use Rattle.frame.proofs.Laws.{found_once}

pub look_determined : (s : List ℕ) (ero : Bool) (kind : ℕ) (a b : Option Facts) → found_of a ≡ facts_of s ero kind → PlacedIn a → found_of b ≡ facts_of s ero kind
    → PlacedIn b → a ≡ b
look_determined s ero kind a b e p f q = found_once a b p q (e ∙ sym f)

pub nth_determined : (s : List ℕ) (i a b : ℕ) → a ≡ get_or (places_of s) i 0 → b ≡ get_or (places_of s) i 0 → a ≡ b
nth_determined s i a b e f = e ∙ sym f
