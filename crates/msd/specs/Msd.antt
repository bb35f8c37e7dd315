-- "pairs of MSD type and MSD value" (document 01, "The OPEN object").
use Rattle.std.specs.Prelude.{ℕ, min, List, [], ◌∷◌, Bool, false, cond, not, ◌||◌, eqb, Option, None, Some}
use Rattle.msd.specs.declared.Depths.{Depths}

abbrev pub max_segments_left : ℕ
max_segments_left = 41

abbrev pub max_end_pop : ℕ
max_end_pop = 42

abbrev pub max_h_encaps : ℕ
max_h_encaps = 44

abbrev pub max_end_d : ℕ
max_end_d = 45

unfoldable pub known_msd : ℕ → Bool
known_msd kind = (eqb kind max_segments_left || eqb kind max_end_pop) || (eqb kind max_h_encaps || eqb kind max_end_d)

pub record Pair : Type 0 where
  pub kind : ℕ
  pub value : ℕ

-- Two octets are a pair; a single octet at the end is none.
abbrev pub pairs_in : List ℕ → List Pair
pairs_in [] = []
pairs_in (a ∷ []) = []
pairs_in (a ∷ b ∷ rest) = record { kind = a; value = b } ∷ pairs_in rest

-- "a pair's type isn't 41, 42, 44 or 45"
abbrev pub wrong_pairs : List Pair → Bool
wrong_pairs [] = false
wrong_pairs (p ∷ ps) = not (known_msd p.kind) || wrong_pairs ps

-- the smallest value of a type (document 02, C-11) ---------------------------------------------------------------

-- A value, or another where that is smaller.
abbrev pub smaller : ℕ → Option ℕ → Option ℕ
smaller v None = Some v
smaller v (Some m) = Some (min v m)

abbrev pub with_pair : Pair → Option ℕ → ℕ → Option ℕ
with_pair p d wanted = cond (eqb p.kind wanted) (smaller p.value d) d

-- "of a repeated type the smallest value is used"
abbrev pub smallest_of : List Pair → ℕ → Option ℕ
smallest_of [] wanted = None
smallest_of (p ∷ ps) wanted = with_pair p (smallest_of ps wanted) wanted

-- Beside a wrong type nothing else counts.
abbrev pub gathered_of : List Pair → Option Depths
gathered_of ps = cond (wrong_pairs ps) None (Some (record { encaps = smallest_of ps max_h_encaps; left = smallest_of ps max_segments_left }))
