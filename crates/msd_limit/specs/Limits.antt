-- How many segments the two MSD types permit that bind the head end (document 02, C-11; document 001, section 4), and with one segment more.
use Rattle.std.specs.Prelude.{ℕ, ◌+◌, ◌≤◌, min, max, List, [], ◌∷◌, Bool, true, false, ◌&&◌, ◌||◌, eqb, Option, None, Some}
use Rattle.msd.specs.Msd.{max_segments_left, max_end_pop, max_h_encaps, max_end_d, Pair, smallest_of}

-- "H.Encaps (44) with value v permits the larger of 1 and v segments"
abbrev pub h_encaps_permits : Option ℕ → Option ℕ
h_encaps_permits None = None
h_encaps_permits (Some v) = Some (max 1 v)

-- "Segments Left (41) with value m permits m + 1"
abbrev pub segments_left_permits : Option ℕ → Option ℕ
segments_left_permits None = None
segments_left_permits (Some m) = Some (m + 1)

-- "The limit is the smaller of those present; .. none present, no limit"
abbrev pub lower : Option ℕ → Option ℕ → Option ℕ
lower None l = l
lower (Some a) None = Some a
lower (Some a) (Some b) = Some (min a b)

-- of H.Encaps' v and Segments Left's m, each there or not.
abbrev pub limit_by : Option ℕ → Option ℕ → Option ℕ
limit_by v m = lower (h_encaps_permits v) (segments_left_permits m)

abbrev pub limit_of_pairs : List Pair → Option ℕ
limit_of_pairs ps = limit_by (smallest_of ps max_h_encaps) (smallest_of ps max_segments_left)

-- The first segment stays off the header: "then H.Encaps v permits v + 1; Segments Left is untouched" (document 02, C-15). Without H.Encaps the limit stays.
abbrev pub one_more_by : Option ℕ → Option ℕ → Option ℕ → Option ℕ
one_more_by limit None m = limit
one_more_by limit (Some v) m = lower (Some (v + 1)) (segments_left_permits m)

-- words of the theorems ----------------------------------------------------------------------------------------

-- A pair of the type is there.
abbrev pub present : List Pair → ℕ → Bool
present [] kind = false
present (p ∷ ps) kind = eqb p.kind kind || present ps kind

-- End Pop (42) and End D (45).
unfoldable pub is_end : Pair → Bool
is_end p = eqb p.kind max_end_pop || eqb p.kind max_end_d

abbrev pub only_ends : List Pair → Bool
only_ends [] = true
only_ends (p ∷ ps) = is_end p && only_ends ps

-- A route of n segments is within a limit.
abbrev pub within : Option ℕ → ℕ → Type 0
within None n = Unit {0}
within (Some m) n = n ≤ m
