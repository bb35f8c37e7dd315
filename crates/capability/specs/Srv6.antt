-- "Sub-TLV 27 holds 2 reserved octets, 2 flag octets, then pairs of MSD type and MSD value" (document 01, "The OPEN object").
use Rattle.std.specs.Prelude.{ℕ, ◌/◌, ◌%◌, List, [], Bool, true, cond, not, ◌&&◌, length, drop, eqb, leb, Option}
use Rattle.octets.specs.Octets.{octet_of, be16}
use Rattle.objects.specs.Objects.{srv6_setup}
use Rattle.answers.specs.Numbers.{open_malformed, wrong_msd}
use Rattle.flag_positions.specs.declared.Positions.{Positions}
use Rattle.flag_positions.specs.Positions.{flag_at}
use Rattle.session.specs.Opened.{Opened}
use Rattle.session.specs.Sessions.{open_refused, open_carries}
use Rattle.msd.specs.Msd.{max_segments_left, max_h_encaps, Pair, pairs_in, wrong_pairs, smallest_of}
use Rattle.msd_limit.specs.Limits.{limit_by}

-- The type of the sub-TLV.
abbrev pub srv6_capability : ℕ
srv6_capability = 27

-- The places of the flag octets, of the second of them, and of the first pair.
abbrev pub both_flags_at : ℕ
both_flags_at = 2

abbrev pub flags_at : ℕ
flags_at = 3

abbrev pub pairs_at : ℕ
pairs_at = 4

-- "an even length of at least 4"
unfoldable pub sized_of : List ℕ → Bool
sized_of w = eqb (length w % 2) 0 && leb pairs_at (length w)

-- "N is the bit worth 2 and X the bit worth 1 of the second flag octet."
abbrev pub worth_n : ℕ
worth_n = 2

abbrev pub worth_x : ℕ
worth_x = 1

abbrev pub flag_set : List ℕ → ℕ → Bool
flag_set w worth = eqb (octet_of w flags_at / worth % 2) 1

unfoldable pub n_of : List ℕ → Bool
n_of w = flag_set w worth_n

unfoldable pub x_of : List ℕ → Bool
x_of w = flag_set w worth_x

-- A and R, at their positions among the 16 flags (document 02, C-15).
unfoldable pub a_of : Positions → List ℕ → Bool
a_of p w = flag_at (be16 w both_flags_at) p.a

unfoldable pub r_of : Positions → List ℕ → Bool
r_of p w = flag_at (be16 w both_flags_at) p.r

abbrev pub pairs_of : List ℕ → List Pair
pairs_of w = pairs_in (drop pairs_at w)

-- "X is 0 and a pair's type isn't 41, 42, 44 or 45"
unfoldable pub wrong_of : List ℕ → Bool
wrong_of w = not (x_of w) && wrong_pairs (pairs_of w)

-- With X set no pair counts.
abbrev pub counting_of : List ℕ → List Pair
counting_of w = cond (x_of w) [] (pairs_of w)

-- H.Encaps' v and Segments Left's m, each there or not, and the limit of them.
unfoldable pub h_encaps_of : List ℕ → Option ℕ
h_encaps_of w = smallest_of (counting_of w) max_h_encaps

unfoldable pub segments_left_of : List ℕ → Option ℕ
segments_left_of w = smallest_of (counting_of w) max_segments_left

unfoldable pub limit_of : List ℕ → Option ℕ
limit_of w = limit_by (h_encaps_of w) (segments_left_of w)

-- What the value of sub-TLV 27 carries where none of its rules is broken.
abbrev pub carries_by : Positions → List ℕ → Opened
carries_by p w = open_carries true (n_of w) (limit_of w) (a_of p w) (r_of p w) (h_encaps_of w) (segments_left_of w)

-- What a side that lists type 3 announces by the value of sub-TLV 27, in the order 1, 3.
unfoldable pub announced_of : Positions → List ℕ → Opened
announced_of p w =
    cond (not (sized_of w)) (open_refused open_malformed srv6_setup)
    (cond (wrong_of w) (open_refused wrong_msd srv6_setup) (carries_by p w))
