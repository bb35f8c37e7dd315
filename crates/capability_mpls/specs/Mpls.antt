-- Sub-TLV 26 holds 2 reserved octets, a flag octet and a depth (RFC 8664, section 4.1.2; document 02, C-16).
use Rattle.std.specs.Prelude.{ℕ, ◌/◌, ◌%◌, List, Bool, cond, not, ◌&&◌, length, eqb, Option, None, Some}
use Rattle.octets.specs.Octets.{octet_of}
use Rattle.objects.specs.Objects.{mpls_setup}
use Rattle.answers.specs.Numbers.{open_malformed, wrong_msd}
use Rattle.session.specs.Opened.{Opened}
use Rattle.session.specs.Sessions.{open_refused, without_srv6, with_mpls}

-- The type of the sub-TLV.
abbrev pub mpls_capability : ℕ
mpls_capability = 26

-- The places of the flag octet and of the depth.
abbrev pub mpls_flags_at : ℕ
mpls_flags_at = 2

abbrev pub depth_at : ℕ
depth_at = 3

abbrev pub mpls_size : ℕ
mpls_size = 4

-- "sub-TLV 26 must have length 4 (1)"
unfoldable pub mpls_sized_of : List ℕ → Bool
mpls_sized_of w = eqb (length w) mpls_size

-- N is the bit worth 2 and X the bit worth 1.
abbrev pub mpls_worth_n : ℕ
mpls_worth_n = 2

abbrev pub mpls_worth_x : ℕ
mpls_worth_x = 1

abbrev pub mpls_flag_in : List ℕ → ℕ → Bool
mpls_flag_in w worth = eqb (octet_of w mpls_flags_at / worth % 2) 1

unfoldable pub mpls_n_of : List ℕ → Bool
mpls_n_of w = mpls_flag_in w mpls_worth_n

unfoldable pub mpls_x_of : List ℕ → Bool
mpls_x_of w = mpls_flag_in w mpls_worth_x

unfoldable pub depth_of : List ℕ → ℕ
depth_of w = octet_of w depth_at

-- "and X or a depth above 0 (3)": it has neither.
unfoldable pub depthless : List ℕ → Bool
depthless w = not (mpls_x_of w) && eqb (depth_of w) 0

-- The depth is the limit; with X set there is none.
unfoldable pub mpls_limit_of : List ℕ → Option ℕ
mpls_limit_of w = cond (mpls_x_of w) None (Some (depth_of w))

-- What the value of sub-TLV 26 adds to an answer where none of its rules is broken.
abbrev pub mpls_beside : Opened → List ℕ → Opened
mpls_beside o w = with_mpls o (mpls_n_of w) (mpls_limit_of w)

-- What a side that lists type 1 announces by the value of sub-TLV 26, in the order 1, 3.
unfoldable pub mpls_announced_of : List ℕ → Opened
mpls_announced_of w =
    cond (not (mpls_sized_of w)) (open_refused open_malformed mpls_setup)
    (cond (depthless w) (open_refused wrong_msd mpls_setup) (mpls_beside without_srv6 w))
