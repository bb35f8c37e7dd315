-- Reading an OPEN object (document 01, "The OPEN object"; sub-TLV 26 by document 02, C-16): its rules by their numbers, and the answer.
use Rattle.std.specs.Prelude.{ℕ, List, [], ◌∷◌, Bool, true, false, cond, not, ◌&&◌, drop, Option, None, Some}
use Rattle.objects.specs.Objects.{mpls_setup, srv6_setup}
use Rattle.answers.specs.Numbers.{open_malformed, capability_missing, wrong_msd, not_usable}
use Rattle.answers.specs.First.{first_of}
use Rattle.flag_positions.specs.declared.Positions.{Positions}
use Rattle.flag_positions.specs.Positions.{usable_positions}
use Rattle.session.specs.Opened.{Opened}
use Rattle.session.specs.Sessions.{no_form, open_refused, without_srv6}
use Rattle.tlvs.specs.Tlvs.{Tlvs, tlvs_of, tlvs_whole, first_tlv, not_there}
use Rattle.setup_types.specs.SetupTypes.{path_setup, holds_list, subs_of, listed_in}
use Rattle.capability_mpls.specs.Mpls.{mpls_capability, mpls_sized_of, depthless, mpls_beside}
use Rattle.capability.specs.Srv6.{srv6_capability, sized_of, wrong_of, carries_by}
unfoldable pub use Rattle.open_frame.specs.Framed.{framed}
pub use Rattle.open_frame.specs.Framed.{open_version, version_place, version_worth, version_of, tlvs_at, open_headed, measured}

-- the object ---------------------------------------------------------------------------------------------------

abbrev pub open_tlvs : List ℕ → Tlvs
open_tlvs s = tlvs_of (drop tlvs_at s) false

-- "Of several TLVs 34, or sub-TLVs 27, the first is used and the others are only walked." So it is with sub-TLVs 26.
unfoldable pub setup_of : List ℕ → Option (List ℕ)
setup_of s = first_tlv (open_tlvs s) path_setup

abbrev pub sub_in : Option (List ℕ) → ℕ → Option (List ℕ)
sub_in None want = None
sub_in (Some v) want = first_tlv (subs_of v) want

unfoldable pub mpls_of : List ℕ → Option (List ℕ)
mpls_of s = sub_in (setup_of s) mpls_capability

unfoldable pub srv6_of : List ℕ → Option (List ℕ)
srv6_of s = sub_in (setup_of s) srv6_capability

-- A setup type is listed: type 1, type 3.
unfoldable pub mpls_listed : List ℕ → Bool
mpls_listed s = listed_in (setup_of s) mpls_setup

unfoldable pub listed : List ℕ → Bool
listed s = listed_in (setup_of s) srv6_setup

-- rule 28 ------------------------------------------------------------------------------------------------------

-- "28 unusable bit positions .., before all others" (document 02, C-15).
unfoldable pub breaks28 : Positions → Bool
breaks28 p = not (usable_positions p)

-- rule 1 -------------------------------------------------------------------------------------------------------

-- The frame, `framed`, stands in open_frame/specs/Framed.

-- "every TLV must fit."
unfoldable pub fitting : List ℕ → Bool
fitting s = tlvs_whole (open_tlvs s)

-- "The first TLV 34 must hold its padded list and whole sub-TLVs."
abbrev pub holds_all : Option (List ℕ) → Bool
holds_all None = true
holds_all (Some v) = holds_list v && tlvs_whole (subs_of v)

unfoldable pub holding : List ℕ → Bool
holding s = holds_all (setup_of s)

-- "Else 1.", with no sub-TLV at fault.
unfoldable pub breaks1 : List ℕ → Bool
breaks1 s = not (framed s && (fitting s && holding s))

-- "With type 1 listed, sub-TLV 26 must have length 4 (1), .."
abbrev pub mpls_sized_in : Option (List ℕ) → Bool
mpls_sized_in None = true
mpls_sized_in (Some w) = mpls_sized_of w

unfoldable pub breaks1_mpls : List ℕ → Bool
breaks1_mpls s = mpls_listed s && not (mpls_sized_in (mpls_of s))

-- "If type 3 is listed, sub-TLV 27 must have an even length of at least 4. Else 1."
abbrev pub sized_in : Option (List ℕ) → Bool
sized_in None = true
sized_in (Some w) = sized_of w

unfoldable pub breaks1_srv6 : List ℕ → Bool
breaks1_srv6 s = listed s && not (sized_in (srv6_of s))

-- rule 2 -------------------------------------------------------------------------------------------------------

-- ".. be there (2), .. else it is ignored."
unfoldable pub breaks2_mpls : List ℕ → Bool
breaks2_mpls s = mpls_listed s && not_there (mpls_of s)

-- "Type 3 listed and no sub-TLV 27: 2. Sub-TLV 27 without type 3 is ignored."
unfoldable pub breaks2_srv6 : List ℕ → Bool
breaks2_srv6 s = listed s && not_there (srv6_of s)

-- rule 3 -------------------------------------------------------------------------------------------------------

-- ".. and X or a depth above 0 (3)"
abbrev pub depthless_sub : Option (List ℕ) → Bool
depthless_sub None = false
depthless_sub (Some w) = depthless w

unfoldable pub breaks3_mpls : List ℕ → Bool
breaks3_mpls s = mpls_listed s && depthless_sub (mpls_of s)

abbrev pub wrong_sub : Option (List ℕ) → Bool
wrong_sub None = false
wrong_sub (Some w) = wrong_of w

-- "X is 0 and a pair's type isn't 41, 42, 44 or 45: 3."
unfoldable pub breaks3_srv6 : List ℕ → Bool
breaks3_srv6 s = listed s && wrong_sub (srv6_of s)

-- the answer ---------------------------------------------------------------------------------------------------

abbrev pub said_by : Positions → Option (List ℕ) → Opened
said_by p None = without_srv6
said_by p (Some w) = carries_by p w

-- SRv6 is carried where type 3 is listed, as sub-TLV 27 says.
unfoldable pub srv6_carried : Positions → List ℕ → Opened
srv6_carried p s = cond (listed s) (said_by p (srv6_of s)) without_srv6

abbrev pub beside_by : Opened → Option (List ℕ) → Bool → Opened
beside_by o sub false = o
beside_by o None true = o
beside_by o (Some w) true = mpls_beside o w

-- MPLS is carried beside it where type 1 is listed, as sub-TLV 26 says.
unfoldable pub carries_of : Positions → List ℕ → Opened
carries_of p s = beside_by (srv6_carried p s) (mpls_of s) (mpls_listed s)

-- A rule: the number that it refuses by, the form at fault, and whether it is broken.
pub record Rule : Type 0 where
  pub number : ℕ
  pub form : ℕ
  pub broken : Bool

abbrev pub rule : ℕ → ℕ → Bool → Rule
rule number form broken = record { number = number; form = form; broken = broken }

-- The first broken one refuses.
abbrev pub first_rule : List Rule → Opened → Opened
first_rule rs o = first_of (λ r. r.broken) (λ r. open_refused r.number r.form) rs o

-- 28 "before all others". "Order: 1, 2, 3.", and of each 26's "tested before 27's".
abbrev pub open_rules : Positions → List ℕ → List Rule
open_rules p s =
    rule not_usable no_form (breaks28 p)
    ∷ rule open_malformed no_form (breaks1 s)
    ∷ rule open_malformed mpls_setup (breaks1_mpls s)
    ∷ rule open_malformed srv6_setup (breaks1_srv6 s)
    ∷ rule capability_missing mpls_setup (breaks2_mpls s)
    ∷ rule capability_missing srv6_setup (breaks2_srv6 s)
    ∷ rule wrong_msd mpls_setup (breaks3_mpls s)
    ∷ rule wrong_msd srv6_setup (breaks3_srv6 s)
    ∷ []

-- "Otherwise accepted."
unfoldable pub open_of : Positions → List ℕ → Opened
open_of p s = first_rule (open_rules p s) (carries_of p s)
