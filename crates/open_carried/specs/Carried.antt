-- No promise to a caller rests on this file: what the values that the walks found carry, by the order in which the code asks. That it is the
-- answer of open/specs/Open is proved (open/proofs/Laws, `answered`).
use Rattle.std.specs.Prelude.{ℕ, List, Bool, cond, not, ◌&&◌, eqb, ltb, Option, None, Some}
use Rattle.objects.specs.Objects.{mpls_setup, srv6_setup}
use Rattle.answers.specs.Numbers.{capability_missing}
use Rattle.flag_positions.specs.declared.Positions.{Positions}
use Rattle.session.specs.Opened.{Opened}
use Rattle.session.specs.Sessions.{open_refused, without_srv6, with_mpls}
use Rattle.setup_types.specs.SetupTypes.{listed_in}
use Rattle.capability_mpls.specs.Mpls.{mpls_announced_of}
use Rattle.capability.specs.Srv6.{announced_of}

-- SRv6's half, of the values of TLV 34 and of sub-TLV 27.
abbrev pub announced_by : Positions → Option (List ℕ) → Opened
announced_by p None = open_refused capability_missing srv6_setup
announced_by p (Some w) = announced_of p w

abbrev pub srv6_by : Positions → Option (List ℕ) → Option (List ℕ) → Opened
srv6_by p v sub = cond (listed_in v srv6_setup) (announced_by p sub) without_srv6

-- MPLS's half, of the values of TLV 34 and of sub-TLV 26.
abbrev pub mpls_announced_by : Option (List ℕ) → Opened
mpls_announced_by None = open_refused capability_missing mpls_setup
mpls_announced_by (Some w) = mpls_announced_of w

abbrev pub mpls_by : Option (List ℕ) → Option (List ℕ) → Opened
mpls_by v sub = cond (listed_in v mpls_setup) (mpls_announced_by sub) without_srv6

-- Both in one answer: of two refusals that by the smaller number, MPLS's where they are equal.
abbrev pub goes_first : Opened → Opened → Bool
goes_first m o = not (eqb m.number 0) && not (not (eqb o.number 0) && ltb o.number m.number)

abbrev pub joined_of : Opened → Opened → Opened
joined_of m o = cond (goes_first m o) m (cond (m.mpls && eqb o.number 0) (with_mpls o m.mplsn m.mplslimit) o)
