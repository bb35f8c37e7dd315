-- The judgement by setup type: the PST names the form, SRv6's if it names none. Accepted is only 1 with MPLS agreed, and 3 with SRv6 agreed: an acceptance leaves 13
-- unbroken, and 13 is taken apart. The rest is the law of any form, taken to the form named (`by_named`). Assumes nothing.
use Rattle.std.specs.Prelude.{Option}
use Prim.Native.Nat.{ℕ, ◌%◌, ◌≤◌}
use mathlib.Core.Path.{◌≡◌, refl, sym, ◌∙◌, ap, subst}
use mathlib.Core.List.{List}
use mathlib.Core.Logic.{◌⊎◌, inl, inr}
use mathlib.Core.Bool.{Bool, true, false, ◌&&◌}
use lib.Dec.{eqb}
use lib.ListN.{length, drop}
use borrow.Author.Tests.{eqb-true, not-false}
use Rattle.octets.proofs.Said.{both_true, and_false}
use Rattle.objects.specs.Objects.{header, unit, mpls_setup, srv6_setup}
use Rattle.forms.specs.declared.Form.{Form}
use Rattle.forms.specs.Forms.{srv6_form, mpls_form, form_of}
use Rattle.forms.proofs.Laws.{form_mpls, form_srv6, srv6_shortest, mpls_shortest}
use Rattle.answers.specs.declared.verdict.Verdict.{Verdict}
use Rattle.answers.specs.Verdicts.{carrying_both}
use Rattle.session.specs.declared.Session.{Session}
use Rattle.route_rules.specs.SessionRules.{past, rule12}
use Rattle.route_rules.specs.Parts.{limited_of}
use Rattle.route_pass.specs.Settled.{Settled}
use Rattle.route.specs.Picked.{Picked}
use Rattle.route.specs.Parts.{session_by}
use Rattle.route.specs.Routes.{rule13, judge_as, segment_as, judge_of, segment_of}
use Rattle.route.proofs.Answer as answer
use Rattle.route.proofs.Numbers as numbers

-- The form is the one that the setup type names,
pub judged_as : (s : List ℕ) (ero : Bool) (session : Session) (pst : ℕ) → judge_of s ero session pst ≡ judge_as (form_of pst) s ero session pst
unfolding judge_of
judged_as s ero session pst = refl

pub segment_as_lem : (s : List ℕ) (ero : Bool) (session : Session) (pst i : ℕ) → segment_of s ero session pst i ≡ segment_as (form_of pst) s ero session pst i
unfolding segment_of
segment_as_lem s ero session pst i = refl

-- MPLS for 1, SRv6 for 3 and all others, by computing.
pub judged_mpls : (s : List ℕ) (ero : Bool) (session : Session) → judge_of s ero session mpls_setup ≡ judge_as mpls_form s ero session mpls_setup
unfolding judge_of
judged_mpls s ero session = refl

pub judged_srv6 : (s : List ℕ) (ero : Bool) (session : Session) → judge_of s ero session srv6_setup ≡ judge_as srv6_form s ero session srv6_setup
unfolding judge_of
judged_srv6 s ero session = refl

-- In the words of the code.
module _ (s : List ℕ) (ero : Bool) (session : Session) (pst : ℕ) {form : Form} where
  pub by_named : {v : Verdict} → form ≡ form_of pst → v ≡ judge_as form s ero session pst → v ≡ judge_of s ero session pst
  unfolding judge_of
  by_named f g = g ∙ ap (λ (x : Form). judge_as x s ero session pst) f

  pub picked_named : (i : ℕ) {p : Picked} → form ≡ form_of pst → p ≡ segment_as form s ero session pst i → p ≡ segment_of s ero session pst i
  unfolding segment_of
  picked_named i f g = g ∙ ap (λ (x : Form). segment_as x s ero session pst i) f

-- an acceptance ------------------------------------------------------------------------------------------------

-- A setup type that names no form is never accepted: 13 at the latest.
module _ (s : List ℕ) (ero : Bool) (session : Session) (pst : ℕ) (z : (judge_of s ero session pst).number ≡ 0) where
  named : (eqb pst (form_of pst).setup && session.agreed) ≡ true
  unfolding judge_of rule13
  named = not-false _ (answer.accepted_none (form_of pst) s ero session pst z).1.1.1.1.0

  pub accepted_setup : pst ≡ (form_of pst).setup
  accepted_setup = eqb-true pst (form_of pst).setup (both_true (eqb pst (form_of pst).setup) session.agreed named).0

  pub accepted_agreed : session.agreed ≡ true
  accepted_agreed = (both_true (eqb pst (form_of pst).setup) session.agreed named).1

  pub accepted_one : (pst ≡ mpls_setup) ⊎ (pst ≡ srv6_setup)
  accepted_one = go (eqb pst mpls_setup) refl
    where
      go : (b : Bool) → eqb pst mpls_setup ≡ b → (pst ≡ mpls_setup) ⊎ (pst ≡ srv6_setup)
      go true e = inl (eqb-true pst mpls_setup e)
      go false e = inr (accepted_setup ∙ rw e)

  -- "A body is a multiple of 4" and of MPLS at least 8 octets, of SRv6 at least 24: what the board keeps of an accepted route, the octets after its header.
  pub body_mpls : pst ≡ mpls_setup → (8 ≤ length (drop header s)) × (length (drop header s) % unit ≡ 0)
  unfolding judge_of
  body_mpls e =
      answer.accepted_body mpls_form s ero session pst 4 mpls_shortest (subst (λ (x : Form). (judge_as x s ero session pst).number ≡ 0) (sym (form_mpls pst e)) z)

  pub body_srv6 : (pst ≡ mpls_setup → ⊥) → (24 ≤ length (drop header s)) × (length (drop header s) % unit ≡ 0)
  unfolding judge_of
  body_srv6 n =
      answer.accepted_body srv6_form s ero session pst 16 srv6_shortest (subst (λ (x : Form). (judge_as x s ero session pst).number ≡ 0) (sym (form_srv6 pst n)) z)

-- The numbers answered are none of the board's.
pub judge_low : (s : List ℕ) (ero : Bool) (session : Session) (pst : ℕ) → numbers.OtherNumber (judge_of s ero session pst).number
unfolding judge_of
judge_low s ero session pst = numbers.judge_low (form_of pst) s ero session pst

-- Of a session judging looks at three parts: agreed or not, N and the limit.
pub judge_parts : (s : List ℕ) (ero : Bool) (session : Session) (pst : ℕ) → judge_of s ero (session_by session.agreed session.n session.limit) pst ≡ judge_of s ero session pst
unfolding judge_of judge_as
judge_parts s ero session pst = refl

-- the pass -----------------------------------------------------------------------------------------------------

-- Where it settled a route, and 13 and 12 are not broken, the route is accepted.
module _ (s : List ℕ) (ero agreed n : Bool) (limit : Option ℕ) (pst : ℕ) {count stray : ℕ} (x : Settled (form_of pst) s ero n count stray) where
  unlimited : past limit count ≡ false → carrying_both count stray ≡ limited_of (carrying_both count stray) s ero limit
  unfolding limited_of rule12
  unlimited l = rw (l, and_false ero)

  pub pass_accepts : rule13 (form_of pst) agreed pst ≡ false → past limit count ≡ false → carrying_both count stray ≡ judge_of s ero (session_by agreed n limit) pst
  pass_accepts e l =
      let session = session_by agreed n limit in
      by_named s ero session pst refl
      (answer.walk_then_limit (form_of pst) s ero session pst (answer.settled_none _ _ _ _ x) _ _ count e (sym x.walk) (answer.settled_count _ _ _ _ x) (unlimited l))
