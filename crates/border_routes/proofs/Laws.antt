-- What the calls below answer, and what judging lays out by hand, is what is asked for at the border. Each law puts what the code has in the place of what the definitions name: the flag
-- of an ERO, the session that the setup type names (with neither A nor R it may go without v and m, `plain_judged`). Assumes nothing.
use Rattle.std.specs.Prelude.{Option, None}
use Prim.Native.Nat.{ℕ}
use mathlib.Core.Path.{◌≡◌, refl, sym, ap, ◌∙◌}
use mathlib.Core.List.{List}
use mathlib.Core.Bool.{Bool, false, cond}
use borrow.Author.Tests.{ne_eqb}
use Rattle.answers.specs.declared.verdict.Verdict.{Verdict}
use Rattle.answers.specs.Numbers.{not_usable}
use Rattle.answers.specs.Verdicts.{refused_by}
use Rattle.objects.specs.Objects.{mpls_setup}
use Rattle.session.specs.declared.Session.{Session}
use Rattle.session.specs.Sessions.{session_under}
use Rattle.route.specs.Picked.{Picked}
use Rattle.route.specs.Parts.{session_by}
use Rattle.route.specs.Routes.{judge_as, judge_of}
use Rattle.octets.proofs.Said.{either_false}
use Rattle.route_call.proofs.Laws.{own_session}
use Rattle.route_call.specs.Called.{rule28, judged_in, judged_for, segment_in, segment_for}
use Rattle.border_records.specs.declared.verdict.VerdictRecord.{VerdictRecord}
use Rattle.border_session.specs.declared.SessionRecord.{SessionRecord}
use Rattle.border_records.specs.Records.{is_yes, limit_in, verdict_out}
use Rattle.border_session.specs.Agreed.{srv6_in, mpls_in, sessions_in}
use Rattle.border_session.specs.Parts.{flagged_of}
use Rattle.border_segment.specs.declared.picking.PickedRecord.{PickedRecord}
use Rattle.border_segment.specs.declared.stepping.SteppedRecord.{SteppedRecord}
use Rattle.border_segment.specs.Segments.{picked_out, stepped_out}
use Rattle.route_step.specs.Stepped.{Stepped}
use Rattle.route_step.specs.Steps.{step_of}

-- A session without A and R, and without v and m, which only they bring in.
abbrev plain_of : Session → Session
plain_of x = record { agreed = x.agreed; n = x.n; limit = x.limit; a = false; r = false; v = None; m = None }

-- With neither flag v and m play no part, so that a session without them is judged in alike.
plain_judged : (s : List ℕ) (ero : Bool) (session : Session) (pst : ℕ) (addresses : List ℕ) → flagged_of session ≡ false
    → judged_in s ero (plain_of session) pst addresses ≡ judged_in s ero session pst addresses
unfolding judged_in judge_of judge_as
plain_judged s ero session pst addresses e =
    let none = either_false session.a session.r e in
    let judged : Session → Verdict = λ x. cond (rule28 addresses) (refused_by not_usable 0) (judge_of s ero x pst) in
    ap judged (own_session s ero (plain_of session) pst addresses refl refl) ∙ sym (ap judged (own_session s ero session pst addresses none.0 none.1))

-- The parts that are handed on are those of the session that the setup type names.
module _ (s addresses : List ℕ) (ero : Bool) (session : SessionRecord) (pst : ℕ) {agreed n : Bool} {limit : Option ℕ} where
  pub mpls_judged : {v : Verdict} → pst ≡ mpls_setup → agreed ≡ is_yes session.mpls → n ≡ is_yes session.mplsn → limit ≡ limit_in session.mplslimited session.mplslimit
      → v ≡ judged_in s ero (session_by agreed n limit) pst addresses → v ≡ judged_for s ero (sessions_in session) pst addresses
  unfolding session_under
  mpls_judged p a b c e =
      let same : session_by agreed n limit ≡ mpls_in session = rw (a, b, c) refl in
      e ∙ ap (λ (x : Session). judged_in s ero x pst addresses) (same ∙ rw p refl)

  pub srv6_judged : {v : Verdict} → (pst ≡ mpls_setup → ⊥) → flagged_of (session_under (sessions_in session) pst) ≡ false → agreed ≡ is_yes session.agreed → n ≡ is_yes session.n
      → limit ≡ limit_in session.limited session.limit → v ≡ judged_in s ero (session_by agreed n limit) pst addresses → v ≡ judged_for s ero (sessions_in session) pst addresses
  unfolding session_under
  srv6_judged p f a b c e =
      let under : session_under (sessions_in session) pst ≡ srv6_in session = rw (ne_eqb pst mpls_setup p) refl in
      let same : session_by agreed n limit ≡ plain_of (srv6_in session) = rw (a, b, c) refl in
      e ∙ ap (λ (x : Session). judged_in s ero x pst addresses) (same ∙ ap plain_of (sym under))
      ∙ plain_judged s ero (session_under (sessions_in session) pst) pst addresses f

module _ (s addresses : List ℕ) (ero : ℕ) (session : SessionRecord) (pst : ℕ) (k : Bool) (f : k ≡ is_yes ero) where
  pub judge_told : (v : Verdict) (r : VerdictRecord) → v ≡ judged_for s k (sessions_in session) pst addresses → r ≡ verdict_out v
      → r ≡ verdict_out (judged_for s (is_yes ero) (sessions_in session) pst addresses)
  judge_told v r e o = o ∙ ap verdict_out (e ∙ ap (λ (x : Bool). judged_for s x (sessions_in session) pst addresses) f)

  pub segment_told : (i : ℕ) (g : Session) (p : Picked) (r : PickedRecord) → g ≡ session_under (sessions_in session) pst → p ≡ segment_in s k g pst addresses i → r ≡ picked_out p
      → r ≡ picked_out (segment_for s (is_yes ero) (sessions_in session) pst addresses i)
  segment_told i g p r h e o =
      o ∙ ap picked_out (e ∙ ap (λ (x : Bool). segment_in s x g pst addresses i) f ∙ ap (λ (y : Session). segment_in s (is_yes ero) y pst addresses i) h)

pub step_told : (s : List ℕ) (ero pst at : ℕ) (k : Bool) (x : Stepped) (r : SteppedRecord) → k ≡ is_yes ero → x ≡ step_of s k pst at → r ≡ stepped_out x
    → r ≡ stepped_out (step_of s (is_yes ero) pst at)
step_told s ero pst at k x r f e o = o ∙ ap stepped_out (e ∙ ap (λ (b : Bool). step_of s b pst at) f)
