-- The three ways that a check ends, and that its answer is determined.
use Rattle.std.specs.Prelude.{Some, Result, Ok, Err}
use Rattle.std.specs.Result.{IsErrAnd}
use Prim.Native.Nat.{ℕ}
use mathlib.Core.Path.{◌≡◌, refl, ap, ◌∙◌}
use mathlib.Core.Bool.{true}
use mathlib.Core.List.{List, []}
use borrow.Author.Tests.{eq-eqb, ne_eqb}
use Rattle.objects.specs.Objects.{srv6_setup}
use Rattle.answers.proofs.Determined.{determined}
use Rattle.answers.proofs.Results.{numbered}
use Rattle.answers.specs.Reasons.{number_of}
use Rattle.answers.specs.declared.refusal.Refusal.{Refusal}
use Rattle.answers.specs.declared.refusal.Counts.{Counts}
use Rattle.answers.specs.declared.verdict.Verdict.{Verdict}
use Rattle.answers.specs.Verdicts.{refused_by, verdict_of}
use Rattle.answers.specs.Verdicts.{refusal_of as verdict_refused}
use Rattle.flag_positions.specs.declared.Positions.{Positions}
use Rattle.flag_positions.specs.Positions.{first_two}
use Rattle.open.specs.Open.{open_of}
use Rattle.session.specs.Opened.{Opened}
use Rattle.session.specs.declared.Sessions.{Sessions}
use Rattle.session.specs.declared.opened.Carried.{Carried}
use Rattle.session.specs.declared.opened.OpenRefusal.{OpenRefusal}
use Rattle.session.specs.Answered.{carried_of, refusal_of, carried_in}
use Rattle.session.proofs.Laws.{carried_back}
use Rattle.session.specs.Sessions.{sessions_of}
use Rattle.route_call.specs.Called.{judged_for}
use Rattle.checker_verdict.specs.Checking.{pcc_of, pce_of, ero_of, checked_of}

-- An OPEN read at the positions 0 and 1, of octets that were cut off.
pub opened_told : {p : Positions} {x y : List ℕ} {o : Opened} → p ≡ first_two → x ≡ y → o ≡ open_of p x → o ≡ open_of first_two y
opened_told e f g = g ∙ (λ i. open_of (e i) (f i))

module _ (s : List ℕ) where
  pub pcc_refused : (o : Opened) → o ≡ pcc_of s → (o.number ≡ 0 → ⊥) → refused_by o.number 0 ≡ checked_of s
  unfolding checked_of
  pcc_refused o e h = rw (← e, ne_eqb o.number 0 h)

  pub pce_refused : (o p : Opened) → o ≡ pcc_of s → o.number ≡ 0 → p ≡ pce_of s → (p.number ≡ 0 → ⊥) → refused_by p.number 0 ≡ checked_of s
  unfolding checked_of
  pce_refused o p e h f k = rw (← e, ← f, eq-eqb o.number 0 h, ne_eqb p.number 0 k)

  pub ero_judged : (o p : Opened) (g : Sessions) (x : List ℕ) {v : Verdict} → o ≡ pcc_of s → o.number ≡ 0 → p ≡ pce_of s → p.number ≡ 0 → g ≡ sessions_of o p
      → x ≡ ero_of s → v ≡ judged_for x true g srv6_setup [] → v ≡ checked_of s
  unfolding checked_of
  ero_judged o p g x e h f k a b j =
      j ∙ (λ i. judged_for (b i) true (a i) srv6_setup []) ∙ rw (← e, ← f, eq-eqb o.number 0 h, eq-eqb p.number 0 k)

-- Of any two answers that fit the contract, equality.
pub check_determined : (s : List ℕ) {a b : Verdict} → a ≡ checked_of s → b ≡ checked_of s → a ≡ b
check_determined s = determined

-- ## The same of what the calls answer

-- A refused OPEN's refusal, handed on.
handed_on : (r : Result Counts Refusal) (e : OpenRefusal) → IsErrAnd r (λ (x : Refusal). x ≡ record { reason = e.reason; place = 0 }) → verdict_of r ≡ refused_by (number_of e.reason) 0
handed_on (Ok c) e h = absurd h
handed_on (Err x) e h = ap verdict_refused h

module _ (s : List ℕ) (r : Result Counts Refusal) where
  pub pcc_refusal_is : (e : OpenRefusal) → IsErrAnd r (λ (x : Refusal). x ≡ record { reason = e.reason; place = 0 }) → refusal_of e ≡ pcc_of s → verdict_of r ≡ checked_of s
  pcc_refusal_is e h f = handed_on r e h ∙ pcc_refused s (refusal_of e) f (numbered e.reason)

  pub pce_refusal_is : (c : Carried) (e : OpenRefusal) → IsErrAnd r (λ (x : Refusal). x ≡ record { reason = e.reason; place = 0 }) → carried_of c ≡ pcc_of s → refusal_of e ≡ pce_of s
      → verdict_of r ≡ checked_of s
  pce_refusal_is c e h f g = handed_on r e h ∙ pce_refused s (carried_of c) (refusal_of e) f refl g (numbered e.reason)

  pub ero_result_is : (c d : Carried) (g : Sessions) (x : List ℕ) → carried_of c ≡ pcc_of s → carried_of d ≡ pce_of s
      → ((o p : Opened) → Some c ≡ carried_in o → Some d ≡ carried_in p → g ≡ sessions_of o p)
      → x ≡ ero_of s → verdict_of r ≡ judged_for x true g srv6_setup [] → verdict_of r ≡ checked_of s
  ero_result_is c d g x e f a b j =
      ero_judged s (carried_of c) (carried_of d) g x e refl f refl (a (carried_of c) (carried_of d) (carried_back c) (carried_back d)) b j
