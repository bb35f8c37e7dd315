-- The record that a call hands back, from what the call on its lent parts leaves in them: a refusal leaves all of it. Assumes nothing.
use Prim.Native.Nat.{ℕ}
use mathlib.Core.Path.{◌≡◌, refl, sym, ap, ◌∙◌}
use mathlib.Core.Bool.{Bool, true, false, cond}
use mathlib.Core.List.{List}
use Rattle.std.proofs.Common.{Err}
use Rattle.answers.specs.Numbers.{not_usable}
use Rattle.answers.specs.declared.verdict.Verdict.{Verdict}
use Rattle.answers.specs.declared.refusal.Refusal.{Refusal}
use Rattle.answers.specs.Verdicts.{refused_by, refusal_of}
use Rattle.session.specs.declared.Sessions.{Sessions}
use Rattle.session.specs.Sessions.{session_under}
use Rattle.route_limit.specs.FirstOff.{session_for}
use Rattle.route_call.specs.Called.{rule28}
use Rattle.board_record.specs.declared.record.Board.{Board}
use Rattle.board_record.specs.Record.{table_in}
use Rattle.board_rules.specs.Report.{report_answer}
use Rattle.board_rules.specs.OnRecord as lent
use Rattle.board_report_call.specs.Reported as called
use Rattle.board_by_value.specs.ByValue.{answer_of}
use Rattle.board_by_value.proofs.Laws.{refused_keeps}
use Rattle.board_report_by_value.specs.ByValue.{report_by_value, counted_back_of}

module _ (b : Board) (store : List ℕ) (d : Board) (k : ℕ) (octets : List ℕ) (sessions : Sessions) (pst : ℕ) (addresses : List ℕ) where
  pub report_back : (v : Verdict) → lent.result_of v d ≡ called.report_for_on b store k octets sessions pst addresses
      → answer_of (lent.result_of v d) ≡ report_by_value b store k octets sessions pst addresses
  unfolding report_by_value
  report_back v e = ap answer_of e

  -- 28 goes before the record is looked at, so it leaves it too
  report_keeps : (e : Refusal) → refusal_of e ≡ (called.report_for_on b store k octets sessions pst addresses).verdict
      → (called.report_for_on b store k octets sessions pst addresses).board ≡ b
  unfolding called.report_for_on
  report_keeps e = go (rule28 addresses)
    where
      go : (x : Bool)
          → refusal_of e ≡ (cond x (lent.result_of (refused_by not_usable 0) b) (lent.report_on b store k octets (session_for octets true (session_under sessions pst) addresses) pst)).verdict
          → (cond x (lent.result_of (refused_by not_usable 0) b) (lent.report_on b store k octets (session_for octets true (session_under sessions pst) addresses) pst)).board ≡ b
      go true q = refl
      go false q = refused_keeps b (report_answer (table_in b) store k octets (session_for octets true (session_under sessions pst) addresses) pst) e q

  pub report_kept : (e : Refusal) → lent.result_of (refusal_of e) d ≡ called.report_for_on b store k octets sessions pst addresses
      → counted_back_of b (Err e) ≡ report_by_value b store k octets sessions pst addresses
  unfolding report_by_value
  report_kept e q =
      let v : refusal_of e ≡ (called.report_for_on b store k octets sessions pst addresses).verdict = ap (λ (x : lent.Result). x.verdict) q in
      let w : b ≡ (called.report_for_on b store k octets sessions pst addresses).board = sym (report_keeps e v) in
      λ i. record { verdict = v i; board = w i }
