-- The two ways out of a report: 28, or the report under the limit for this route; what it changes.
use Prim.Native.Nat.{ℕ}
use mathlib.Core.Path.{◌≡◌, sym, ap, ◌∙◌}
use mathlib.Core.List.{List}
use mathlib.Core.Bool.{Bool, true, false}
use lib.ListN.{length}
use Rattle.answers.specs.declared.verdict.Verdict.{Verdict}
use Rattle.answers.specs.Numbers.{not_a_board, not_usable}
use Rattle.answers.specs.Verdicts.{refused_by}
use Rattle.session.specs.declared.Session.{Session}
use Rattle.session.specs.declared.Sessions.{Sessions}
use Rattle.session.specs.Sessions.{session_under}
use Rattle.head_end.specs.Addresses.{usable_list}
use Rattle.route_limit.specs.FirstOff.{session_for}
use Rattle.route_call.specs.Called.{rule28, judged_in, judged_for}
use Rattle.board_record.specs.declared.record.Board.{Board}
use Rattle.board_record.specs.Table.{Table}
use Rattle.board_rules.specs.Rules.{outcome_of}
use Rattle.board_rules.specs.Report.{report_with, report_answer, report_store}
use Rattle.board_rules.specs.OnRecord.{Result, result_of, report_on, report_store_on}
use Rattle.board_rules.proofs.OnRecord.{NoRecord, report_17_on}
use Rattle.board_report_call.specs.Reported.{report_for, report_store_for, report_for_on, report_store_for_on}

module _ (b : Board) (store : List ℕ) (k : ℕ) (octets : List ℕ) (sessions : Sessions) (pst : ℕ) (addresses : List ℕ) where
  pub reported_28 : {x : Bool} {v : Verdict} → x ≡ usable_list addresses → x ≡ false → v ≡ refused_by not_usable 0
      → (result_of v b ≡ report_for_on b store k octets sessions pst addresses) × (store ≡ report_store_for_on b store k octets sessions pst addresses)
  unfolding report_for_on report_store_for_on rule28
  reported_28 e f g = (rw (g, sym e ∙ f), rw (sym e ∙ f))

  pub reported_under : {x : Bool} {own g : Session} {o : Result} {after : List ℕ} → x ≡ usable_list addresses → x ≡ true → own ≡ session_under sessions pst
      → g ≡ session_for octets true own addresses
      → o ≡ report_on b store k octets g pst → after ≡ report_store_on b store k octets g pst
      → (o ≡ report_for_on b store k octets sessions pst addresses) × (after ≡ report_store_for_on b store k octets sessions pst addresses)
  unfolding report_for_on report_store_for_on rule28
  reported_under e f u h o a =
      let q = h ∙ ap (λ (x : Session). session_for octets true x addresses) u in (
        o ∙ ap (λ (x : Session). report_on b store k octets x pst) q ∙ rw (sym e ∙ f),
        a ∙ ap (λ (x : Session). report_store_on b store k octets x pst) q ∙ rw (sym e ∙ f),
      )

  -- With a usable list, 17 exactly if there is no board.
  pub report_call_17 : rule28 addresses ≡ false →
      let v = (report_for_on b store k octets sessions pst addresses).verdict in
      (NoRecord b (length store) → v ≡ refused_by not_a_board 0) × (v.number ≡ not_a_board → NoRecord b (length store))
  unfolding report_for_on
  report_call_17 e = rw e (report_17_on b store k octets (session_for octets true (session_under sessions pst) addresses) pst)

module _ (b : Table) (store : List ℕ) (k : ℕ) (octets : List ℕ) (sessions : Sessions) (pst : ℕ) (addresses : List ℕ) where
  -- A usable list: the report under the limit for this route.
  pub usable_reported : rule28 addresses ≡ false
      → (report_for b store k octets sessions pst addresses ≡ report_answer b store k octets (session_for octets true (session_under sessions pst) addresses) pst)
      × (report_store_for b store k octets sessions pst addresses ≡ report_store b store k octets (session_for octets true (session_under sessions pst) addresses) pst)
  unfolding report_for report_store_for
  usable_reported e = (rw e, rw e)

  -- Its route checks are those of the call that judges a route.
  pub judged_alike : rule28 addresses ≡ false → report_for b store k octets sessions pst addresses ≡ report_with b store k octets (judged_for octets true sessions pst addresses) pst
  unfolding report_for report_answer judged_in
  judged_alike e = rw e

  -- 28 changes nothing.
  pub unusable_reported : rule28 addresses ≡ true
      → (report_for b store k octets sessions pst addresses ≡ outcome_of (refused_by not_usable 0) b) × (report_store_for b store k octets sessions pst addresses ≡ store)
  unfolding report_for report_store_for
  unusable_reported e = (rw e, rw e)
