-- Of any two answers that fit the contract of report, with the record and the store that it leaves, equality. Assumes nothing.
use Prim.Native.Nat.{ℕ}
use mathlib.Core.Path.{◌≡◌, sym, ◌∙◌}
use mathlib.Core.List.{List}
use Rattle.board_record.specs.declared.record.Board.{Board}
use Rattle.session.specs.declared.Sessions.{Sessions}
use Rattle.board_rules.specs.OnRecord.{result_of}
use Rattle.board_rules.proofs.OnRecord.{results_same}
use Rattle.board_report_call.specs.Reported.{report_for_on, report_store_for_on}
use Rattle.std.proofs.Common.{Result}
use Rattle.answers.specs.declared.refusal.Refusal.{Refusal}
use Rattle.answers.specs.declared.refusal.Counts.{Counts}
use Rattle.answers.specs.Verdicts.{verdict_of}
use Rattle.answers.proofs.Results.{verdict_back}

pub report_determined : (b : Board) (store : List ℕ) (k : ℕ) (octets : List ℕ) (sessions : Sessions) (pst : ℕ) (addresses : List ℕ) (v w : Result Counts Refusal)
    (c d : Board) (x y : List ℕ)
    → result_of (verdict_of v) c ≡ report_for_on b store k octets sessions pst addresses
    → result_of (verdict_of w) d ≡ report_for_on b store k octets sessions pst addresses
    → x ≡ report_store_for_on b store k octets sessions pst addresses
    → y ≡ report_store_for_on b store k octets sessions pst addresses
    → ((v ≡ w) × (c ≡ d)) × (x ≡ y)
report_determined b store k octets sessions pst addresses v w c d x y p q r t =
    let same = results_same (report_for_on b store k octets sessions pst addresses) (verdict_of v) (verdict_of w) c d p q in
    ((verdict_back v w same.0, same.1), r ∙ sym t)
