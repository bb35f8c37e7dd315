-- Of any two answers that fit a call's contract, with the record that each leaves, equality. Assumes nothing.
use Prim.Native.Nat.{ℕ}
use mathlib.Core.Path.{◌≡◌, sym, ◌∙◌}
use mathlib.Core.List.{List}
use Rattle.std.proofs.Common.{Result}
use Rattle.answers.specs.declared.refusal.Refusal.{Refusal}
use Rattle.answers.specs.declared.refusal.Counts.{Counts}
use Rattle.answers.specs.Verdicts.{verdict_of}
use Rattle.answers.proofs.Results.{verdict_back}
use Rattle.board_record.specs.declared.record.Board.{Board}
use Rattle.session.specs.declared.Session.{Session}
use Rattle.board_rules.specs.OnRecord.{result_of, report_on, report_store_on}
use Rattle.board_rules.proofs.OnRecord.{results_same}

pub report_determined : (b : Board) (store : List ℕ) (k : ℕ) (octets : List ℕ) (session : Session) (pst : ℕ) (v w : Result Counts Refusal) (c d : Board) (x y : List ℕ)
    → result_of (verdict_of v) c ≡ report_on b store k octets session pst
    → result_of (verdict_of w) d ≡ report_on b store k octets session pst
    → x ≡ report_store_on b store k octets session pst
    → y ≡ report_store_on b store k octets session pst
    → ((v ≡ w) × (c ≡ d)) × (x ≡ y)
report_determined b store k octets session pst v w c d x y p q r t =
    let same = results_same (report_on b store k octets session pst) (verdict_of v) (verdict_of w) c d p q in ((verdict_back v w same.0, same.1), r ∙ sym t)
