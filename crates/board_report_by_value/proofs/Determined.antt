-- Of any two answers that fit the contract of report, with the store that it leaves, equality. Assumes nothing.
use Prim.Native.Nat.{ℕ}
use mathlib.Core.Path.{◌≡◌, refl, sym, ◌∙◌}
use mathlib.Core.List.{List}
use Rattle.std.proofs.Common.{Result}
use Rattle.answers.specs.declared.refusal.Refusal.{Refusal}
use Rattle.answers.specs.declared.refusal.Counts.{Counts}
use Rattle.answers.proofs.Results.{view_back}
use Rattle.session.specs.declared.Sessions.{Sessions}
use Rattle.board_record.specs.declared.record.Board.{Board}
use Rattle.board_report_by_value.specs.ByValue.{report_by_value, report_store_by_value, counted_back_of}

pub counted_record_back : (b : Board) (x y : Result (Board × Counts) Refusal) → counted_back_of b x ≡ counted_back_of b y → x ≡ y
counted_record_back b =
    view_back (counted_back_of b) (λ a. a.verdict) (λ a. (a.board, record { count = a.verdict.count; stray = a.verdict.stray })) (λ _. refl) (λ _. refl) (λ _. refl)

pub report_determined : (b : Board) (store : List ℕ) (k : ℕ) (octets : List ℕ) (sessions : Sessions) (pst : ℕ) (addresses : List ℕ)
    (v w : Result (Board × Counts) Refusal) (x y : List ℕ)
    → counted_back_of b v ≡ report_by_value b store k octets sessions pst addresses
    → counted_back_of b w ≡ report_by_value b store k octets sessions pst addresses
    → x ≡ report_store_by_value b store k octets sessions pst addresses
    → y ≡ report_store_by_value b store k octets sessions pst addresses
    → (v ≡ w) × (x ≡ y)
report_determined b store k octets sessions pst addresses v w x y p q r t = (counted_record_back b v w (p ∙ sym q), r ∙ sym t)
