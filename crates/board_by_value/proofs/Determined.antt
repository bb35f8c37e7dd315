-- Of any two answers that fit a call's contract, equality. Assumes nothing.
use Prim.Native.Nat.{ℕ}
use mathlib.Core.Path.{◌≡◌, refl, sym, ◌∙◌}
use mathlib.Core.List.{List}
use Rattle.std.proofs.Common.{Result}
use Rattle.answers.specs.declared.refusal.Refusal.{Refusal}
use Rattle.answers.proofs.Results.{view_back}
use Rattle.board_record.specs.declared.record.Board.{Board}
use Rattle.board_by_value.specs.Back.{back_of}
use Rattle.board_by_value.specs.ByValue.{remove_by_value, compact_by_value}

pub record_back : (b : Board) (x y : Result Board Refusal) → back_of b x ≡ back_of b y → x ≡ y
record_back b = view_back (back_of b) (λ a. a.verdict) (λ a. a.board) (λ _. refl) (λ _. refl) (λ _. refl)

pub remove_determined : (b : Board) (store : List ℕ) (k : ℕ) (x y : Result Board Refusal) → back_of b x ≡ remove_by_value b store k
    → back_of b y ≡ remove_by_value b store k → x ≡ y
remove_determined b store k x y p q = record_back b x y (p ∙ sym q)

pub compact_determined : (b : Board) (store : List ℕ) (m : ℕ) (x y : Result Board Refusal) → back_of b x ≡ compact_by_value b store m
    → back_of b y ≡ compact_by_value b store m → x ≡ y
compact_determined b store m x y p q = record_back b x y (p ∙ sym q)
