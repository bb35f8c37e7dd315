-- Of any two answers that fit a call's contract, equality. Assumes nothing.
use Prim.Native.Nat.{ℕ}
use mathlib.Core.Path.{◌≡◌, sym, ◌∙◌}
use mathlib.Core.Bool.{Bool}
use mathlib.Core.List.{List}
use Rattle.std.proofs.Common.{Result}
use Rattle.answers.specs.declared.refusal.Refusal.{Refusal}
use Rattle.board_record.specs.declared.record.Board.{Board}
use Rattle.board_rules.specs.declared.answer.Handed.{Handed}
use Rattle.board_rules.specs.Handed.{handed_of}
use Rattle.board_rules.specs.Moved.{told_of}
use Rattle.board_rules.specs.OnRecord.{next_on, moved_on}
use Rattle.board_rules.proofs.Results.{handed_back, told_back}

pub next_determined : (b : Board) (store : List ℕ) (s w : ℕ) (x y : Result Handed Refusal) → handed_of x ≡ next_on b store s w → handed_of y ≡ next_on b store s w → x ≡ y
next_determined b store s w x y p q = handed_back x y (p ∙ sym q)

pub moved_determined : (b : Board) (store : List ℕ) (from to m : ℕ) (x y : Result Bool Refusal) → told_of x ≡ moved_on b store from to m
    → told_of y ≡ moved_on b store from to m → x ≡ y
moved_determined b store from to m x y p q = told_back x y (p ∙ sym q)
