-- Of any two answers that fit a call's contract, equality. Assumes nothing.
use Prim.Native.Nat.{ℕ}
use mathlib.Core.Path.{◌≡◌, sym, ◌∙◌}
use mathlib.Core.Bool.{Bool}
use mathlib.Core.List.{List}
use Rattle.std.proofs.Common.{Result}
use Rattle.answers.specs.declared.refusal.Refusal.{Refusal}
use Rattle.answers.specs.Verdicts.{passed_of}
use Rattle.answers.proofs.Results.{passed_back}
use Rattle.board_record.specs.declared.record.Board.{Board}
use Rattle.board_rules.specs.declared.answer.Handed.{Handed}
use Rattle.board_rules.specs.declared.answer.Mark.{Mark}
use Rattle.board_rules.specs.Handed.{handed_of}
use Rattle.board_rules.specs.Moved.{told_of}
use Rattle.board_rules.proofs.Results.{handed_back, told_back}
use Rattle.board_look_by_value.specs.ByValue.{body_number_by_value, body_by_value, body_form_by_value, next_by_value, moved_by_value, fresh_mark_on}

pub body_number_determined : (b : Board) (store : List ℕ) (k : ℕ) (x y : Result (Unit {0}) Refusal) → passed_of x ≡ body_number_by_value b store k
    → passed_of y ≡ body_number_by_value b store k → x ≡ y
body_number_determined b store k x y p q = passed_back x y (p ∙ sym q)

pub body_determined : (b : Board) (store : List ℕ) (k : ℕ) (x y : List ℕ) → x ≡ body_by_value b store k → y ≡ body_by_value b store k → x ≡ y
body_determined b store k x y p q = p ∙ sym q

pub body_form_determined : (b : Board) (store : List ℕ) (k x y : ℕ) → x ≡ body_form_by_value b store k → y ≡ body_form_by_value b store k → x ≡ y
body_form_determined b store k x y p q = p ∙ sym q

pub next_determined : (b : Board) (store : List ℕ) (s w : ℕ) (x y : Result Handed Refusal) → handed_of x ≡ next_by_value b store s w
    → handed_of y ≡ next_by_value b store s w → x ≡ y
next_determined b store s w x y p q = handed_back x y (p ∙ sym q)

pub moved_determined : (b : Board) (store : List ℕ) (from to m : ℕ) (x y : Result Bool Refusal) → told_of x ≡ moved_by_value b store from to m
    → told_of y ≡ moved_by_value b store from to m → x ≡ y
moved_determined b store from to m x y p q = told_back x y (p ∙ sym q)

pub fresh_mark_determined : (b : Board) (x y : Mark) → x ≡ fresh_mark_on b → y ≡ fresh_mark_on b → x ≡ y
fresh_mark_determined b x y p q = p ∙ sym q
