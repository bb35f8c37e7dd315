-- What a call that asked whether it has a board knows. Assumes nothing.
use Prim.Native.Nat.{ℕ, ◌≤◌}
use mathlib.Core.Path.{◌≡◌, sym, ap, ◌∙◌}
use mathlib.Core.Bool.{Bool, true, false, not}
use lib.Dec.{leb}
use borrow.Author.Tests.{leb-true, not-true, not-false}
use Rattle.answers.specs.declared.verdict.Verdict.{Verdict}
use Rattle.board_record.specs.Sizes.{store_size, version_most}
use Rattle.board_record.specs.Table.{Table}
use Rattle.board_record.specs.Proper.{proper_b}
use Rattle.octets.proofs.Said.{both_true}
use Rattle.board_record.proofs.Proper.{proper_is}
use Rattle.board_rules.specs.Rules.{Outcome, is_board, outcome_of}

-- ---- 17
pub board_not : (b : Table) (n : ℕ) (r : Bool) → r ≡ is_board b n → not r ≡ true → is_board b n ≡ false
board_not b n r e t = sym e ∙ not-true r t

pub board_is : (b : Table) (n : ℕ) (r : Bool) → r ≡ is_board b n → not r ≡ false → is_board b n ≡ true
board_is b n r e t = sym e ∙ not-false r t

pub board_room : (b : Table) (n : ℕ) → is_board b n ≡ true → store_size ≤ n
unfolding is_board
board_room b n e = leb-true store_size n (both_true (leb store_size n) (proper_b b) e).0

pub board_proper : (b : Table) (n : ℕ) → is_board b n ≡ true → proper_b b ≡ true
unfolding is_board
board_proper b n e = (both_true (leb store_size n) (proper_b b) e).1

pub version_room : (b : Table) (n : ℕ) (r : Bool) → r ≡ is_board b n → not r ≡ false → b.version ≤ version_most
version_room b n r e t = (proper_is b (board_proper b n (board_is b n r e t))).version_in

-- ---- two answers that fit are equal
pub answers_same : (a : Outcome) (v w : Verdict) (c d : Table) → outcome_of v c ≡ a → outcome_of w d ≡ a → (v ≡ w) × (c ≡ d)
answers_same a v w c d p q = (ap (λ (x : Outcome). x.verdict) (p ∙ sym q), ap (λ (x : Outcome). x.table) (p ∙ sym q))
