-- Of any two answers that fit a call's contract, with the record that each leaves, equality. Assumes nothing.
use Prim.Native.Nat.{ℕ}
use mathlib.Core.Path.{◌≡◌}
use mathlib.Core.List.{List}
use Rattle.std.proofs.Common.{Result}
use Rattle.answers.specs.declared.refusal.Refusal.{Refusal}
use Rattle.answers.specs.Verdicts.{passed_of}
use Rattle.answers.proofs.Results.{passed_back}
use Rattle.board_record.specs.declared.record.Board.{Board}
use Rattle.board_rules.specs.OnRecord.{result_of, remove_on}
use Rattle.board_rules.proofs.OnRecord.{results_same}

pub remove_determined : (b : Board) (store : List ℕ) (k : ℕ) (x y : Result (Unit {0}) Refusal) (c d : Board) → result_of (passed_of x) c ≡ remove_on b store k
    → result_of (passed_of y) d ≡ remove_on b store k → (x ≡ y) × (c ≡ d)
remove_determined b store k x y c d p q =
    let same = results_same (remove_on b store k) (passed_of x) (passed_of y) c d p q in (passed_back x y same.0, same.1)
