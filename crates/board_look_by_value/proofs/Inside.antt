-- The octets that body and next name lie in the store. Assumes nothing.
use Prim.Native.Nat.{ℕ, ◌+◌, ◌*◌, ◌≤◌}
use mathlib.Core.Path.{◌≡◌}
use mathlib.Core.Bool.{Bool, true, false, cond}
use native.Mathlib.Omega.{arith}
use mathlib.Core.List.{List, []}
use lib.ListN.{length}
use Rattle.board_record.specs.declared.record.Board.{Board}
use Rattle.board_record.specs.Sizes.{room}
use Rattle.answers.specs.Numbers.{not_a_board}
use Rattle.answers.specs.Verdicts.{refused_by}
use Rattle.board_record.specs.Record.{table_in, tidy}
use Rattle.board_rules.specs.declared.answer.Change.{Change}
use Rattle.board_rules.specs.declared.answer.Octets.{Octets}
use Rattle.board_rules.specs.Handed.{Refused, Path}
use Rattle.board_rules.specs.Body.{body_of}
use Rattle.board_rules.specs.Next.{next_answer}
use Rattle.board_rules.specs.OnRecord as lent
use Rattle.board_rules.proofs.Inside as tables
use Rattle.board_look_by_value.specs.ByValue.{body_by_value, next_by_value}

pub body_inside : (b : Board) (store : List ℕ) (k : ℕ) → length (body_by_value b store k) ≤ length store
unfolding lent.body_on
body_inside b store k = go (tidy b)
  where
    go : (x : Bool) → length (cond x (body_of (table_in b) store k) []) ≤ length store
    go true = tables.body_inside (table_in b) store k
    go false = omega arith

pub path_inside : (b : Board) (store : List ℕ) (s w : ℕ) {change : Change} {path : Octets} → next_by_value b store s w ≡ Path change path
    → room * path.place + path.length ≤ length store
unfolding lent.next_on
path_inside b store s w {change} {path} e = go (tidy b) e
  where
    go : (x : Bool) → cond x (next_answer (table_in b) store s w) (Refused (refused_by not_a_board 0)) ≡ Path change path → room * path.place + path.length ≤ length store
    go true q = tables.path_inside (table_in b) store s w q
    go false q = absurd (let z : ◌≡◌ {A = ℕ} 0 1 = cc in omega arith)
