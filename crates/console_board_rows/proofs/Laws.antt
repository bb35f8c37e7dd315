-- What an arm leaves and answers is the row's.
use Prim.Native.Nat.{ℕ}
use mathlib.Core.Path.{◌≡◌, sym, subst}
use mathlib.Core.List.{List}
use Rattle.board_record.specs.declared.record.Board.{Board}
use Rattle.printing.specs.Text.{Behind}
use Rattle.command_rows.specs.declared.Changing.{Changing}
use Rattle.console_board.specs.BoardLines.{Boarding}

pub by_change : (f : Changing → Boarding) {row x : Changing} {board : Board} {store before after : List ℕ} {r : ℕ}
    → row ≡ x
    → board ≡ (f x).board
    → store ≡ (f x).store
    → Behind before after 0 r (f x).answer
    → (board ≡ (f row).board) × ((store ≡ (f row).store) × Behind before after 0 r (f row).answer)
by_change f {board = board} {store} {before} {after} {r} p a b t =
    subst (λ (y : Changing). (board ≡ (f y).board) × ((store ≡ (f y).store) × Behind before after 0 r (f y).answer)) (sym p) (a, (b, t))
