-- Two answers that fit the contract of `is_proper` are equal. Assumes nothing.
use Prim.Native.Nat.{ℕ}
use mathlib.Core.Path.{◌≡◌, sym, ◌∙◌}
use mathlib.Core.Bool.{Bool, ◌&&◌}
use mathlib.Core.List.{List}
use Rattle.board_record.specs.Table.{Table}
use Rattle.board_record.specs.Proper.{proper_b}
use Rattle.board_record.specs.Order.{in_order}
use Rattle.board_record.specs.Tops.{in_tops}

pub proper_determined : (b : Table) (order tops : List ℕ) (x y : Bool)
    → x ≡ (proper_b b && in_order b order && in_tops b.versions tops) → y ≡ (proper_b b && in_order b order && in_tops b.versions tops) → x ≡ y
proper_determined b order tops x y p q = p ∙ sym q
