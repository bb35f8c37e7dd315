-- Two answers that fit the contract of `next_place` are equal. Assumes nothing.
use Prim.Native.Nat.{ℕ, ◌<◌}
use mathlib.Core.Path.{◌≡◌, sym, ◌∙◌}
use Rattle.std.proofs.Common.{Option}
use Rattle.std.specs.Prelude.{IfSome}
use Rattle.std.specs.Option.{unwrap_or}
use Rattle.board_record.specs.Sizes.{places}
use Rattle.board_record.specs.Table.{Table}
use Rattle.board_record.specs.Search.{next_of}
use Rattle.board_record.proofs.Logic.{unwrap_back}

pub next_determined : (b : Table) (s w : ℕ) (x y : Option ℕ) → unwrap_or x places ≡ next_of b s w → IfSome x (λ i. i < places)
    → unwrap_or y places ≡ next_of b s w → IfSome y (λ i. i < places) → x ≡ y
next_determined b s w x y p h q g = unwrap_back places x y h g (p ∙ sym q)
