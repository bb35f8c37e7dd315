-- Two answers that fit the contract of a search are equal. Assumes nothing.
use Prim.Native.Nat.{ℕ, ◌<◌}
use mathlib.Core.Path.{◌≡◌, sym, ◌∙◌}
use mathlib.Core.List.{List}
use Rattle.std.proofs.Common.{Option}
use Rattle.std.specs.Prelude.{IfSome}
use Rattle.std.specs.Option.{unwrap_or}
use Rattle.board_record.specs.Sizes.{places}
use Rattle.board_record.specs.Table.{Table}
use Rattle.board_record.specs.Search.{place_in, target_of, floor_after}
use Rattle.board_record.proofs.Logic.{unwrap_back}

pub place_determined : (keys : List ℕ) (k : ℕ) (x y : Option ℕ) → unwrap_or x places ≡ place_in keys k → IfSome x (λ i. i < places)
    → unwrap_or y places ≡ place_in keys k → IfSome y (λ i. i < places) → x ≡ y
place_determined keys k x y p h q g = unwrap_back places x y h g (p ∙ sym q)

pub target_determined : (b : Table) (k : ℕ) (x y : Option ℕ) → unwrap_or x places ≡ target_of b k → IfSome x (λ i. i < places)
    → unwrap_or y places ≡ target_of b k → IfSome y (λ i. i < places) → x ≡ y
target_determined b k x y p h q g = unwrap_back places x y h g (p ∙ sym q)

pub floor_determined : (b : Table) (k i x y : ℕ) → x ≡ floor_after b k i → y ≡ floor_after b k i → x ≡ y
floor_determined b k i x y p q = p ∙ sym q
