-- How far the places in use reach: what is 0 from a place on. Assumes nothing.
use Prim.Native.Nat.{ℕ, ◌+◌, ◌≤◌, ◌<◌}
use native.Mathlib.Omega.{arith}
use mathlib.Core.Path.{◌≡◌}
use mathlib.Core.List.{List}
use mathlib.Core.Logic.{⊎_elim}
use lib.Bits.{bit_or, or_add_and, and_le_l, and_le_r}
use lib.ListN.{get_or}
use Rattle.board_record.specs.Sizes.{places}
use Rattle.board_record.proofs.Logic.{same?}
use Rattle.board_extent.specs.Extent.{EmptyFrom}

-- ---- a look over the places from m on: as long as `some` is 0, all met are
abbrev pub Met : List ℕ → ℕ → ℕ → ℕ → Type 0
Met xs m some i = some ≡ 0 → (j : ℕ) → m ≤ j → j < i → get_or xs j 0 ≡ 0

pub met_none : (xs : List ℕ) (m some : ℕ) → Met xs m some m
met_none xs m some e j h l = absurd (omega arith)

or_both : (a b : ℕ) → bit_or a b ≡ 0 → (a ≡ 0) × (b ≡ 0)
or_both a b e = (omega (arith, or_add_and a b, and_le_r a b, e), omega (arith, or_add_and a b, and_le_l a b, e))

pub met_more : (xs : List ℕ) (m some i : ℕ) → Met xs m some i → Met xs m (bit_or some (get_or xs i 0)) (i + 1)
met_more xs m some i k e j h l =
    let p = or_both some (get_or xs i 0) e in
    ⊎_elim (λ q. rw q p.1) (λ n. k p.0 j h (omega arith)) (same? j i)

pub met_all : (xs : List ℕ) (m some i : ℕ) → Met xs m some i → places ≤ i → some ≡ 0 → EmptyFrom xs m
met_all xs m some i k p e j h l = k e j h (omega arith)
