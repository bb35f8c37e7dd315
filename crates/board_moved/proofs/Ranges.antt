-- The loop over the groups: no place of those before has moved. In a group whose largest version is not above v none has. Assumes nothing.
use Prim.Native.Nat.{ℕ, ◌+◌, ◌-◌, ◌*◌, ◌<◌, ◌≤◌}
use native.Mathlib.Omega.{arith}
use mathlib.Core.Path.{◌≡◌, sym, ap, ◌∙◌}
use mathlib.Core.Bool.{Bool, true, false, not, ◌&&◌}
use mathlib.Core.List.{List}
use mathlib.Core.Logic.{◌⊎◌, ⊎_elim}
use lib.ListN.{get_or}
use lib.Dec.{eqb, ltb, leb}
use borrow.Author.Tests.{le-ltb}
use Rattle.octets.proofs.Said.{and_false}
use Rattle.board_record.specs.Sizes.{groups}
use Rattle.board_record.specs.Lists.{any_below}
use Rattle.board_record.specs.Search.{moved_b, moved_in}
use Rattle.board_record.specs.Tops.{in_tops}
use Rattle.board_record.proofs.Logic.{from?}
use Rattle.board_record.proofs.Looks.{any_of, any_not, any_at, any_where}
use Rattle.board_record.proofs.Tops.{top_of_lem, tops_top}

module _ (keys versions : List ℕ) (from to v : ℕ) where
  abbrev pub Still : ℕ → Type 0
  Still n = (p : ℕ) → p < n → moved_b keys versions from to v p ≡ false

  pub still_none : Still 0
  still_none p l = absurd (omega arith)

  -- the places of one group more
  group_more : (g : ℕ) → Still (8 * g) → ((j : ℕ) → j < 8 → moved_b keys versions from to v (8 * g + j) ≡ false) → Still (8 * (g + 1))
  group_more g s f p l =
      ⊎_elim (λ h. let e : 8 * g + (p - 8 * g) ≡ p = omega arith in ap (moved_b keys versions from to v) (sym e) ∙ f (p - 8 * g) (omega arith)) (λ h. s p h) (from? (8 * g) p)

  pub still_looked : (g : ℕ) (r : Bool) → Still (8 * g) → r ≡ any_below (λ j. moved_b keys versions from to v (8 * g + j)) 8 → r ≡ false → Still (8 * (g + 1))
  still_looked g r s e z = group_more g s (any_at (λ j. moved_b keys versions from to v (8 * g + j)) 8 (sym e ∙ z))

  pub still_passed : (tops : List ℕ) (g : ℕ) → in_tops versions tops ≡ true → g < groups → Still (8 * g) → get_or tops g 0 ≤ v → Still (8 * (g + 1))
  unfolding moved_b
  still_passed tops g t l s h =
      group_more g s
      (λ j k.
      let key = get_or keys (8 * g + j) 0 in
      rw (le-ltb v (get_or versions (8 * g + j) 0) (omega (arith, (top_of_lem versions g).most j k, tops_top versions tops t g l)))
      (and_false (not (eqb key 0) && leb from key && leb key to)))

  pub moved_here : (g : ℕ) (r : Bool) → g < groups → r ≡ any_below (λ j. moved_b keys versions from to v (8 * g + j)) 8 → r ≡ true → true ≡ moved_in keys versions from to v
  unfolding moved_in
  moved_here g r l e z =
      let y = any_where (λ j. moved_b keys versions from to v (8 * g + j)) 8 (sym e ∙ z) in
      sym (any_of (moved_b keys versions from to v) 128 (8 * g + y.0) (omega (arith, y.1)) y.2)

  pub none_moved : (g : ℕ) → Still (8 * g) → groups ≤ g → false ≡ moved_in keys versions from to v
  unfolding moved_in
  none_moved g s l = sym (any_not (moved_b keys versions from to v) 128 (λ p k. s p (omega arith)))

  -- one place
  pub place_moved : (i k w : ℕ) (r : Bool) → k ≡ get_or keys i 0 → w ≡ get_or versions i 0 → r ≡ (not (eqb k 0) && leb from k && leb k to && ltb v w) → r ≡ moved_b keys versions from to v i
  unfolding moved_b
  place_moved i k w r e f q = q ∙ rw (e, f)
