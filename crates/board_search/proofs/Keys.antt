-- The place of a key, looked for from the first on. Assumes nothing.
use Prim.Native.Nat.{ℕ, ◌+◌, ◌<◌, ◌≤◌}
use native.Mathlib.Omega.{arith}
use mathlib.Core.Path.{◌≡◌, sym, ◌∙◌}
use mathlib.Core.List.{List}
use lib.ListN.{get_or}
use lib.Dec.{eqb}
use borrow.Author.Tests.{eq-eqb, ne_eqb}
use Rattle.board_record.specs.Sizes.{places}
use Rattle.board_record.specs.Search.{first_where, place_in}
use Rattle.board_record.proofs.Search.{first_none, first_more, first_found}

-- the first i keys are others
unfoldable pub passed : List ℕ → ℕ → ℕ → Type 0
passed ks k i = first_where (λ j. eqb (get_or ks j 0) k) i ≡ i

pub none_passed : (ks : List ℕ) (k : ℕ) → passed ks k 0
unfolding passed
none_passed ks k = first_none (λ j. eqb (get_or ks j 0) k)

pub key_passed : (ks : List ℕ) (k i x : ℕ) → passed ks k i → x ≡ get_or ks i 0 → (x ≡ k → ⊥) → passed ks k (i + 1)
unfolding passed
key_passed ks k i x h e d = first_more (λ j. eqb (get_or ks j 0) k) i h (ne_eqb (get_or ks i 0) k (λ q. d (e ∙ q)))

pub key_found : (ks : List ℕ) (k i x : ℕ) → i < places → passed ks k i → x ≡ get_or ks i 0 → x ≡ k → i ≡ place_in ks k
unfolding passed place_in
key_found ks k i x l h e q = first_found (λ j. eqb (get_or ks j 0) k) 128 i l h (eq-eqb (get_or ks i 0) k (sym e ∙ q))

pub all_passed : (ks : List ℕ) (k i : ℕ) → i ≤ places → places ≤ i → passed ks k i → places ≡ place_in ks k
unfolding passed place_in
all_passed ks k i h l e = let q : i ≡ 128 = omega arith in sym (rw q at e)
