-- The rules of a subobject by number. Assumes nothing.
use Prim.Native.Nat.{ℕ, ◌+◌}
use mathlib.Core.Path.{◌≡◌, refl, ◌∙◌, ap}
use mathlib.Core.List.{List}
use mathlib.Core.Bool.{Bool, true, false, cond}
use lib.Dec.{eqb}
use borrow.Author.Tests.{ne_eqb}
use Rattle.forms.specs.declared.Form.{Form}
use Rattle.forms.specs.Forms.{nai_length}
use Rattle.subobject.specs.declared.head.Head.{Head}
use Rattle.subobject.specs.Rules.{sum_at, bits_at, rule11, place_by}

-- No other number names a place.
pub unplaced : (number at : ℕ) → (number ≡ 8 → ⊥) → (number ≡ 9 → ⊥) → (number ≡ 7 → ⊥) → (number ≡ 10 → ⊥) → (number ≡ 11 → ⊥) → 0 ≡ place_by at number
unfolding place_by
unplaced number at a b c d e =
    rw (ne_eqb number 8 a, ne_eqb number 9 b, ne_eqb number 7 c, ne_eqb number 10 d, ne_eqb number 11 e) (go (eqb number 29) (eqb number 30))
  where
    go : (x y : Bool) → ◌≡◌ {A = ℕ} 0 (cond x 0 (cond y 0 0))
    go true y = refl
    go false true = refl
    go false false = refl

-- 11, from the sum where the code looks for it.
pub eleven_made : (form : Form) (h : Head) (s : List ℕ) (at fixed sid nai sum : ℕ) (r : Bool) → fixed ≡ form.fixed → sid ≡ form.sid → nai ≡ nai_length form h.nt
    → sum ≡ sum_at s (at + fixed + sid + nai) → r ≡ rule11 h sum → r ≡ rule11 h (bits_at form h s at)
eleven_made form h s at fixed sid nai sum r ef es en em er = er ∙ ap (λ (x : ℕ). rule11 h x) (em ∙ rw (ef, es, en))
