-- That a length fits its form, by the length in units. A length that is not a number of units is far above the room in units. Assumes nothing.
use Prim.Native.Nat.{ℕ, ◌*◌, ◌%◌, ◌<◌, ◌≤◌}
use native.Mathlib.Omega.{arith}
use mathlib.Core.Path.{◌≡◌, refl, sym, ◌∙◌}
use mathlib.Core.Bool.{Bool, true, false, cond, ◌&&◌, ◌||◌}
use mathlib.Core.Logic.{⊎_elim}
use lib.Dec.{eqb, leb}
use borrow.Author.Tests.{eq-eqb, ne_eqb, eqb-true, le-leb, lt-leb}
use Rattle.octets.proofs.Said.{and_holding, and_false}
use Rattle.board_record.specs.Sizes.{body_least}
use Rattle.board_record.specs.Proper.{path_ok}
use Rattle.board_record.proofs.Logic.{same?, from?}
use Rattle.board_fits.specs.Fits.{body_b, turned_of}

-- at least m units
units : (l q m n : ℕ) → l ≡ 4 * q → n ≡ 4 * m → 1 ≤ m → leb m q ≡ cond (eqb l 0) false (leb n l && true)
units l q m n e d p =
    ⊎_elim (λ h. rw (le-leb m q h, ne_eqb l 0 (λ z. omega arith), le-leb n l (omega arith)))
    (λ h. ⊎_elim (λ z. rw (lt-leb m q h, eq-eqb l 0 z)) (λ z. rw (lt-leb m q h, ne_eqb l 0 z, lt-leb n l (omega arith))) (same? l 0)) (from? m q)

or_none : (a : Bool) → (a || false) || false ≡ a
or_none true = refl
or_none false = refl

pub body_fits : (l f t q : ℕ) → t ≡ turned_of l → q ≡ t % 256 → (leb t 96 && ((eqb f 3 && leb 6 q || eqb f 1 && leb 2 q) || eqb f 0 && eqb q 0)) ≡ body_b l f
unfolding body_b path_ok body_least
body_fits l f t q e d = ⊎_elim high low (from? 97 t)
  where
    high : 97 ≤ t → (leb t 96 && ((eqb f 3 && leb 6 q || eqb f 1 && leb 2 q) || eqb f 0 && eqb q 0)) ≡ body_b l f
    high h =
        rw (lt-leb t 96 (omega arith), ne_eqb l 0 (λ z. omega arith))
        (⊎_elim (λ z. rw (lt-leb l 384 (omega arith)) (sym (and_false (eqb (l % 4) 0 && (eqb f 3 || eqb f 1) && leb (cond (eqb f 3) 24 8) l)))) (λ z. rw (ne_eqb (l % 4) 0 z)) (same? (l % 4) 0))

    low : t < 97 → (leb t 96 && ((eqb f 3 && leb 6 q || eqb f 1 && leb 2 q) || eqb f 0 && eqb q 0)) ≡ body_b l f
    low h = rw (le-leb t 96 (omega arith), eq-eqb (l % 4) 0 (omega arith), le-leb l 384 (omega arith)) (go (eqb f 3) refl (eqb f 1) refl (eqb f 0) refl)
      where
        go : (x : Bool) → eqb f 3 ≡ x → (y : Bool) → eqb f 1 ≡ y → (z : Bool) → eqb f 0 ≡ z
            → ((x && leb 6 q || y && leb 2 q) || z && eqb q 0) ≡ cond (eqb l 0) z (((x || y) && leb (cond x 24 8) l) && true)
        go true a true b z c = absurd (omega (arith, eqb-true f 3 a, eqb-true f 1 b))
        go true a false b true c = absurd (omega (arith, eqb-true f 3 a, eqb-true f 0 c))
        go true a false b false c = or_none (leb 6 q) ∙ units l q 6 24 (omega arith) refl (omega arith)
        go false a true b true c = absurd (omega (arith, eqb-true f 1 b, eqb-true f 0 c))
        go false a true b false c = or_two (leb 2 q) ∙ units l q 2 8 (omega arith) refl (omega arith)
          where
            or_two : (u : Bool) → (false || u) || false ≡ u
            or_two true = refl
            or_two false = refl
        go false a false b z c =
            ⊎_elim (λ n. rw (eq-eqb l 0 n, eq-eqb q 0 (omega arith)) (and_holding z)) (λ n. rw (ne_eqb l 0 n, ne_eqb q 0 (λ w. n (omega arith))) (and_false z)) (same? l 0)
