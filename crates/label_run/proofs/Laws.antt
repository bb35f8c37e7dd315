-- A label that may stand in a route, by its first 16 bits; a head as one number. Assumes nothing.
use Prim.Native.Nat.{ℕ, suc, ◌+◌, ◌*◌, ◌/◌, ◌≤◌, ◌<◌}
use mathlib.Core.Path.{◌≡◌, subst}
use mathlib.Core.List.{List}
use mathlib.Core.Bool.{true, false, not, ◌&&◌}
use lib.Dec.{eqb, ltb}
use lib.ListN.{length, get_or}
use native.Mathlib.Omega.{arith}
use borrow.Author.Tests.{eq-eqb, eqb-true, le-ltb}
use Rattle.octets.specs.Octets.{octet_of, be16}
use Rattle.octets.proofs.Said.{and_no}
use Rattle.subobject.specs.Rules.{label_at, first_free, good_label}
use Rattle.label_run.specs.Alone.{LabelAlone, EachAlone, AloneTo}

-- A label is above those below 16 if one of its first 16 bits is set;
pub label_above : (s : List ℕ) (at x : ℕ) → x ≡ be16 s at → (x ≡ 0 → ⊥) → (ltb (label_at s at) first_free && not (eqb (label_at s at) good_label)) ≡ false
unfolding label_at be16 octet_of
label_above s at x e n = rw (le-ltb (label_at s at) first_free (omega (arith, e, n)))

-- else it is its last four.
pub label_seven : (s : List ℕ) (at x y : ℕ) → x ≡ be16 s at → x ≡ 0 → y ≡ get_or s (at + 2) 0 → eqb (y / 16) good_label ≡ true
    → (ltb (label_at s at) first_free && not (eqb (label_at s at) good_label)) ≡ false
unfolding label_at be16 octet_of
label_seven s at x y e z ey g =
    let seven : y / 16 ≡ 7 = eqb-true (y / 16) good_label g in
    let label : label_at s at ≡ 7 = omega (arith, e, z, ey, seven) in
    and_no (ltb (label_at s at) first_free) (not (eqb (label_at s at) good_label)) (rw (eq-eqb (label_at s at) good_label label))

-- The four octets of the number are those of a label alone.
pub alone_of : (s : List ℕ) (at x y : ℕ) → get_or s at 0 < 256 → get_or s (at + 1) 0 < 256 → get_or s (at + 2) 0 < 256 → get_or s (at + 2 + 1) 0 < 256
    → x ≡ be16 s at → y ≡ be16 s (at + 2) → x * 65536 + y ≡ 604504073
    → (ltb (label_at s (at + 4)) first_free && not (eqb (label_at s (at + 4)) good_label)) ≡ false → LabelAlone s at
unfolding be16 octet_of
alone_of s at x y a b c d ex ey e l =
    let place : at + 2 + 1 ≡ at + 3 = omega arith in
    record {
      kind = omega (arith, a, b, c, d, ex, ey, e);
      size = omega (arith, a, b, c, d, ex, ey, e);
      high = omega (arith, a, b, c, d, ex, ey, e);
      low = rw (← place) (omega (arith, a, b, c, d, ex, ey, e));
      label = l;
    }

pub none_yet : (s : List ℕ) → 4 ≤ length s → AloneTo s 0
none_yet s l = record { room = omega (arith, l); each = tt }

pub one_more : (s : List ℕ) (count : ℕ) → AloneTo s count → 4 + 8 * (count + 1) ≤ length s → LabelAlone s (4 + 8 * count) → AloneTo s (count + 1)
one_more s count a l one =
    let next : suc count ≡ count + 1 = omega arith in
    record { room = l; each = subst (λ (k : ℕ). EachAlone s k) next (one, a.each) }
