-- What each test finds. Assumes nothing.
use Prim.Native.Nat.{ℕ, ◌%◌, ◌≤◌}
use mathlib.Core.Path.{◌≡◌, ◌∙◌}
use mathlib.Core.Bool.{Bool, false, not}
use lib.Dec.{eqb, ltb}
use borrow.Author.Tests.{ltb-false}
use native.Mathlib.Omega.{arith}
use Rattle.octets.proofs.Said.{either_false}
use Rattle.objects.specs.Objects.{header, unit}
use Rattle.subobject.specs.declared.head.Head.{Head}
use Rattle.subobject.specs.Rules.{has_label}
use Rattle.subobject.specs.Segments.{bit}
use Rattle.subobject.proofs.Laws.{no_label as unlabelled}
use Rattle.writer_tests.specs.Places.{most_octets, passes, bad_place}

-- 29 and 30 only where there is a label.
pub no_label : (h : Head) (labelled : Bool) → h.m ≡ bit labelled → labelled ≡ false → has_label h ≡ false
no_label h labelled e t = unlabelled h (λ z. let q : h.m ≡ 0 = e ∙ rw t in omega arith)

-- 16: a place that is not bad is one of an object.
pub good_most : (at room : ℕ) → bad_place at room ≡ false → at ≤ most_octets
unfolding bad_place passes
good_most at room e =
    let p = either_false (ltb at header) _ e in
    let q = either_false (not (eqb (at % unit) 0)) _ p.1 in
    ltb-false most_octets at (either_false (ltb room at) _ q.1).1
