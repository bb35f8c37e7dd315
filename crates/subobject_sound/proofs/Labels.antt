-- The label of an MPLS subobject that breaks no rule before 29. Assumes nothing.
use Prim.Native.Nat.{ℕ, ◌+◌, ◌≤◌}
use mathlib.Core.Path.{◌≡◌, refl, sym, ◌∙◌}
use mathlib.Core.List.{List}
use mathlib.Core.Bool.{Bool, true, false, not, ◌&&◌, ◌||◌}
use lib.Dec.{eqb, ltb}
use lib.ListN.{get_or}
use native.Mathlib.Omega.{arith}
use borrow.Author.Tests.{eq-eqb, ne_eqb, eqb-false, not-true}
use Rattle.octets.specs.Octets.{octet_of}
use Rattle.octets.proofs.Said.{either_false, and_no}
use Rattle.forms.specs.Forms.{mpls_form}
use Rattle.subobject.specs.declared.head.Head.{Head}
use Rattle.subobject.specs.Layout.{expected_length}
use Rattle.subobject.specs.Rules.{rule7, rule29, rule30, flag_f, malformed, has_label, time_at, first_free, good_label}
use Rattle.subobject_sound.proofs.Laws.{label_room}

-- Where M is 1 there is a SID, and so are its four octets.
pub labelled_sid : (h : Head) → rule7 mpls_form h ≡ false → h.m ≡ 1 → h.s ≤ 1 → h.s ≡ 0
unfolding rule7 malformed
labelled_sid h r e l =
    let long = not (eqb h.size (expected_length mpls_form h.nt h.s h.t)) in
    let with = eqb h.s 1 && (eqb h.m 1 || eqb h.c 1) in
    let bare = eqb h.c 1 && not (eqb h.m 1) in
    let fits = (either_false (not (eqb h.f (flag_f h.nt))) (long || (with || bare)) r).1 in
    let alone = (either_false with bare (either_false long (with || bare) fits).1).0 in
    let other = go (eqb h.s 1) (eqb h.m 1) (eqb h.c 1) (eq-eqb h.m 1 e) alone in
    let apart = eqb-false h.s 1 other in
    omega (arith, apart)
  where
    go : (a b c : Bool) → b ≡ true → (a && (b || c)) ≡ false → a ≡ false
    go false b c p q = refl
    go true true c p q = q
    go true false c p q = absurd (eqb-false 0 0 (sym p ∙ refl) refl)

pub entry_room : (h : Head) → rule7 mpls_form h ≡ false → h.m ≡ 1 → h.s ≤ 1 → h.size ≡ expected_length mpls_form h.nt h.s h.t → 8 ≤ h.size
unfolding has_label
entry_room h r e l q = label_room mpls_form h (eqb h.s 0 && eqb h.m 1) refl (rw (eq-eqb h.s 0 (labelled_sid h r e l), eq-eqb h.m 1 e)) q

-- 29 and 30.
pub good_29 : (h : Head) (label : ℕ) → (ltb label first_free && not (eqb label good_label)) ≡ false → rule29 h label ≡ false
unfolding rule29
good_29 h label e = and_no (has_label h) _ e

pub plain_30 : (h : Head) (time : ℕ) → (h.c ≡ 1 → ⊥) → rule30 h time ≡ false
unfolding rule30
plain_30 h time n = and_no (has_label h) _ (rw (ne_eqb h.c 1 n))

pub timed_30 : (h : Head) (s : List ℕ) (at x : ℕ) → x ≡ get_or s (at + 7) 0 → not (eqb x 0) ≡ true → rule30 h (time_at s (at + 4)) ≡ false
unfolding rule30 time_at octet_of
timed_30 h s at x e n =
    let place : at + 4 + 3 ≡ at + 7 = omega arith in
    and_no (has_label h) _ (and_no (eqb h.c 1) (eqb (get_or s (at + 4 + 3) 0) 0) (rw (place, ← e) (not-true (eqb x 0) n)))
