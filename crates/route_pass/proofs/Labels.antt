-- The labels alone that a route begins with: each is a subobject of MPLS's type that breaks no rule and is not stray, whatever is asked, so the pass stands behind them.
-- The head of each is the same one, and its rules are computed. Assumes nothing.
use Prim.Native.Nat.{ℕ, zero, suc, ◌+◌, ◌*◌, ◌-◌, ◌≤◌}
use mathlib.Core.Path.{◌≡◌, refl}
use mathlib.Core.List.{List}
use mathlib.Core.Bool.{Bool, true, false, not, ◌&&◌}
use lib.Dec.{eqb, ltb}
use borrow.Author.Tests.{ne_eqb}
use Rattle.octets.proofs.Said.{and_no}
use lib.ListN.{length}
use native.Mathlib.Omega.{arith}
use Rattle.octets.specs.Octets.{octet_of, be16}
use Rattle.objects.specs.Objects.{header}
use Rattle.forms.specs.declared.Form.{Form}
use Rattle.forms.specs.Forms.{mpls_form, flag_in, knows, nai_length}
use Rattle.subobject.specs.declared.head.Head.{Head}
use Rattle.subobject.specs.Layout.{head_of, head_at, kind_of, expected_length}
use Rattle.subobject.specs.Rules.{rule7, rule8, rule9, rule10, rule11, rule29, rule30, has_structure, has_label, malformed, first_free, good_label}
use Rattle.subobject_strays.specs.Strays.{strays_by, stray_one, stray_flags, structure_flags, reserved_octets}
use Rattle.label_run.specs.Alone.{LabelAlone, EachAlone, AloneTo}
use Rattle.frame.proofs.Laws.{fits_made}
use Rattle.route_pass.specs.Settled.{Begun}
use Rattle.route_pass.proofs.Pass.{Good, Gone, gone_starts, gone_on, good_made}

-- 29 and 30 of a head: a label that is good, and C 0.
good_29 : (h : Head) (label : ℕ) → (ltb label first_free && not (eqb label good_label)) ≡ false → rule29 h label ≡ false
unfolding rule29
good_29 h label e = and_no (has_label h) _ e

plain_30 : (h : Head) (time : ℕ) → (h.c ≡ 1 → ⊥) → rule30 h time ≡ false
unfolding rule30
plain_30 h time n = and_no (has_label h) _ (rw (ne_eqb h.c 1 n))

-- type 36, 8 octets, NT 0, F and M
abbrev alone_head : Bool → Head
alone_head ero = head_of mpls_form 36 8 0 9 ero

head_alone_lem : (s : List ℕ) (ero : Bool) (at : ℕ) → LabelAlone s at → alone_head ero ≡ head_at mpls_form s ero at
unfolding head_at
head_alone_lem s ero at a = rw (a.kind, a.size, a.high, a.low) refl

module _ (s : List ℕ) (n : Bool) (at : ℕ) (a : LabelAlone s at) where
  good_alone : (ero : Bool) → Good mpls_form s ero n at
  unfolding head_of kind_of flag_in rule7 rule8 rule9 rule10 rule11 has_structure malformed expected_length knows nai_length
  good_alone true =
      good_made mpls_form s true n at (alone_head true) (head_alone_lem s true at a) refl refl refl refl refl refl (good_29 _ _ a.label) (plain_30 _ _ (λ e. absurd (omega (arith, e))))
  good_alone false =
      good_made mpls_form s false n at (alone_head false) (head_alone_lem s false at a) refl refl refl refl refl refl (good_29 _ _ a.label) (plain_30 _ _ (λ e. absurd (omega (arith, e))))

stray_alone : (s : List ℕ) (ero : Bool) (at : ℕ) → LabelAlone s at → 0 ≡ stray_one (strays_by mpls_form (alone_head ero) s at)
unfolding stray_flags structure_flags reserved_octets has_structure head_of flag_in be16 octet_of
stray_alone s ero at a =
    let place : at + 2 + 1 ≡ at + 3 = omega arith in
    rw (place, a.high, a.low) refl

size_alone : (ero : Bool) → (alone_head ero).size ≡ 8
unfolding head_of
size_alone ero = refl

module _ (s : List ℕ) (ero n : Bool) where
  gone_label : (i at next : ℕ) → Gone mpls_form s ero n at i 0 → LabelAlone s at → at + 8 ≤ length s → next ≡ at + 8 → Gone mpls_form s ero n next (suc i) 0
  gone_label i at next g one room e =
      let size = size_alone ero in
      let fits = fits_made (alone_head ero).size (length s - at) (omega (arith, size)) (omega (arith, size)) (omega (arith, size, room)) in
      let place : at + (alone_head ero).size ≡ next = omega (arith, size, e) in
      let more : i + 1 ≡ suc i = omega arith in
      rw (← place, ← more)
      (gone_on g (alone_head ero) 0 (omega (arith, room)) (head_alone_lem s ero at one) fits (good_alone s n at one ero) (stray_alone s ero at one))

  gone_each : (count : ℕ) → header + 8 * count ≤ length s → EachAlone s count → Gone mpls_form s ero n (header + 8 * count) count 0
  gone_each zero room each = gone_starts mpls_form s ero n
  gone_each (suc i) room each = gone_label i (header + 8 * i) (header + 8 * suc i) (gone_each i (omega (arith, room)) each.1) each.0 (omega (arith, room)) (omega arith)

  pub gone_labels : (count : ℕ) → AloneTo s count → Gone mpls_form s ero n (header + 8 * count) count 0
  gone_labels count a = gone_each count a.room a.each

-- Where a pass begins.
pub gone_begun : (form : Form) (s : List ℕ) (ero n : Bool) (count : ℕ) → Begun form s count → Gone form s ero n (header + 8 * count) count 0
gone_begun form s ero n zero b = gone_starts form s ero n
gone_begun form s ero n (suc i) b = let a = b.alone (omega arith) in rw a.0 (gone_labels s ero n (suc i) a.1)
