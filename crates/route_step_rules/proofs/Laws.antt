-- What each way out of the code answers, in the order of specs/StepRules: the tests that were made say which check of the list is the first broken one.
-- Assumes nothing.
use Prim.Native.Nat.{ℕ, ◌+◌, ◌-◌, ◌≤◌}
use native.Mathlib.Omega.{arith}
use mathlib.Core.Path.{◌≡◌, sym, ap, ◌∙◌}
use mathlib.Core.List.{List}
use mathlib.Core.Bool.{Bool, true, false, not}
use lib.Dec.{eqb}
use lib.ListN.{length}
use borrow.Author.Tests.{eq-eqb, ne_eqb}
use Rattle.answers.specs.declared.verdict.Verdict.{Verdict}
use Rattle.answers.specs.Verdicts.{refused_by, accepted_with}
use Rattle.octets.specs.Octets.{octet_of}
use Rattle.forms.specs.declared.Form.{Form}
use Rattle.subobject.specs.declared.head.Head.{Head}
use Rattle.subobject.specs.Layout.{sid_place, sid_length, head_of, head_at, expected_length}
use Rattle.subobject.specs.Rules.{rule7, rule8, rule9, rule11, rule29, rule30, bits_at, label_at, time_at}
use Rattle.subobject.proofs.Laws.{sound_length}
use Rattle.frame.specs.Frames.{fits_in}
use Rattle.route_step_tests.specs.Places.{outside}
use Rattle.route_step_tests.proofs.Laws.{inside, fit}
use Rattle.route_step_rules.specs.StepRules.{head_verdict, step_verdict}

-- ---- 14, 8, 9, 7, 11, 29, 30
module _ (form : Form) (s : List ℕ) (at : ℕ) (h : Head) where
  pub other_kind : {r : Verdict} {k : ℕ} → k ≡ form.kind → (h.kind ≡ k → ⊥) → r ≡ refused_by 14 0 → r ≡ head_verdict form h s at
  unfolding head_verdict
  other_kind q n e = e ∙ sym (rw (ne_eqb h.kind form.kind (λ z. n (z ∙ sym q))))

  module _ {k : ℕ} (q : k ≡ form.kind) (own : h.kind ≡ k) where
    same_kind : eqb h.kind form.kind ≡ true
    same_kind = eq-eqb h.kind form.kind (own ∙ q)

    pub stops_8 : {r : Verdict} → rule8 form h ≡ true → r ≡ refused_by 8 at → r ≡ head_verdict form h s at
    unfolding head_verdict
    stops_8 a e = e ∙ sym (rw (same_kind, a))

    module _ (a : rule8 form h ≡ false) where
      pub stops_9 : {r : Verdict} → rule9 h ≡ true → r ≡ refused_by 9 at → r ≡ head_verdict form h s at
      unfolding head_verdict
      stops_9 b e = e ∙ sym (rw (same_kind, a, b))

      pub stops_7 : {r : Verdict} → rule9 h ≡ false → rule7 form h ≡ true → r ≡ refused_by 7 at → r ≡ head_verdict form h s at
      unfolding head_verdict
      stops_7 b c e = e ∙ sym (rw (same_kind, a, b, c))

      module _ (b : rule9 h ≡ false) (c : rule7 form h ≡ false) where
        pub stops_11 : {r : Verdict} → rule11 h (bits_at form h s at) ≡ true → r ≡ refused_by 11 at → r ≡ head_verdict form h s at
        unfolding head_verdict
        stops_11 d e = e ∙ sym (rw (same_kind, a, b, c, d))

        pub stops_29 : {r : Verdict} → rule11 h (bits_at form h s at) ≡ false → rule29 h (label_at s (sid_place form at)) ≡ true → r ≡ refused_by 29 0
            → r ≡ head_verdict form h s at
        unfolding head_verdict
        stops_29 d l e = e ∙ sym (rw (same_kind, a, b, c, d, l))

        pub stops_30 : {r : Verdict} → rule11 h (bits_at form h s at) ≡ false → rule29 h (label_at s (sid_place form at)) ≡ false
            → rule30 h (time_at s (sid_place form at)) ≡ true → r ≡ refused_by 30 0 → r ≡ head_verdict form h s at
        unfolding head_verdict
        stops_30 d l t e = e ∙ sym (rw (same_kind, a, b, c, d, l, t))

        pub unbroken : {r : Verdict} → rule11 h (bits_at form h s at) ≡ false → rule29 h (label_at s (sid_place form at)) ≡ false
            → rule30 h (time_at s (sid_place form at)) ≡ false → r ≡ accepted_with 0 → r ≡ head_verdict form h s at
        unfolding head_verdict
        unbroken d l t e = e ∙ sym (rw (same_kind, a, b, c, d, l, t))

-- The same of the form that it is known to be.
pub told_of : {form known : Form} → form ≡ known → (h : Head) (s : List ℕ) (at : ℕ) {r : Verdict} → r ≡ head_verdict form h s at → r ≡ head_verdict known h s at
told_of e h s at q = q ∙ ap (λ (x : Form). head_verdict x h s at) e

-- A sound subobject's SID is there.
pub sid_room : (form : Form) (s : List ℕ) (at : ℕ) (h : Head) → rule7 form h ≡ false → at + h.size ≤ length s → sid_place form at + sid_length form h.s ≤ length s
unfolding expected_length
sid_room form s at h r l = omega (arith, sound_length form h r, l)

-- ---- the verdict
module _ (form : Form) (s : List ℕ) (ero : Bool) (at : ℕ) where
  pub stops_15 : {r : Verdict} → outside s at ≡ true → r ≡ refused_by 15 0 → r ≡ step_verdict form s ero at
  unfolding step_verdict
  stops_15 a e = e ∙ sym (rw a)

  module _ (a : outside s at ≡ false) where
    pub stops_4 : {r : Verdict} → not (fits_in (octet_of s (at + 1)) (length s - at)) ≡ true → r ≡ refused_by 4 0 → r ≡ step_verdict form s ero at
    unfolding step_verdict
    stops_4 b e = e ∙ sym (rw (a, b))

    pub goes_on : {r : Verdict} {h : Head} → not (fits_in (octet_of s (at + 1)) (length s - at)) ≡ false → h ≡ head_at form s ero at → r ≡ head_verdict form h s at
        → r ≡ step_verdict form s ero at
    unfolding step_verdict head_verdict
    goes_on b q e = e ∙ ap (λ (x : Head). head_verdict form x s at) q ∙ sym (rw (a, b))

    pub room : not (fits_in (octet_of s (at + 1)) (length s - at)) ≡ false → at + 4 ≤ length s
    room b = omega (arith, fit (octet_of s (at + 1)) (length s - at) b, inside s at a)

    pub size_room : not (fits_in (octet_of s (at + 1)) (length s - at)) ≡ false → (h : Head) → h ≡ head_at form s ero at → at + h.size ≤ length s
    unfolding head_at head_of
    size_room b h e = omega (arith, fit (octet_of s (at + 1)) (length s - at) b, inside s at a, ap (λ (x : Head). x.size) e)
