-- A step's answer from its verdict: what an acceptance says of the subobject, and what is handed out. An acceptance is taken apart check by check (`accepted_sound`):
-- a broken one would have answered its number. From the rules left unbroken come the lengths that the reader asks for. Assumes nothing.
use Prim.Native.Nat.{ℕ, ◌+◌, ◌-◌, ◌%◌, ◌≤◌, ◌<◌}
use native.Mathlib.Omega.{arith}
use mathlib.Core.Path.{◌≡◌, refl, ap, ◌∙◌}
use mathlib.Core.List.{List}
use mathlib.Core.Bool.{Bool, true, false, cond, not}
use lib.Dec.{eqb}
use lib.ListN.{length}
use borrow.Author.Tests.{eq-eqb, ne_eqb, le-ltb, lt-leb, eqb-true, not-false}
use Rattle.answers.specs.declared.verdict.Verdict.{Verdict}
use Rattle.answers.specs.Verdicts.{refused_by, accepted_with}
use Rattle.octets.specs.Octets.{octet_of}
use Rattle.objects.specs.Objects.{header, unit}
use Rattle.forms.specs.declared.Form.{Form}
use Rattle.forms.specs.Forms.{form_of, knows}
use Rattle.subobject.specs.declared.head.Head.{Head}
use Rattle.subobject.specs.declared.segment.Segment.{Segment}
use Rattle.subobject.specs.Layout.{sid_place, head_of, head_at, expected_length, expected_at}
use Rattle.subobject.specs.Rules.{rule7, rule8, rule9, rule11, rule29, rule30, bits_at, label_at, time_at}
use Rattle.subobject.specs.Segments.{segment_by, segment_at, no_segment}
use Rattle.subobject.proofs.Laws.{sound_length}
use Rattle.subobject.proofs.Unbroken.{UnbrokenAt}
use Rattle.frame.specs.Frames.{fits_in}
use Rattle.frame.proofs.Laws.{fits_true}
use Rattle.route_step_tests.specs.Places.{outside}
use Rattle.route_step_tests.proofs.Laws.{inside}
use Rattle.route_step_rules.specs.StepRules.{step_verdict}
use Rattle.route_step.specs.Stepped.{Stepped}
use Rattle.route_step.specs.Steps.{step_as, step_of}

-- ---- an acceptance: what was asked and found unbroken
pub record Sound (form : Form) (s : List ℕ) (ero : Bool) (at : ℕ) : Type 0 where
  pub low : header ≤ at
  pub even : at % unit ≡ 0
  pub short : at < length s
  pub fits : fits_in (octet_of s (at + 1)) (length s - at) ≡ true
  pub kind : (head_at form s ero at).kind ≡ form.kind
  pub rules : UnbrokenAt form s ero at

pub accepted_sound : (form : Form) (s : List ℕ) (ero : Bool) (at : ℕ) → (step_verdict form s ero at).number ≡ 0 → Sound form s ero at
unfolding step_verdict
accepted_sound form s ero at z =
    go (outside s at) refl (fits_in (octet_of s (at + 1)) (length s - at)) refl (eqb (head_at form s ero at).kind form.kind) refl
    (rule8 form (head_at form s ero at)) refl (rule9 (head_at form s ero at)) refl (rule7 form (head_at form s ero at)) refl
    (rule11 (head_at form s ero at) (bits_at form (head_at form s ero at) s at)) refl (rule29 (head_at form s ero at) (label_at s (sid_place form at))) refl
    (rule30 (head_at form s ero at) (time_at s (sid_place form at))) refl z
  where
    go : (o : Bool) → outside s at ≡ o → (f : Bool) → fits_in (octet_of s (at + 1)) (length s - at) ≡ f
        → (k : Bool) → eqb (head_at form s ero at).kind form.kind ≡ k → (a : Bool) → rule8 form (head_at form s ero at) ≡ a
        → (b : Bool) → rule9 (head_at form s ero at) ≡ b → (c : Bool) → rule7 form (head_at form s ero at) ≡ c
        → (d : Bool) → rule11 (head_at form s ero at) (bits_at form (head_at form s ero at) s at) ≡ d
        → (l : Bool) → rule29 (head_at form s ero at) (label_at s (sid_place form at)) ≡ l
        → (t : Bool) → rule30 (head_at form s ero at) (time_at s (sid_place form at)) ≡ t
        → (cond o (refused_by 15 0) (cond (not f) (refused_by 4 0) (cond (not k) (refused_by 14 0)
        (cond a (refused_by 8 at) (cond b (refused_by 9 at) (cond c (refused_by 7 at) (cond d (refused_by 11 at) (cond l (refused_by 29 0)
        (cond t (refused_by 30 0) (accepted_with 0)))))))))).number ≡ 0
        → Sound form s ero at
    go true eo f ef k ek a ea b eb c ec d ed l el t et z = absurd (omega arith)
    go false eo false ef k ek a ea b eb c ec d ed l el t et z = absurd (omega arith)
    go false eo true ef false ek a ea b eb c ec d ed l el t et z = absurd (omega arith)
    go false eo true ef true ek true ea b eb c ec d ed l el t et z = absurd (omega arith)
    go false eo true ef true ek false ea true eb c ec d ed l el t et z = absurd (omega arith)
    go false eo true ef true ek false ea false eb true ec d ed l el t et z = absurd (omega arith)
    go false eo true ef true ek false ea false eb false ec true ed l el t et z = absurd (omega arith)
    go false eo true ef true ek false ea false eb false ec false ed true el t et z = absurd (omega arith)
    go false eo true ef true ek false ea false eb false ec false ed false el true et z = absurd (omega arith)
    go false eo true ef true ek false ea false eb false ec false ed false el false et z =
        let i = inside s at eo in
        record {
          low = i.0;
          even = i.1;
          short = i.2;
          fits = ef;
          kind = eqb-true (head_at form s ero at).kind form.kind ek;
          rules = record { r8 = ea; r9 = eb; r7 = ec; r11 = ed; r29 = el; r30 = et };
        }

pub sound_accepted : (form : Form) (s : List ℕ) (ero : Bool) (at : ℕ) → Sound form s ero at → step_verdict form s ero at ≡ accepted_with 0
unfolding step_verdict outside
sound_accepted form s ero at w =
    rw (
      le-ltb at header w.low,
      eq-eqb (at % unit) 0 w.even,
      lt-leb (length s) at w.short,
      w.fits,
      eq-eqb (head_at form s ero at).kind form.kind w.kind,
      w.rules.r8,
      w.rules.r9,
      w.rules.r7,
      w.rules.r11,
      w.rules.r29,
      w.rules.r30,
    )

-- ---- the step
module _ (form : Form) (s : List ℕ) (ero : Bool) (at : ℕ) (v : Verdict) (e : v ≡ step_verdict form s ero at) where
  pub step_refused : {g : Segment} → (v.number ≡ 0 → ⊥) → g ≡ no_segment
      → ◌≡◌ {A = Stepped} (record { verdict = v; segment = g; next = at }) (step_as form s ero at)
  unfolding step_as
  step_refused n q = rw (← e, ne_eqb v.number 0 n) (λ k. record { verdict = v; segment = q k; next = at })

  pub step_sound : v.number ≡ 0 → Sound form s ero at
  step_sound z = accepted_sound form s ero at (rw e at z)

  pub step_short : v.number ≡ 0 → at < length s
  step_short z = (step_sound z).short

  pub step_room : v.number ≡ 0 → at + octet_of s (at + 1) ≤ length s
  step_room z = omega (arith, fits_true (octet_of s (at + 1)) (length s - at) (step_sound z).fits, step_short z)

  pub step_lies : v.number ≡ 0 → at + expected_at form s ero at ≤ length s
  unfolding expected_at head_at head_of
  step_lies z = let l = sound_length form (head_at form s ero at) (step_sound z).rules.r7 in omega (arith, step_room z, l)

  pub step_accepted : {g : Segment} {size : ℕ} → v.number ≡ 0 → g ≡ segment_at form s ero at → size ≡ octet_of s (at + 1)
      → ◌≡◌ {A = Stepped} (record { verdict = v; segment = g; next = at + size }) (step_as form s ero at)
  unfolding step_as
  step_accepted z q p = rw (← e, eq-eqb v.number 0 z) (λ k. record { verdict = v; segment = q k; next = at + p k })

  pub head_four : v.number ≡ 0 → at + 4 ≤ length s
  head_four z = omega (arith, fits_true (octet_of s (at + 1)) (length s - at) (step_sound z).fits, step_short z)

  -- the same by the head found there
  module _ (h : Head) (q : h ≡ head_at form s ero at) where
    pub head_lies : v.number ≡ 0 → at + expected_length form h.nt h.s h.t ≤ length s
    unfolding expected_at
    head_lies z = rw q (step_lies z)

    pub head_known : v.number ≡ 0 → knows form h.nt ≡ true
    unfolding rule8
    head_known z = rw q (not-false _ (step_sound z).rules.r8)

    pub head_behind : v.number ≡ 0 → at + h.size ≤ length s
    unfolding head_at head_of
    head_behind z = omega (arith, step_room z, ap (λ (x : Head). x.size) q)

    pub head_stepped : {g : Segment} → v.number ≡ 0 → g ≡ segment_by form h s at
        → ◌≡◌ {A = Stepped} (record { verdict = v; segment = g; next = at + h.size }) (step_as form s ero at)
    unfolding segment_at head_at head_of
    head_stepped z p = step_accepted z (p ∙ ap (λ (x : Head). segment_by form x s at) q) (ap (λ (x : Head). x.size) q)

-- ---- the form by the setup type
pub by_named : (s : List ℕ) (ero : Bool) (pst at : ℕ) {form : Form} {r : Stepped} → form ≡ form_of pst → r ≡ step_as form s ero at → r ≡ step_of s ero pst at
unfolding step_of
by_named s ero pst at f g = g ∙ ap (λ (x : Form). step_as x s ero at) f
