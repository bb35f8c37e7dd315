-- Under every setup type but 1 a step computes to SRv6's own, in document 01's numbers (specs/Alone): each rule of SRv6's form is rewritten into the paper's words by the
-- laws of route/proofs/Alone, and so is the segment handed out. Assumes nothing.
use Prim.Native.Nat.{ℕ}
use mathlib.Core.Path.{◌≡◌, sym, ◌∙◌, ap}
use mathlib.Core.List.{List}
use mathlib.Core.Bool.{Bool}
use Rattle.objects.specs.Objects.{mpls_setup}
use Rattle.forms.specs.declared.Form.{Form}
use Rattle.forms.specs.Forms.{srv6_form}
use Rattle.forms.proofs.Laws.{form_srv6}
use Rattle.subobject.specs.Layout.{sid_place}
use Rattle.subobject.specs.Rules.{rule9, label_at, time_at}
use Rattle.route.proofs.Alone.{head_alone_lem, r8, r7, r11, r29, r30, segment_alone_lem}
use Rattle.route_step_rules.specs.StepRules.{step_verdict}
use Rattle.route_step.specs.Steps.{step_as, step_of}
use Rattle.route_step.specs.Alone.{verdict_alone, step_alone}

module _ (s : List ℕ) (ero : Bool) (at : ℕ) where
  verdict_alone_lem : step_verdict srv6_form s ero at ≡ verdict_alone s ero at
  unfolding step_verdict verdict_alone rule9
  verdict_alone_lem =
      rw (head_alone_lem s ero at, r8 s ero at, r7 s ero at, r11 s ero at, r29 s ero at (label_at s (sid_place srv6_form at)), r30 s ero at (time_at s (sid_place srv6_form at)))

  as_alone : step_as srv6_form s ero at ≡ step_alone s ero at
  unfolding step_as step_alone
  as_alone = rw (verdict_alone_lem, segment_alone_lem s ero at)

  -- **A step through an SRv6 route is its own under every setup type but 1.**
  pub stepped_alone : (pst : ℕ) → (pst ≡ mpls_setup → ⊥) → step_of s ero pst at ≡ step_alone s ero at
  unfolding step_of
  stepped_alone pst n = ap (λ (x : Form). step_as x s ero at) (sym (form_srv6 pst n)) ∙ as_alone
