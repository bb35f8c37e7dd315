-- In an accepted route, step i from octet 4 hands out what asking for segment i does, and the step behind the last is refused by 15. The subobjects stand one
-- behind the other (frame's `FillsFrom`), each of them breaks no rule and is the form's, so a step leads from one to the next. Assumes nothing.
use Prim.Native.Nat.{ℕ, zero, suc, ◌+◌, ◌-◌, ◌%◌, ◌≤◌, ◌<◌}
use native.Mathlib.Omega.{arith}
use mathlib.Core.Path.{◌≡◌, refl, sym, ap, ◌∙◌}
use mathlib.Core.List.{List, [], ◌∷◌}
use mathlib.Core.Bool.{Bool, true, false, not, ◌||◌}
use lib.Dec.{eqb, ltb}
use lib.ListN.{length, get_or}
use borrow.Author.Tests.{le-leb}
use Rattle.answers.specs.Numbers.{no_such_segment}
use Rattle.answers.specs.Verdicts.{refused_by, accepted_with}
use Rattle.answers.proofs.Results.{passed_back}
use Rattle.octets.specs.Octets.{octet_of}
use Rattle.objects.specs.Objects.{header, unit}
use Rattle.forms.specs.Forms.{form_of}
use Rattle.session.specs.declared.Session.{Session}
use Rattle.subobject.specs.Layout.{head_of, head_at}
use Rattle.subobject.specs.Segments.{segment_at}
use Rattle.subobject.proofs.Unbroken.{UnbrokenAt}
use Rattle.frame.specs.Fills.{FillsFrom, stop, link}
use Rattle.frame.specs.Frames.{fits_in, kind_at, places_of}
use Rattle.frame.proofs.Laws.{fits_true}
use Rattle.frame.proofs.Fills.{whole_fills}
use Rattle.frame.proofs.Checks.{none_unbroken}
use Rattle.frame.proofs.OneKind.{AllKind, kind_there, frame_kinds}
use Rattle.route.specs.Picked.{Picked}
use Rattle.route.specs.Routes.{judge_as, judge_of, segment_of, count_of}
use Rattle.route.proofs.Answer.{accepted_none, accepted_count, accepted_frame, accepted_subobject, pick_there}
use Rattle.route_step.specs.Stepped.{Stepped}
use Rattle.route_step_tests.specs.Places.{outside}
use Rattle.route_step_rules.proofs.Laws.{stops_15}
use Rattle.route_step.specs.Steps.{step_as, step_of, steps_from, stepped_of}
use Rattle.route_step.proofs.Laws.{Sound, sound_accepted}
use Rattle.route_step.specs.declared.stepping.Stepped as code

-- ---- a step on the chain
module _ (s : List ℕ) (ero : Bool) (pst : ℕ) where
  -- A subobject of the form's type that breaks no rule.
  pub record Own (at : ℕ) : Type 0 where
    pub kind : (head_at (form_of pst) s ero at).kind ≡ (form_of pst).kind
    pub rules : UnbrokenAt (form_of pst) s ero at

  abbrev taken : ℕ → Stepped
  taken at = record { verdict = accepted_with 0; segment = segment_at (form_of pst) s ero at; next = at + octet_of s (at + 1) }

  step_taken : (at : ℕ) → header ≤ at → at % unit ≡ 0 → (at ≡ length s → ⊥) → fits_in (octet_of s (at + 1)) (length s - at) ≡ true → Own at
      → step_of s ero pst at ≡ taken at
  unfolding step_of step_as
  step_taken at low four n d u =
      let f = fits_true (octet_of s (at + 1)) (length s - at) d in
      let w : Sound (form_of pst) s ero at = record { low = low; even = four; short = omega arith; fits = d; kind = u.kind; rules = u.rules } in
      rw (sound_accepted (form_of pst) s ero at w)

  along : (at : ℕ) (ps : List ℕ) → FillsFrom s at ps → header ≤ at → at % unit ≡ 0 → ((j : ℕ) → j < length ps → Own (get_or ps j 0)) → (i : ℕ)
      → i < length ps → step_of s ero pst (steps_from s ero pst at i) ≡ taken (get_or ps i 0)
  along at [] c low four good i h = absurd (omega arith)
  along at (p ∷ ps) (link n d c) low four good zero h = step_taken at low four n d (good 0 (omega arith))
  along at (p ∷ ps) (link n d c) low four good (suc i) h =
      let f = fits_true (octet_of s (at + 1)) (length s - at) d in
      rw (ap (λ (x : Stepped). x.next) (step_taken at low four n d (good 0 (omega arith))))
      (along (at + octet_of s (at + 1)) ps c (omega arith) (omega arith) (λ j k. good (suc j) (omega arith)) i (omega arith))

  ends : (at : ℕ) (ps : List ℕ) → FillsFrom s at ps → header ≤ at → at % unit ≡ 0 → ((j : ℕ) → j < length ps → Own (get_or ps j 0))
      → steps_from s ero pst at (length ps) ≡ length s
  ends at [] (stop e) low four good = e
  ends at (p ∷ ps) (link n d c) low four good =
      let f = fits_true (octet_of s (at + 1)) (length s - at) d in
      ap (λ (x : Stepped). steps_from s ero pst x.next (length ps)) (step_taken at low four n d (good 0 (omega arith)))
      ∙ ends (at + octet_of s (at + 1)) ps c (omega arith) (omega arith) (λ j k. good (suc j) (omega arith))

  at_the_end : outside s (length s) ≡ true
  unfolding outside
  at_the_end = rw (le-leb (length s) (length s) (omega arith)) (go (ltb (length s) header) (not (eqb (length s % unit) 0)))
    where
      go : (a b : Bool) → (a || (b || true)) ≡ true
      go true b = refl
      go false true = refl
      go false false = refl

  -- ---- an accepted route
  module _ (session : Session) (taken-route : (judge_of s ero session pst).number ≡ 0) where
    z : (judge_as (form_of pst) s ero session pst).number ≡ 0
    unfolding judge_of
    z = taken-route

    chain : FillsFrom s header (places_of s)
    chain = whole_fills s (accepted_frame (form_of pst) s ero session pst z).1

    kinds : AllKind (kind_at s ero) (form_of pst).kind (places_of s)
    kinds =
        let n = accepted_none (form_of pst) s ero session pst z in
        frame_kinds s ero (form_of pst).kind (accepted_frame (form_of pst) s ero session pst z).1 n.1.1.0 n.1.1.1.0

    kind_at_lem : (j : ℕ) → j < count_of s → (head_at (form_of pst) s ero (get_or (places_of s) j 0)).kind ≡ (form_of pst).kind
    unfolding head_at head_of
    kind_at_lem j h = kind_there kinds j h

    own_at : (j : ℕ) → j < count_of s → Own (get_or (places_of s) j 0)
    own_at j h = record { kind = kind_at_lem j h; rules = none_unbroken s ero session.n (get_or (places_of s) j 0) (accepted_subobject (form_of pst) s ero session pst j z h) }

    pub step_accepts : (i : ℕ) → i < count_of s → (step_of s ero pst (steps_from s ero pst header i)).verdict ≡ accepted_with 0
    step_accepts i h = ap (λ (x : Stepped). x.verdict) (along header (places_of s) chain (omega arith) refl own_at i h)

    -- Step i hands out segment i,
    pub step_is_segment : (i : ℕ) → i < count_of s → (step_of s ero pst (steps_from s ero pst header i)).segment ≡ (segment_of s ero session pst i).segment
    unfolding segment_of
    step_is_segment i h =
        let l : i < (judge_as (form_of pst) s ero session pst).count = rw (accepted_count (form_of pst) s ero session pst z) h in
        ap (λ (x : Stepped). x.segment) (along header (places_of s) chain (omega arith) refl own_at i h)
        ∙ ap (λ (x : Picked). x.segment) (pick_there (form_of pst) s ero session pst i (judge_as (form_of pst) s ero session pst) refl z l refl refl refl)

    -- and behind the last there is none.
    pub step_behind_the_last : (step_of s ero pst (steps_from s ero pst header (count_of s))).verdict ≡ refused_by no_such_segment 0
    unfolding step_of step_as
    step_behind_the_last = rw (ends header (places_of s) chain (omega arith) refl own_at) (sym (stops_15 (form_of pst) s ero (length s) at_the_end refl))

-- Of any two answers that fit, both are the same.
pub stepped_back : (x y : code.Stepped) → stepped_of x ≡ stepped_of y → x ≡ y
stepped_back x y e =
    let answer = passed_back x.answer y.answer (ap (λ (z : Stepped). z.verdict) e) in
    let segment = ap (λ (z : Stepped). z.segment) e in
    let next = ap (λ (z : Stepped). z.next) e in (λ k. record { answer = answer k; segment = segment k; next = next k })

pub step_determined : (s : List ℕ) (ero : Bool) (pst at : ℕ) (a b : code.Stepped) → stepped_of a ≡ step_of s ero pst at → stepped_of b ≡ step_of s ero pst at → a ≡ b
step_determined s ero pst at a b e f = stepped_back a b (e ∙ sym f)
