-- What a result is by its verdict: the number of a refusal is not 0, and two results of one verdict are equal. Assumes nothing.
use Prim.Native.Nat.{ℕ}
use native.Mathlib.Omega.{arith}
use mathlib.Core.Path.{◌≡◌, refl, sym, ap, ◌∙◌}
use mathlib.Core.List.{List, [], ◌∷◌}
use lib.ListN.{get_or}
use Rattle.std.proofs.Common.{Result, Ok, Err}
use Rattle.std.specs.Prelude.{IfOk}
use Rattle.answers.specs.declared.reason.Reason.{Reason}
use Rattle.answers.specs.declared.reason.Reason.TheVariants.{OpenMalformed, CapabilityMissing, WrongMsd, FrameBroken, RouteEmpty, KindsMixed, LengthWrong, NaiUnknown, NothingThere}
use Rattle.answers.specs.declared.reason.Reason.TheVariants.{SidNeeded, StructureTooLong, TooManySegments, NotAgreed, NoneOfForm, NoSuchSegment, BufferFull, NotABoard, KeyOutOfRange}
use Rattle.answers.specs.declared.reason.Reason.TheVariants.{BodyTooLong, VersionsUsedUp, AllPaths, NoPath, MarkTooOld, MarkAhead, NotUsable, LabelValue, LabelFormat}
use Rattle.answers.specs.declared.refusal.Refusal.{Refusal}
use Rattle.answers.specs.declared.refusal.Counts.{Counts}
use Rattle.answers.specs.declared.verdict.Verdict.{Verdict}
use Rattle.answers.specs.Reasons.{number_of}
use Rattle.answers.specs.Verdicts.{refusal_of, answer_of, verdict_of, counted_of, passed_of}

pub numbered : (r : Reason) → number_of r ≡ 0 → ⊥
numbered OpenMalformed e = absurd (omega arith)
numbered CapabilityMissing e = absurd (omega arith)
numbered WrongMsd e = absurd (omega arith)
numbered FrameBroken e = absurd (omega arith)
numbered RouteEmpty e = absurd (omega arith)
numbered KindsMixed e = absurd (omega arith)
numbered LengthWrong e = absurd (omega arith)
numbered NaiUnknown e = absurd (omega arith)
numbered NothingThere e = absurd (omega arith)
numbered SidNeeded e = absurd (omega arith)
numbered StructureTooLong e = absurd (omega arith)
numbered TooManySegments e = absurd (omega arith)
numbered NotAgreed e = absurd (omega arith)
numbered NoneOfForm e = absurd (omega arith)
numbered NoSuchSegment e = absurd (omega arith)
numbered BufferFull e = absurd (omega arith)
numbered NotABoard e = absurd (omega arith)
numbered KeyOutOfRange e = absurd (omega arith)
numbered BodyTooLong e = absurd (omega arith)
numbered VersionsUsedUp e = absurd (omega arith)
numbered AllPaths e = absurd (omega arith)
numbered NoPath e = absurd (omega arith)
numbered MarkTooOld e = absurd (omega arith)
numbered MarkAhead e = absurd (omega arith)
numbered NotUsable e = absurd (omega arith)
numbered LabelValue e = absurd (omega arith)
numbered LabelFormat e = absurd (omega arith)

-- a refusal's verdict has a number
pub refused_numbered : (e : Refusal) → (refusal_of e).number ≡ 0 → ⊥
refused_numbered e h = numbered e.reason h

-- where the verdict has a number, the result is a refusal: it says the same for any kind of acceptance
pub refusal_says : {A B : Type 0} (f : A → Verdict) (g : B → Verdict) (e : Refusal) → answer_of f (Err e) ≡ answer_of g (Err e)
refusal_says f g e = refl

-- ---- a result from its view: what a call answers is determined by the paper's record of it

-- the reasons by their numbers; 0 and 25 to 27 are no reason's
abbrev reasons : List Reason
reasons = OpenMalformed ∷ OpenMalformed ∷ CapabilityMissing ∷ WrongMsd ∷ FrameBroken ∷ RouteEmpty ∷ KindsMixed ∷ LengthWrong ∷ NaiUnknown ∷ NothingThere ∷ SidNeeded
    ∷ StructureTooLong ∷ TooManySegments ∷ NotAgreed ∷ NoneOfForm ∷ NoSuchSegment ∷ BufferFull ∷ NotABoard ∷ KeyOutOfRange ∷ BodyTooLong ∷ VersionsUsedUp ∷ AllPaths ∷ NoPath
    ∷ MarkTooOld ∷ MarkAhead ∷ OpenMalformed ∷ OpenMalformed ∷ OpenMalformed ∷ NotUsable ∷ LabelValue ∷ LabelFormat ∷ []

abbrev reason_at : ℕ → Reason
reason_at n = get_or reasons n OpenMalformed

reason_back : (r : Reason) → reason_at (number_of r) ≡ r
reason_back OpenMalformed = refl
reason_back _ = refl

pub number_apart : (r q : Reason) → number_of r ≡ number_of q → r ≡ q
number_apart r q e = sym (reason_back r) ∙ ap reason_at e ∙ reason_back q

pub refusal_back : (e f : Refusal) → refusal_of e ≡ refusal_of f → e ≡ f
refusal_back e f p =
    let n = number_apart e.reason f.reason (ap (λ (v : Verdict). v.number) p) in
    let k = ap (λ (v : Verdict). v.place) p in λ i. record { reason = n i; place = k i }

-- Any view of a result that keeps a refusal's number and place, and by which an acceptance has no number: where what is accepted can be had back from it, two results with
-- one view are equal. `P` is what a contract says of an acceptance beside the view.
module _ {A B : Type 0} (view : Result A Refusal → B) (verdict : B → Verdict) (inside : B → A) (P : A → Type 0)
    (accepts : (a : A) → (verdict (view (Ok a))).number ≡ 0) (refuses : (e : Refusal) → verdict (view (Err e)) ≡ refusal_of e)
    (had : (a : A) → P a → inside (view (Ok a)) ≡ a) where
  apart : (a : A) (e : Refusal) → view (Ok a) ≡ view (Err e) → ⊥
  apart a e p = refused_numbered e (ap (λ (v : Verdict). v.number) (sym (refuses e)) ∙ ap (λ (b : B). (verdict b).number) (sym p) ∙ accepts a)

  pub view_back_if : (x y : Result A Refusal) → IfOk x P → IfOk y P → view x ≡ view y → x ≡ y
  view_back_if (Ok a) (Ok b) h k p = let q = sym (had a h) ∙ ap inside p ∙ had b k in λ i. Ok (q i)
  view_back_if (Ok a) (Err f) h k p = absurd (apart a f p)
  view_back_if (Err e) (Ok b) h k p = absurd (apart b e (sym p))
  view_back_if (Err e) (Err f) h k p = let q = refusal_back e f (sym (refuses e) ∙ ap verdict p ∙ refuses f) in λ i. Err (q i)

always : {A : Type 0} (x : Result A Refusal) → IfOk x (λ _. Unit {0})
always (Ok a) = tt
always (Err e) = tt

-- the same where the view says it all
pub view_back : {A B : Type 0} (view : Result A Refusal → B) (verdict : B → Verdict) (inside : B → A) (accepts : (a : A) → (verdict (view (Ok a))).number ≡ 0)
    (refuses : (e : Refusal) → verdict (view (Err e)) ≡ refusal_of e) (had : (a : A) → inside (view (Ok a)) ≡ a) (x y : Result A Refusal) → view x ≡ view y → x ≡ y
view_back view verdict inside accepts refuses had x y p =
    view_back_if view verdict inside (λ _. Unit {0}) accepts refuses (λ a _. had a) x y (always x) (always y) p

pub verdict_back : (x y : Result Counts Refusal) → verdict_of x ≡ verdict_of y → x ≡ y
verdict_back = view_back verdict_of (λ v. v) (λ v. record { count = v.count; stray = v.stray }) (λ _. refl) (λ _. refl) (λ _. refl)

pub counted_back : (x y : Result ℕ Refusal) → counted_of x ≡ counted_of y → x ≡ y
counted_back = view_back counted_of (λ v. v) (λ v. v.count) (λ _. refl) (λ _. refl) (λ _. refl)

pub passed_back : (x y : Result (Unit {0}) Refusal) → passed_of x ≡ passed_of y → x ≡ y
passed_back = view_back (λ x. passed_of x) (λ v. v) (λ _. tt) (λ _. refl) (λ _. refl) (λ _. refl)
