-- What a call answers and leaves, from its refusal or acceptance. Assumes nothing.
use Prim.Native.Nat.{ℕ}
use mathlib.Core.Path.{◌≡◌, refl, sym, ap, ◌∙◌}
use mathlib.Core.Bool.{true, false}
use mathlib.Core.List.{List}
use Rattle.std.proofs.Common.{Result, Ok, Err}
use Rattle.std.specs.Result.{is_err}
use Rattle.answers.specs.declared.refusal.Refusal.{Refusal}
use Rattle.answers.specs.Verdicts.{refused_by, accepted_with, kept, passed_of}
use Rattle.answers.proofs.Results.{numbered, passed_back}
use Rattle.answers.proofs.Kept.{kept_old}
use Rattle.writer_state.specs.declared.Writer.{Writer}
use Rattle.writer_state.specs.declared.Written as code
use Rattle.writer_state.specs.Written.{Written, written_of}
use Rattle.writer_state.specs.Answers.{refused_as, accepted_as, answered}

-- what a call answers, from its refusal or acceptance ----------------------------------------------------------

pub answered_refused : (m n : ℕ) (old new : Writer) {r : Written} → r ≡ refused_as m old → m ≡ n → (m ≡ 0 → ⊥) → r ≡ answered n old new
answered_refused m n old new e q h = e ∙ rw q (sym (kept_old n (refused_as n old) (accepted_as new) (λ z. h (q ∙ z))))

pub answered_accepted : (n : ℕ) (old new : Writer) {r : Written} → r ≡ accepted_as new → n ≡ 0 → r ≡ answered n old new
answered_accepted n old new e q = e ∙ rw q

-- The verdict of a number: a refusal at place 0, or an acceptance.
pub verdict_answered : (n : ℕ) (old new : Writer) → (answered n old new).verdict ≡ kept n (refused_by n 0) (accepted_with 0)
verdict_answered ℕ.zero old new = refl
verdict_answered (ℕ.suc n) old new = refl

-- a call's result by the number of its verdict -------------------------------------------------------------------

pub number_refused : {A : Type 0} (r : Result A Refusal) → is_err r ≡ true → (passed_of r).number ≡ 0 → ⊥
number_refused (Ok a) h z = cc
number_refused (Err e) h z = numbered e.reason z

pub number_accepted : {A : Type 0} (r : Result A Refusal) → is_err r ≡ false → (passed_of r).number ≡ 0
number_accepted (Ok a) h = refl
number_accepted (Err e) h = cc

-- what a call leaves of the buffer ---------------------------------------------------------------------------------

pub buffer_refused : (m n : ℕ) (b after : List ℕ) → m ≡ n → (m ≡ 0 → ⊥) → b ≡ kept n b after
buffer_refused m n b after q h = sym (kept_old n b after (λ z. h (q ∙ z)))

pub buffer_accepted : (n : ℕ) (b after : List ℕ) {x : List ℕ} → x ≡ after → n ≡ 0 → x ≡ kept n b after
buffer_accepted n b after e q = e ∙ rw q

-- a call's answer is determined by what it is as the paper's record ------------------------------------------------

pub written_back : (a b : code.Written) → written_of a ≡ written_of b → a ≡ b
written_back a b p =
    let r = passed_back a.answer b.answer (ap (λ (w : Written). w.verdict) p) in
    let s = ap (λ (w : Written). w.writer) p in λ i. record { answer = r i; writer = s i }
