-- What stays after a verdict: all of it after a refusal.
use Prim.Native.Nat.{ℕ, zero, suc}
use native.Mathlib.Omega.{arith}
use mathlib.Core.Path.{◌≡◌, refl}
use Rattle.answers.specs.Verdicts.{kept}

pub kept_old : {A : Type 0} (n : ℕ) (old new : A) → (n ≡ 0 → ⊥) → kept n old new ≡ old
kept_old zero old new d = absurd (d refl)
kept_old (suc n) old new d = refl

pub kept_new : {A : Type 0} (n : ℕ) (old new : A) → n ≡ 0 → kept n old new ≡ new
kept_new zero old new e = refl
kept_new (suc n) old new e = absurd (omega arith)
