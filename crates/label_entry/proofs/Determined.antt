-- Of any two answers that fit a contract, both are the same.
use Prim.Native.Nat.{ℕ}
use mathlib.Core.Path.{◌≡◌, sym, ◌∙◌}
use mathlib.Core.List.{List}
use Rattle.subobject.specs.Rules.{label_at, time_at}

pub label_at_determined : (s : List ℕ) (at a b : ℕ) → a ≡ label_at s at → b ≡ label_at s at → a ≡ b
label_at_determined s at a b e f = e ∙ sym f

pub time_at_determined : (s : List ℕ) (at a b : ℕ) → a ≡ time_at s at → b ≡ time_at s at → a ≡ b
time_at_determined s at a b e f = e ∙ sym f
