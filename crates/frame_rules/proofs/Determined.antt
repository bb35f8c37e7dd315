-- Of any two answers that fit the contract, both are the same.
use Prim.Native.Nat.{ℕ}
use mathlib.Core.Path.{◌≡◌, sym, ◌∙◌}
use mathlib.Core.List.{List}
use mathlib.Core.Bool.{Bool}
use Rattle.std.proofs.Common.{Result}
use Rattle.answers.specs.declared.refusal.Refusal.{Refusal}
use Rattle.answers.specs.Verdicts.{counted_of}
use Rattle.answers.proofs.Results.{counted_back}
use Rattle.frame.specs.Gathered.{frame_of}

pub framed_determined : (s : List ℕ) (ero : Bool) (kind : ℕ) (a b : Result ℕ Refusal) → counted_of a ≡ frame_of s ero kind → counted_of b ≡ frame_of s ero kind → a ≡ b
framed_determined s ero kind a b e f = counted_back a b (e ∙ sym f)
