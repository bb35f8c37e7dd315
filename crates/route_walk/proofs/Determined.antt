-- Of any two answers that fit the contract, both are the same.
use Prim.Native.Nat.{ℕ}
use mathlib.Core.Path.{◌≡◌, sym, ◌∙◌}
use mathlib.Core.Bool.{Bool}
use mathlib.Core.List.{List}
use Rattle.std.proofs.Common.{Result}
use Rattle.forms.specs.declared.Form.{Form}
use Rattle.answers.specs.declared.refusal.Refusal.{Refusal}
use Rattle.answers.specs.declared.refusal.Counts.{Counts}
use Rattle.answers.specs.Verdicts.{verdict_of}
use Rattle.answers.proofs.Results.{verdict_back}
use Rattle.route_walk.specs.Walk.{walk_of}

pub walk_determined : (form : Form) (s : List ℕ) (ero n : Bool) (count : ℕ) (a b : Result Counts Refusal) → verdict_of a ≡ walk_of form s ero n count
    → verdict_of b ≡ walk_of form s ero n count → a ≡ b
walk_determined form s ero n count a b e f = verdict_back a b (e ∙ sym f)
