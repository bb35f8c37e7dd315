-- Of any two answers that fit the contract, both are the same.
use Prim.Native.Nat.{ℕ}
use mathlib.Core.Path.{◌≡◌, sym, ◌∙◌}
use mathlib.Core.Bool.{Bool, ◌&&◌, ◌||◌}
use mathlib.Core.List.{List}
use lib.ListN.{drop}
use Rattle.writer_spare.specs.Spare.{zeros}

pub rest_tidy_determined : (structured : Bool) (n : ℕ) (nai bits : List ℕ) (a b : Bool) → a ≡ ((structured || zeros bits) && zeros (drop n nai))
    → b ≡ ((structured || zeros bits) && zeros (drop n nai)) → a ≡ b
rest_tidy_determined structured n nai bits a b e f = e ∙ sym f
