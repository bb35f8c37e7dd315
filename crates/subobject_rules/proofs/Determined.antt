-- Of any two answers that fit a contract, both are the same.
use Prim.Native.Nat.{ℕ}
use mathlib.Core.Path.{◌≡◌, sym, ◌∙◌}
use mathlib.Core.Bool.{Bool}
use mathlib.Core.List.{List}
use Rattle.forms.specs.declared.Form.{Form}
use Rattle.subobject.specs.declared.head.Head.{Head}
use Rattle.subobject.specs.Rules.{rule7, rule8, rule9, rule10, rule11, sum_at}

pub eight_determined : (form : Form) (h : Head) (a b : Bool) → a ≡ rule8 form h → b ≡ rule8 form h → a ≡ b
eight_determined form h a b e f = e ∙ sym f

pub nine_determined : (h : Head) (a b : Bool) → a ≡ rule9 h → b ≡ rule9 h → a ≡ b
nine_determined h a b e f = e ∙ sym f

pub seven_determined : (form : Form) (h : Head) (a b : Bool) → a ≡ rule7 form h → b ≡ rule7 form h → a ≡ b
seven_determined form h a b e f = e ∙ sym f

pub ten_determined : (h : Head) (ero n a b : Bool) → a ≡ rule10 h ero n → b ≡ rule10 h ero n → a ≡ b
ten_determined h ero n a b e f = e ∙ sym f

pub eleven_determined : (h : Head) (sum : ℕ) (a b : Bool) → a ≡ rule11 h sum → b ≡ rule11 h sum → a ≡ b
eleven_determined h sum a b e f = e ∙ sym f

pub sum_at_determined : (s : List ℕ) (at a b : ℕ) → a ≡ sum_at s at → b ≡ sum_at s at → a ≡ b
sum_at_determined s at a b e f = e ∙ sym f
