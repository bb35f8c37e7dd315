-- Of any two answers that fit a contract, both are the same.
use Prim.Native.Nat.{ℕ}
use mathlib.Core.Path.{◌≡◌, sym, ◌∙◌}
use mathlib.Core.List.{List}
use Rattle.forms.specs.declared.Form.{Form}
use Rattle.subobject.specs.declared.head.Head.{Head}
use Rattle.subobject_strays.specs.declared.Strays.{Strays}
use Rattle.subobject_strays.specs.Strays.{strays_by, no_strays, stray_one}

pub strays_at_determined : (form : Form) (h : Head) (s : List ℕ) (at : ℕ) (a b : Strays) → a ≡ strays_by form h s at → b ≡ strays_by form h s at → a ≡ b
strays_at_determined form h s at a b e f = e ∙ sym f

pub no_strays_determined : (a b : Strays) → a ≡ no_strays → b ≡ no_strays → a ≡ b
no_strays_determined a b e f = e ∙ sym f

pub stray_of_determined : (form : Form) (h : Head) (s : List ℕ) (at : ℕ) (a b : ℕ) → a ≡ stray_one (strays_by form h s at) → b ≡ stray_one (strays_by form h s at) → a ≡ b
stray_of_determined form h s at a b e f = e ∙ sym f
