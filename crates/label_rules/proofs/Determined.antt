-- Of any two answers that fit a contract, both are the same.
use Prim.Native.Nat.{ℕ}
use mathlib.Core.Path.{◌≡◌, sym, ◌∙◌}
use mathlib.Core.Bool.{Bool}
use Rattle.subobject.specs.declared.head.Head.{Head}
use Rattle.subobject.specs.Rules.{rule29, rule30, has_label}

pub labelled_determined : (h : Head) (a b : Bool) → a ≡ has_label h → b ≡ has_label h → a ≡ b
labelled_determined h a b e f = e ∙ sym f

pub twenty_nine_determined : (h : Head) (label : ℕ) (a b : Bool) → a ≡ rule29 h label → b ≡ rule29 h label → a ≡ b
twenty_nine_determined h label a b e f = e ∙ sym f

pub thirty_determined : (h : Head) (time : ℕ) (a b : Bool) → a ≡ rule30 h time → b ≡ rule30 h time → a ≡ b
thirty_determined h time a b e f = e ∙ sym f
