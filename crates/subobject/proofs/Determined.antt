-- Of any two answers that fit a contract, both are the same.
use Prim.Native.Nat.{ℕ}
use mathlib.Core.Path.{◌≡◌, sym, ◌∙◌}
use mathlib.Core.Bool.{Bool}
use mathlib.Core.List.{List}
use Rattle.forms.specs.declared.Form.{Form}
use Rattle.subobject.specs.declared.head.Head.{Head}
use Rattle.subobject.specs.declared.segment.Outline.{Outline}
use Rattle.subobject.specs.declared.segment.Segment.{Segment}
use Rattle.subobject.specs.Layout.{kind_of, head_at, expected_length}
use Rattle.subobject.specs.Rules.{has_structure}
use Rattle.subobject.specs.Segments.{head_of_outline, outline_of}

pub kind_determined : (x : ℕ) (ero : Bool) (a b : ℕ) → a ≡ kind_of x ero → b ≡ kind_of x ero → a ≡ b
kind_determined x ero a b e f = e ∙ sym f

pub head_at_determined : (form : Form) (s : List ℕ) (ero : Bool) (at : ℕ) (a b : Head) → a ≡ head_at form s ero at → b ≡ head_at form s ero at → a ≡ b
head_at_determined form s ero at a b e f = e ∙ sym f

pub head_of_determined : (form : Form) (o : Outline) (a b : Head) → a ≡ head_of_outline form o → b ≡ head_of_outline form o → a ≡ b
head_of_determined form o a b e f = e ∙ sym f

pub structured_determined : (h : Head) (a b : Bool) → a ≡ has_structure h → b ≡ has_structure h → a ≡ b
structured_determined h a b e f = e ∙ sym f

pub expected_determined : (form : Form) (nt s t a b : ℕ) → a ≡ expected_length form nt s t → b ≡ expected_length form nt s t → a ≡ b
expected_determined form nt s t a b e f = e ∙ sym f

pub outline_of_determined : (g : Segment) (a b : Outline) → a ≡ outline_of g → b ≡ outline_of g → a ≡ b
outline_of_determined g a b e f = e ∙ sym f
