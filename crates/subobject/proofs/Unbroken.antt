-- A sound subobject: it breaks none of the rules that hang on no session, in their order 8, 9, 7, 11, 29, 30. That it has no check broken is the same but for 10
-- (`none_unbroken`, `unbroken_none` in frame/proofs/Checks). Assumes nothing.
use Prim.Native.Nat.{ℕ}
use mathlib.Core.Path.{◌≡◌}
use mathlib.Core.Bool.{Bool, false}
use mathlib.Core.List.{List}
use Rattle.forms.specs.declared.Form.{Form}
use Rattle.subobject.specs.declared.head.Head.{Head}
use Rattle.subobject.specs.declared.segment.Segment.{Segment}
use Rattle.subobject.specs.Layout.{sid_place, head_at}
use Rattle.subobject.specs.Rules.{rule7, rule8, rule9, rule11, rule29, rule30, bits_at, label_at, time_at}
use Rattle.subobject.specs.Segments.{head_of_segment, bits_of}

-- By its head, the sum of its bit lengths, its label and TTL.
pub record Unbroken (form : Form) (h : Head) (bits label time : ℕ) : Type 0 where
  pub r8 : rule8 form h ≡ false
  pub r9 : rule9 h ≡ false
  pub r7 : rule7 form h ≡ false
  pub r11 : rule11 h bits ≡ false
  pub r29 : rule29 h label ≡ false
  pub r30 : rule30 h time ≡ false

-- The one at a place, by its head;
abbrev pub UnbrokenBy : Form → Head → List ℕ → ℕ → Type 0
UnbrokenBy form h s at = Unbroken form h (bits_at form h s at) (label_at s (sid_place form at)) (time_at s (sid_place form at))

-- the one at a place;
abbrev pub UnbrokenAt : Form → List ℕ → Bool → ℕ → Type 0
UnbrokenAt form s ero at = UnbrokenBy form (head_at form s ero at) s at

-- the one that a segment is.
abbrev pub UnbrokenOf : Form → Segment → Type 0
UnbrokenOf form g = Unbroken form (head_of_segment form g) (bits_of g) (label_at g.sid 0) (time_at g.sid 0)
