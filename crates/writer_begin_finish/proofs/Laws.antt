-- Octets stored one by one, and the form that the state keeps. Assumes nothing.
use Prim.Native.Nat.{ℕ, ◌≤◌}
use mathlib.Core.Path.{◌≡◌, ap, ◌∙◌}
use mathlib.Core.Bool.{Bool}
use mathlib.Core.List.{List, [], ◌∷◌, append_assoc}
use lib.ListN.{length, set}
use lib.Seq.{sets-eq, drop-drop}
use Rattle.octets.specs.Octets.{over, placed}
use Rattle.objects.specs.Objects.{header, class_place, type_place, length_place}
use Rattle.forms.specs.declared.Form.{Form}
use Rattle.forms.specs.Forms.{form_of}
use Rattle.forms.proofs.Laws.{form_mpls, form_srv6}
use Rattle.frame.specs.Frames.{class_of}
use Rattle.writer_begin_finish.specs.Ends.{header_of}

-- octets stored one by one -------------------------------------------------------------------------------------

pub header_stored : (b : List ℕ) (ero : Bool) (class : ℕ) → class ≡ class_of ero → header ≤ length b
    → set (set (set (set b class_place class) type_place 16) 2 0) 3 header ≡ over (header_of ero header) b
unfolding header_of over
header_stored b ero class e h = rw e (sets-eq (class_of ero ∷ 16 ∷ 0 ∷ header ∷ []) b 0 h)

pub length_stored : (b : List ℕ) (x y : ℕ) → header ≤ length b → set (set b 2 x) 3 y ≡ placed b length_place (x ∷ y ∷ [])
unfolding placed over
length_stored b x y h = sets-eq (x ∷ y ∷ []) b 2 h ∙ rw (append_assoc, drop-drop 2 2 b)

-- the form -----------------------------------------------------------------------------------------------------

pub kept_mpls : (n : ℕ) → n ≡ 1 → 1 ≡ (form_of n).setup
kept_mpls n e = ap (λ (form : Form). form.setup) (form_mpls n e)

pub kept_srv6 : (n : ℕ) → (n ≡ 1 → ⊥) → 3 ≡ (form_of n).setup
kept_srv6 n e = ap (λ (form : Form). form.setup) (form_srv6 n e)
