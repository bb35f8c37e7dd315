-- Of any two buffers that fit the contract, both are the same.
use Prim.Native.Nat.{ℕ}
use mathlib.Core.Path.{◌≡◌, sym, ◌∙◌}
use mathlib.Core.List.{List}
use Rattle.octets.specs.Octets.{over}
use Rattle.forms.specs.declared.Form.{Form}
use Rattle.subobject.specs.declared.segment.Segment.{Segment}
use Rattle.subobject.specs.Segments.{subobject_of}

pub write_determined : (form : Form) (out : List ℕ) (g : Segment) (after other : List ℕ) → after ≡ over (subobject_of form g) out
    → other ≡ over (subobject_of form g) out → after ≡ other
write_determined form out g after other e f = e ∙ sym f
