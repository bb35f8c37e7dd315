-- The parts of a subobject. No promise rests on it: inner functions ask for it, and proofs show it.
use Rattle.std.specs.Prelude.{ℕ, ◌+◌, ◌≡◌}
use Rattle.forms.specs.declared.Form.{Form}
use Rattle.subobject.specs.declared.head.Head.{Head}
use Rattle.forms.specs.Forms.{nai_length}
use Rattle.subobject.specs.Layout.{sid_length}

-- The octets before the NAI, those of the NAI, and all.
pub record Parts (form : Form) (h : Head) (x n y : ℕ) : Type 0 where
  pub front : x ≡ form.fixed + sid_length form h.s
  pub nai : n ≡ nai_length form h.nt
  pub whole : y ≡ h.size
