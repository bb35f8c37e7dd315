-- What adding has found of a segment before it asks the rules. No promise rests on it: inner functions ask for it, and proofs show it.
use Rattle.std.specs.Prelude.{ℕ, ◌+◌, ◌≡◌, cond}
use Rattle.forms.specs.declared.Form.{Form}
use Rattle.forms.specs.Forms.{nai_length}
use Rattle.forms.specs.Sized.{Sized}
use Rattle.subobject.specs.declared.head.Head.{Head}
use Rattle.subobject.specs.declared.segment.Segment.{Segment}
use Rattle.subobject.specs.Layout.{structure_size}
use Rattle.subobject.specs.Segments.{outline_of, head_of_outline}
use Rattle.writer_spare.specs.Typed.{Typed}
use Rattle.writer_front.specs.Front.{front_of}
use Rattle.writer_layout.specs.Readable.{Readable}

-- Its head, the octets before its NAI, those of the NAI, and all; for a form that fits and reads back.
pub record Looked (form : Form) (g : Segment) (h : Head) (x n y : ℕ) : Type 0 where
  pub sized : Sized form
  pub readable : Readable form
  pub typed : Typed g
  pub head : h ≡ head_of_outline form (outline_of g)
  pub front : x ≡ front_of form (outline_of g) g.sid
  pub nai : n ≡ nai_length form g.nt
  pub whole : y ≡ x + n + cond g.structured structure_size 0
