-- The four runs are laid one behind the other (`written_subobject`); each fits because the whole subobject does (`lent_room`).
use Prim.Native.Nat.{ℕ}
use mathlib.Core.Bool.{Bool, cond}
use mathlib.Core.Path.{refl, ap, ◌∙◌}
use lib.Dec.{eqb}
use lib.ListN.{length}
use native.Mathlib.Omega.{arith}
use Rattle.octets.proofs.Said.{cond_most}
use Rattle.forms.specs.Forms.{nai_length}
use Rattle.forms.proofs.Laws.{fixed_most, nai_most}
use Rattle.subobject.specs.declared.head.Head.{Head}
use Rattle.subobject.specs.Layout.{sid_length}
use Rattle.writer_spare.specs.Lending.{lent_of}
use Rattle.writer_layout.proofs.Laws.{small_head, lent_head, lent_room, written_subobject}
use Rattle.writer_layout.proofs.image.write.Goals as goal

pub fixed-requires : goal.fixed-requires
fixed-requires g c = let p = c.args.p in let q = c.requires in (
  small_head q.3 q.4 (lent_of p.lent) p.head (lent_head g.L.Layout.layout p.lent p.head q.0) q.1,
  omega (arith, lent_room q.3 p.lent p.head (length c.args.out.now) q.0 q.2),
  ap (λ (h : Head). h.kind) q.0,
  q.5.whole,
)

pub lay_sid-requires : goal.lay_sid-requires
lay_sid-requires g c = let p = c.args.p in let q = c.requires in omega (arith, lent_room q.3 p.lent p.head (length c.args.out.now) q.0 q.2, c.fixed.auto.out)

pub lay_nai-requires : goal.lay_nai-requires
lay_nai-requires g c = let p = c.args.p in let q = c.requires in
    omega (arith, lent_room q.3 p.lent p.head (length c.args.out.now) q.0 q.2, c.lay_sid.auto.out, c.fixed.auto.out, q.5.front)

pub overflow_add-p : goal.overflow_add-p
overflow_add-p g c = let p = c.args.p in let q = c.requires in
    omega (arith, q.5.front, q.5.nai, fixed_most q.3, q.3.sid, nai_most q.3 p.head.nt, cond_most (eqb p.head.s 0) g.L.Layout.layout.sid)

pub lay_structure-requires : goal.lay_structure-requires
lay_structure-requires g c = let p = c.args.p in let q = c.requires in
    omega (
      arith,
      lent_room q.3 p.lent p.head (length c.args.out.now) q.0 q.2,
      c.lay_nai.auto.out,
      c.lay_sid.auto.out,
      c.fixed.auto.out,
      q.5.front,
      q.5.nai,
      ap (λ (x : Bool). cond {A = ℕ} x 8 0) q.6,
    )

pub returns : goal.returns
returns g c = let p = c.args.p in let q = c.requires in let h = p.head in let form = g.L.Layout.layout in record {
  written = written_subobject q.3 (lent_of p.lent) h c.structure-last.result c.args.out.now c.fixed.new.out c.lay_sid.new.out
      c.lay_nai.new.out c.lay_structure.new.out form.fixed (sid_length form h.s) (nai_length form h.nt)
      p.lent.outline.structured p.lent.typed (lent_head form p.lent h q.0) c.structure-last.ensures.structure refl refl refl q.6 q.2 c.fixed.ensures.fixed
      c.lay_sid.ensures.laid (c.lay_nai.ensures.laid ∙ rw q.5.front) (c.lay_structure.ensures.laid ∙ rw (q.5.front, q.5.nai));
}
