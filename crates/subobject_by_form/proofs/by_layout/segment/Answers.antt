-- The numbers read of the form are the layout's; the parts lie inside the octets given (`parts_by`), each is read where the head says, and together they are the
-- segment (`segment_by_lem`).
use mathlib.Core.Path.{◌∙◌, ap}
use mathlib.Core.Bool.{cond}
use native.Mathlib.Omega.{arith}
use Prim.Native.Nat.{◌+◌}
use Rattle.octets.specs.Octets.{be16}
use Rattle.forms.specs.declared.Form.{Form}
use Rattle.forms.specs.Forms.{nai_length}
use Rattle.subobject.specs.Layout.{sid_length, behaviour_place}
use Rattle.subobject.specs.Rules.{has_structure}
use Rattle.subobject_parts.proofs.Made.{parts_by, bits_room, segment_by_lem}
use Rattle.subobject_by_form.proofs.by_layout.segment.Goals as goal

pub behaviour_at-behaviour-requires : goal.behaviour_at-behaviour-requires
behaviour_at-behaviour-requires g c =
    let form = c.form-form.ensures.form in
    let room = parts_by g.L.Layout.layout c.args.s.now c.args.at c.args.h c.requires.0 in
    (omega (arith, room, ap (λ (f : Form). f.fixed) form), rw form c.form-form.ensures.sized)

pub sid-sid-requires : goal.sid-sid-requires
sid-sid-requires g c =
    let form = c.form-form.ensures.form in
    let room = parts_by g.L.Layout.layout c.args.s.now c.args.at c.args.h c.requires.0 in
    omega (arith, room, c.from-fixed.ensures, ap (λ (f : Form). f.fixed) form)

pub nai-nai-requires : goal.nai-nai-requires
nai-nai-requires g c =
    let form = c.form-form.ensures.form in
    let room = parts_by g.L.Layout.layout c.args.s.now c.args.at c.args.h c.requires.0 in
    let sid = c.sid_length-k.ensures.length ∙ ap (λ (f : Form). sid_length f c.args.h.s) form in
    omega (arith, room, sid, c.from-fixed.ensures, ap (λ (f : Form). f.fixed) form)

pub structure_at-structure-requires : goal.structure_at-structure-requires
structure_at-structure-requires g c =
    let h = c.args.h in
    let form = c.form-form.ensures.form in
    let room = parts_by g.L.Layout.layout c.args.s.now c.args.at h c.requires.0 in
    let fixed = c.from-fixed.ensures ∙ ap (λ (f : Form). f.fixed) form in
    let sid = c.sid_length-k.ensures.length ∙ ap (λ (f : Form). sid_length f h.s) form in
    let nai = c.nai_length-n.ensures.length.0 ∙ ap (λ (f : Form). nai_length f h.nt) form in
    rw c.structured-there.ensures.structured (omega (arith, room, fixed, sid, nai, bits_room (has_structure h)))

pub returns : goal.returns
returns g c =
    let h = c.args.h in
    let form = c.form-form.ensures.form in
    let fixed = c.from-fixed.ensures ∙ ap (λ (f : Form). f.fixed) form in
    let sid = c.sid_length-k.ensures.length ∙ ap (λ (f : Form). sid_length f h.s) form in
    let nai = c.nai_length-n.ensures.length.0 ∙ ap (λ (f : Form). nai_length f h.nt) form in
    let behaviour = c.behaviour_at-behaviour.ensures.behaviour ∙ ap (λ (f : Form). cond f.behaves (be16 c.args.s.now (c.args.at + behaviour_place)) 0) form in
    record {
      segment = segment_by_lem g.L.Layout.layout _ _ h _ _ _ _ _ _ _ _ c.structured-there.ensures.structured fixed sid nai behaviour c.sid-sid.ensures.part
          c.nai-nai.ensures.part c.structure_at-structure.ensures.part;
    }
