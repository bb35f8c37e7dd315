-- The parts lie inside the octets given (`parts_room`), each is read where the head says, and together they are the segment (`segment_made`).
use mathlib.Core.Path.{refl}
use native.Mathlib.Omega.{arith}
use Rattle.forms.proofs.Laws.{fixed_least, nai_most}
use Rattle.subobject.specs.Rules.{has_structure}
use Rattle.subobject_parts.proofs.Made.{fixed_here, sid_most, parts_room, bits_room, segment_made}
use Rattle.subobject_read.proofs.reading.segment_at.Goals as goal

pub head_at-h-requires : goal.head_at-h-requires
head_at-h-requires c = omega (arith, fixed_least c.requires.1, fixed_here c.args.form c.args.s.now c.args.ero c.args.at, c.requires.0)

pub behaviour_at-behaviour-requires : goal.behaviour_at-behaviour-requires
behaviour_at-behaviour-requires c = (omega (arith, fixed_here c.args.form c.args.s.now c.args.ero c.args.at, c.requires.0), c.requires.1)

pub part-sid-requires : goal.part-sid-requires
part-sid-requires c =
    let h = c.head_at-h in
    let room = parts_room c.args.form _ _ _ _ h.ensures.read c.requires.0 in
    let sid = c.sid_length-k.ensures.length in
    (omega (arith, room, sid, c.from-fixed.ensures), omega (arith, sid, sid_most c.requires.1 h.result.s))

pub part-nai-requires : goal.part-nai-requires
part-nai-requires c =
    let h = c.head_at-h in
    let room = parts_room c.args.form _ _ _ _ h.ensures.read c.requires.0 in
    let nai = c.nai_length-n.ensures.length.0 in
    (omega (arith, room, nai, c.sid_length-k.ensures.length, c.from-fixed.ensures), omega (arith, nai, nai_most c.requires.1 h.result.nt))

pub structure_at-structure-requires : goal.structure_at-structure-requires
structure_at-structure-requires c =
    let h = c.head_at-h in
    let room = parts_room c.args.form _ _ _ _ h.ensures.read c.requires.0 in
    let nai = c.nai_length-n.ensures.length.0 in
    rw c.structured-there.ensures.structured (omega (arith, room, nai, c.sid_length-k.ensures.length, c.from-fixed.ensures, bits_room (has_structure h.result)))

pub returns : goal.returns
returns c =
    let h = c.head_at-h in record {
      segment = segment_made c.args.form _ _ _ h.result _ _ _ _ _ _ _ _ _ h.ensures.read c.structured-there.ensures.structured c.from-fixed.ensures
          c.sid_length-k.ensures.length c.nai_length-n.ensures.length.0 refl c.behaviour_at-behaviour.ensures.behaviour c.part-sid.ensures.part
          c.part-nai.ensures.part c.structure_at-structure.ensures.part;
    }
