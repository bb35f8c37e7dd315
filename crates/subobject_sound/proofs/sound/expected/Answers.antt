use Rattle.std.proofs.Common.{◌≡◌, cond}
use Rattle.subobject_sound.proofs.Laws.{length_made}
use Rattle.subobject_sound.proofs.sound.expected.Goals.{then-structured, else-structured}
use Rattle.subobject_sound.proofs.sound.expected.Goals as goal

pub returns : goal.returns
returns c =
    let structure : c.if-structured.structure ≡ cond c.structured.result 8 0 = elim c.if-structured.branch [
      | then-structured w ↦ rw w.if-structured.true w.structure-is
      | else-structured w ↦ rw w.if-structured.false w.structure-is
    ] in
    record { length = λ e. length_made c.args.form c.args.h _ _ _ _ _ c.from-fixed.ensures c.sid_length-sid.ensures.length c.structured.ensures.structured structure e }
