use Rattle.tlvs.proofs.Laws.{at_none, at_torn, at_whole}
use Rattle.tlvs.proofs.item_at.Goals as goal
use Rattle.tlvs.proofs.item_at.Goals.{then-short, else-short}

pub returns-then-room-lt-TLV_HEAD-clause-exact : goal.returns-then-room-lt-TLV_HEAD-clause-exact
returns-then-room-lt-TLV_HEAD-clause-exact c = at_none _ _ _ _ c.if-room-lt-TLV_HEAD.true

pub returns-then-room-needed-clause-exact : goal.returns-then-room-needed-clause-exact
returns-then-room-needed-clause-exact c =
    let a = c.args in
    at_torn a.s.now a.at a.end a.short {needed = c.if-short.needed} c.read16-kind.ensures.number.0 c.read16-len.ensures.number.0 c.padded-padded.ensures.padded.0
    (elim c.if-short.branch [
      | then-short w ↦ rw (w.needed-is, w.if-short.true)
      | else-short w ↦ rw (w.needed-is, w.if-short.false)
    ]) c.if-room-lt-TLV_HEAD.false c.if-room-needed.true

pub returns-clause-exact : goal.returns-clause-exact
returns-clause-exact c =
    let a = c.args in
    at_whole a.s.now a.at a.end a.short {needed = c.if-short.needed} c.read16-kind.ensures.number.0 c.read16-len.ensures.number.0 c.padded-padded.ensures.padded.0
    (elim c.if-short.branch [
      | then-short w ↦ rw (w.needed-is, w.if-short.true)
      | else-short w ↦ rw (w.needed-is, w.if-short.false)
    ]) c.if-room-lt-TLV_HEAD.false c.if-room-needed.false
