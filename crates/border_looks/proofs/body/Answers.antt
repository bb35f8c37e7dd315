use Rattle.answers.specs.Verdicts.{refusal_of}
use Rattle.answers.proofs.Results.{refused_numbered}
use Rattle.board_record.specs.Lent.{board_lent}
use Rattle.border_looks.proofs.Laws.{part_none, part_here}
use Rattle.border_looks.proofs.body.Goals as goal

pub returns-in-Ok : goal.returns-in-Ok
returns-in-Ok c =
    let told = c.in-Ok.ensures in
    let p = part_here (board_lent c.args.b) c.args.store.now c.args.key _ _ told.number told.path c.start_of.ensures.start in
    record { part = p.0; octets = p.1.0; form = p.1.1 }

pub returns-in-Err : goal.returns-in-Err
returns-in-Err c =
    let e = c.in-Err.refusal in
    let p = part_none (board_lent c.args.b) c.args.store.now c.args.key (refusal_of e) c.in-Err.ensures.number (refused_numbered e) in
    record { part = rw c.number.ensures.number p.0; octets = p.1.0; form = p.1.1 }
