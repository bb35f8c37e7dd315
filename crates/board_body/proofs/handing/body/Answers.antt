use Rattle.answers.proofs.Results.{refused_numbered}
use Rattle.board_record.specs.Lent.{board_lent}
use Rattle.board_body.proofs.Bodies.{body_none_on, body_handed}
use Rattle.board_body.proofs.handing.body.Goals as goal

pub returns-in-Ok : goal.returns-in-Ok
returns-in-Ok c =
    let told = c.in-Ok.ensures in
    record { body = body_handed (board_lent c.args.b) c.args.store.now c.args.key _ _ told.number told.path c.start_of-from.ensures.start }

pub returns-in-Err : goal.returns-in-Err
returns-in-Err c =
    record { body = body_none_on (board_lent c.args.b) c.args.store.now c.args.key _ c.in-Err.ensures.number (refused_numbered c.in-Err.field-0) }
