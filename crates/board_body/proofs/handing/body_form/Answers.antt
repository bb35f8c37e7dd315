use Rattle.answers.proofs.Results.{refused_numbered}
use Rattle.board_record.specs.Lent.{board_lent}
use Rattle.board_body.proofs.Bodies.{form_none_on, form_handed}
use Rattle.board_body.proofs.handing.body_form.Goals as goal

pub returns-in-Ok : goal.returns-in-Ok
returns-in-Ok c =
    record { form = form_handed (board_lent c.args.b) c.args.store.now c.args.key _ c.in-Ok.ensures.number c.in-Ok.ensures.path }

pub returns-in-Err : goal.returns-in-Err
returns-in-Err c =
    record { form = form_none_on (board_lent c.args.b) c.args.store.now c.args.key _ c.in-Err.ensures.number (refused_numbered c.in-Err.field-0) }
