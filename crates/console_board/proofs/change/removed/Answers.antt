use Rattle.console_board.proofs.change.removed.Goals as goal

pub returns-in-Ok : goal.returns-in-Ok
returns-in-Ok c =
    let e = c.in-Ok.ensures.answer in
    record { board = rw (← e); told = rw (← e) c.plain.ensures.told }

pub returns-in-Err : goal.returns-in-Err
returns-in-Err c =
    let e = c.in-Err.ensures.answer in
    record { board = rw (← e); told = rw (← e) c.plain-in-Err.ensures.told }
