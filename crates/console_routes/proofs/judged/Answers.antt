use Rattle.console_routes.specs.RouteLines.{route_line}
use Rattle.console_routes.proofs.Laws.{judged_told}
use Rattle.console_state.proofs.Laws.{spelled}
use Rattle.console_routes.proofs.judged.Goals as goal

pub returns : goal.returns
unfolding route_line
returns c =
    let r = c.args.r in
    let e = judged_told c.args.ero r.sessions r.line.command.one r.addresses.now (spelled _ _ c.octets_at-n.ensures.octets) c.judge-answer.ensures.judged in
    record { told = rw (← e) c.counted.ensures.told }
