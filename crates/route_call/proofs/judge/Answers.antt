use mathlib.Core.Path.{ap, ◌∙◌}
use Rattle.session.specs.declared.Session.{Session}
use Rattle.route_call.specs.Called.{judged_in}
use Rattle.route_call.proofs.judge.Goals as goal

pub returns : goal.returns
returns c = let args = c.args in record { judged = c.judge_in.ensures.judged ∙ ap (λ (x : Session). judged_in args.s.now args.ero x args.pst args.addresses.now) c.under.ensures.session }
