use mathlib.Core.Path.{ap, ◌∙◌}
use Rattle.border_opened.specs.Opens.{opened_in}
use Rattle.border_session.specs.Agreed.{sessions_out}
use Rattle.border_open.proofs.agree.Goals as goal

pub returns : goal.returns
returns c = let args = c.args in
    record {
      sessions = c.sessions_out.ensures.sessions
          ∙ ap sessions_out (c.agree.ensures.sessions (opened_in args.pcc) (opened_in args.pce) c.carried_in-first.ensures.carried c.carried_in-second.ensures.carried);
    }
