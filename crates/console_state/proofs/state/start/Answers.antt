use Rattle.console_state.proofs.state.start.Goals as goal

pub returns : goal.returns
returns c = record { start = cc }
