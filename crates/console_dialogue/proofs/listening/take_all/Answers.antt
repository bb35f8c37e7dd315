use Rattle.std.proofs.Common.{sym, ◌∙◌}
use Rattle.console_dialogue.proofs.ReachedLaws.{heard_all}
use Rattle.console_dialogue.specs.Input.{heard_of}
use Rattle.console_dialogue.proofs.listening.take_all.Goals as goal

pub returns-clause-heard : goal.returns-clause-heard
returns-clause-heard g c =
    let l = c.loop-at in
    sym (heard_all (heard_of l.heard l.store l.memory l.line) c.args.read.now l.at c.loop-at-test.false) ∙ l.invariant.7
