-- Either something was read and `take_all` takes it in, or the input has ended and its last line is answered; either way some input leaves the console so.
use Rattle.console_dialogue.proofs.ReachedLaws.{reached_more, reached_ended}
use Rattle.console_dialogue.proofs.listening.listen.Goals as goal

pub returns-then-n-gt0-clause-reached : goal.returns-then-n-gt0-clause-reached
returns-then-n-gt0-clause-reached g c = λ r. reached_more _ c.take_all-heard.ensures.heard r

pub returns-clause-reached : goal.returns-clause-reached
returns-clause-reached g c = λ r. reached_ended c.answer-said.ensures.heard r
