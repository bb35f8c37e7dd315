-- Each way out is the sessions of what the ends carry (`agreed_between`).
use Rattle.session.proofs.Laws.{agreed_between}
use borrow.Author.Rules.{rules}
use Rattle.session.proofs.agree.Goals as goal

pub returns-in_default : goal.returns-in_default
returns-in_default c = record { sessions = agreed_between (search rules) }

pub returns-in_default-2 : goal.returns-in_default-2
returns-in_default-2 c = record { sessions = agreed_between (search rules) }

pub returns : goal.returns
returns c = record { sessions = agreed_between (search rules) }
