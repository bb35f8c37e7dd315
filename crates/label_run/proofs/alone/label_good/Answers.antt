use Rattle.label_run.proofs.Laws.{label_above, label_seven}
use Rattle.label_run.proofs.alone.label_good.Goals as goal

pub returns-then-read16-ne0 : goal.returns-then-read16-ne0
returns-then-read16-ne0 c = let args = c.args in record { good = λ e. label_above args.s.now args.at _ c.read16.ensures.number.0 c.if-read16-ne0.true }

pub returns : goal.returns
returns c = let args = c.args in record { good = λ e. label_seven args.s.now args.at _ _ c.read16.ensures.number.0 c.if-read16-ne0.false c.from.ensures e }
