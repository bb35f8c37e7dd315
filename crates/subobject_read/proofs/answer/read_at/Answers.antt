use native.Mathlib.Omega.{arith}
use Rattle.forms.proofs.Laws.{fixed_least}
use Rattle.subobject_read.proofs.Laws.{read_short, read_cut, read_whole}
use Rattle.subobject_read.proofs.answer.read_at.Goals as goal

pub returns-then-room-from : goal.returns-then-room-from
returns-then-room-from c = record { answer = search read_short }

pub head_at-h-requires : goal.head_at-h-requires
head_at-h-requires c = omega (arith, fixed_least c.requires.1, c.from.ensures)

pub returns-then-room-expected : goal.returns-then-room-expected
returns-then-room-expected c = record { answer = search read_cut }

pub returns : goal.returns
returns c = record { answer = search read_whole }
