use Rattle.printing.proofs.Laws.{then}
use Rattle.console_fields.proofs.bits_field.Goals as goal

pub returns-clause-behind : goal.returns-clause-behind
returns-clause-behind c =
    rw (← c.from.ensures, ← c.from-2.ensures, ← c.from-3.ensures, ← c.from-4.ensures)
    (then c.field.ensures.behind
    (then c.push.ensures.behind
    (then c.number.ensures.behind
    (then c.push-2.ensures.behind
    (then c.number-2.ensures.behind
    (then c.push-3.ensures.behind
    c.number-3.ensures.behind))))))
