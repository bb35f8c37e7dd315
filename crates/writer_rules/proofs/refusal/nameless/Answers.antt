use mathlib.Core.Path.{sym, ◌∙◌}
use Rattle.writer_rules.proofs.Laws.{nameless_nai, nameless_nine, nameless_eight, nameless_not}
use Rattle.writer_rules.proofs.refusal.nameless.Goals as goal

pub returns-then-n-ne0 : goal.returns-then-n-ne0
returns-then-n-ne0 g c = record { number = nameless_nai g.L.Layout.layout c.args.h c.args.n c.requires.0 c.requires.1 c.if-n-ne0.true }

pub returns-then-nine : goal.returns-then-nine
returns-then-nine g c = record { number = nameless_nine g.L.Layout.layout c.args.h c.args.n c.requires.0 c.requires.1 (sym c.nine.ensures.broken ∙ c.if-nine.true) }

pub returns-then-h-ne-NO_NAI : goal.returns-then-h-ne-NO_NAI
returns-then-h-ne-NO_NAI g c = record { number = nameless_eight g.L.Layout.layout c.args.h c.args.n c.requires.0 c.requires.1 c.if-n-ne0.false c.if-h-ne-NO_NAI.true }

pub returns : goal.returns
returns g c = record
    { number = nameless_not g.L.Layout.layout c.args.h c.args.n c.requires.0 c.requires.1 c.if-h-ne-NO_NAI.false (sym c.nine.ensures.broken ∙ c.if-nine.false) }
