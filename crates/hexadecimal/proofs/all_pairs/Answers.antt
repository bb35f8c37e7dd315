use Rattle.hexadecimal.proofs.Laws.{pairs_even, pairs_odd}
use Rattle.std.proofs.Common.{◌∙◌, sym}
use borrow.Author.Tests.{ne_eqb}
use Rattle.hexadecimal.proofs.all_pairs.Goals as goal

pub returns-then-word-eq0 : goal.returns-then-word-eq0
returns-then-word-eq0 c =
    record { pairs = c.all_digits.ensures.digits ∙ sym (pairs_even c.args.word.now c.if-word-eq0.true) }

pub returns-else-word-eq0 : goal.returns-else-word-eq0
returns-else-word-eq0 c = record { pairs = ne_eqb _ _ c.if-word-eq0.false ∙ sym (pairs_odd c.args.word.now c.if-word-eq0.false) }
