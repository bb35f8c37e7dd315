use Rattle.words.specs.Words.{newline, until_mark, word_of}
use Rattle.octets.proofs.Laws.{rest_lent}
use Rattle.std.proofs.Common.{ℕ, List, ap, ◌∙◌, arith, length-drop}
use Rattle.console_input_parts.proofs.part.Goals as goal

pub returns : goal.returns
unfolding word_of
returns c = let a = c.args in let e = rest_lent a.read.now a.at in
    record { part = (c.word.ensures.word.0 ∙ ap (λ (l : List ℕ). until_mark l newline) e, omega (arith, rw e at c.word.ensures.word.1, length-drop a.at a.read.now, c.requires)) }
