use Rattle.words.proofs.Laws.{word_next, word_first, word_ended}
use Rattle.std.proofs.Common.{◌≡◌, ◌∙◌, ◌+◌, ◌-◌, length, rules, arith}
use Rattle.words.proofs.word.Goals as goal

pub returns-then-is_empty : goal.returns-then-is_empty
returns-then-is_empty c =
    let n : length c.loop.rest.now ≡ 0 = search rules in
    record {
      word = (word_ended _ _ _ n ∙ c.loop.invariant.same, omega arith);
    }

pub loop-preserved : goal.loop-preserved
loop-preserved c =
    let n : c.args.i - (c.loop.counter + 1) ≡ c.args.i - c.loop.counter - 1 = omega arith in
    record {
      same = rw (n, c.behind-rest.ensures.behind.0) (word_next _ _ _ (omega arith) ∙ c.loop.invariant.same);
      shorter = omega arith;
    }

pub returns : goal.returns
returns c =
    let n : c.args.i - c.loop.counter ≡ 0 = omega arith in
    record {
      word = (c.before-2.ensures.before.0 ∙ word_first _ _ ∙ rw n at c.loop.invariant.same, omega arith);
    }
