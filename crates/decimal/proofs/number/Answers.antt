use Rattle.decimal.proofs.Laws.{empty_refused, some_there, nondigit_refused, digit_none, digit_some, overflow_refused, one_more, all_read}
use Rattle.std.proofs.Common.{◌≡◌, ◌*◌, ◌+◌, ◌-◌, slice_index_or, length, rules, arith, refl}
use Rattle.std.proofs.lemmas.Grind.{common_steps}
use Rattle.decimal.proofs.number.Goals as goal

pub returns-then-is_empty : goal.returns-then-is_empty
returns-then-is_empty c = let n : length c.args.word.now ≡ 0 = search rules in record { number = empty_refused c.args.word.now n }

pub loop-c-init : goal.loop-c-init
loop-c-init c =
    let n : length c.args.word.now ≡ 0 → ⊥ = λ (e : length c.args.word.now ≡ 0). grind (arith, common_steps) in
    record { within = omega arith; some = some_there c.args.word.now n; digits = refl; same = refl; fits = omega arith }

pub returns-in_err-d : goal.returns-in_err-d
returns-in_err-d c =
    record { number = rw c.from_residual.ensures (nondigit_refused c.loop-c.invariant c.loop-c-test.true (digit_none _ c.in_err-d.ensures.digit)) }

pub returns-in_err-checked_mul : goal.returns-in_err-checked_mul
returns-in_err-checked_mul c =
    let d = digit_some _ _ c.in_ok-d.ensures.digit in
    let h = c.in_err-checked_mul.ensures in
    record { number = rw c.from_residual-in_err-checked_mul.ensures (overflow_refused c.loop-c.invariant c.loop-c-test.true d.0 (omega arith)) }

pub returns-in_err-v : goal.returns-in_err-v
returns-in_err-v c =
    let d = digit_some _ _ c.in_ok-d.ensures.digit in
    let g = c.in_ok-checked_mul.ensures in
    let h = c.in_err-v.ensures in
    record { number = rw c.from_residual-in_err-v.ensures (overflow_refused c.loop-c.invariant c.loop-c-test.true d.0 (omega arith)) }

pub loop-c-preserved : goal.loop-c-preserved
loop-c-preserved c =
    let d = digit_some _ _ c.in_ok-d.ensures.digit in
    let g = c.in_ok-checked_mul.ensures in
    let h = c.in_ok-v.ensures in
    let e : c.loop-c.v * 10 + (slice_index_or c.args.word.now c.loop-c.c-index 0 - 48) ≡ c.in_ok-v.v = omega arith in
    rw (← e) (one_more c.loop-c.invariant c.loop-c-test.true d.0 (omega arith))

pub returns : goal.returns
returns c = record { number = all_read c.loop-c.invariant c.loop-c-test.false }
