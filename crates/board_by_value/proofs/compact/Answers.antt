use native.Mathlib.Omega.{arith}
use mathlib.Core.Path.{◌≡◌, ◌∙◌}
use Rattle.std.proofs.Common.{Err}
use Rattle.std.proofs.lemmas.Grind.{common_steps}
use Rattle.board_by_value.specs.Back.{back_of}
use Rattle.board_by_value.proofs.Laws.{compact_back, compact_kept}
use Rattle.board_by_value.proofs.compact.Goals as goal

pub returns : goal.returns
returns c =
    let t = c.in_ok-compact.ensures in
    record { answer = compact_back c.args.b c.args.store.now _ c.args.c (rw (t.parts.0, t.parts.1, t.parts.2) at t.answer) }

pub returns-in_err-compact : goal.returns-in_err-compact
returns-in_err-compact c =
    let r = c.in_err-compact.field-0.0 in
    let e : back_of c.args.b c.from_residual.result ≡ back_of c.args.b (Err r) = grind (arith, common_steps) in
    record { answer = e ∙ compact_kept c.args.b c.args.store.now _ c.args.c r c.in_err-compact.ensures.answer }
