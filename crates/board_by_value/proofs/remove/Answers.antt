use native.Mathlib.Omega.{arith}
use mathlib.Core.Path.{◌≡◌, ◌∙◌}
use Rattle.std.proofs.Common.{Err}
use Rattle.std.proofs.lemmas.Grind.{common_steps}
use Rattle.board_by_value.specs.Back.{back_of}
use Rattle.board_by_value.proofs.Laws.{remove_back, remove_kept}
use Rattle.board_by_value.proofs.remove.Goals as goal

pub returns : goal.returns
returns c =
    let t = c.in_ok-remove.ensures in
    record { answer = remove_back c.args.b c.args.store.now _ c.args.key (rw (t.parts.0, t.parts.1) at t.answer) }

pub returns-in_err-remove : goal.returns-in_err-remove
returns-in_err-remove c =
    let r = c.in_err-remove.field-0.0 in
    let e : back_of c.args.b c.from_residual.result ≡ back_of c.args.b (Err r) = grind (arith, common_steps) in
    record { answer = e ∙ remove_kept c.args.b c.args.store.now _ c.args.key r c.in_err-remove.ensures.answer }
