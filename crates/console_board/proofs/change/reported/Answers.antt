use native.Mathlib.Omega.{arith}
use Rattle.console_state.proofs.Laws.{spelled}
use Rattle.board_report_by_value.specs.ByValue.{report_by_value, report_store_by_value}
use mathlib.Core.Path.{◌∙◌}
use Rattle.console_board.proofs.change.reported.Goals as goal

pub returns-in-Ok : goal.returns-in-Ok
returns-in-Ok c =
    let a = c.args in
    let r = a.r in
    let k = r.line.command in
    let s = spelled _ _ c.octets_at-n.ensures.octets in
    let t = c.in-Ok.ensures in
    let e = t.answer ∙ (λ i. report_by_value a.b a.store.now k.one (s i) r.sessions k.two r.addresses.now) in
    record {
      board = rw (← e);
      store = t.stored ∙ (λ i. report_store_by_value a.b a.store.now k.one (s i) r.sessions k.two r.addresses.now);
      told = rw (← e) c.counted.ensures.told;
    }

pub returns-in-Err : goal.returns-in-Err
returns-in-Err c =
    let a = c.args in
    let r = a.r in
    let k = r.line.command in
    let s = spelled _ _ c.octets_at-n.ensures.octets in
    let t = c.in-Err.ensures in
    let e = t.answer ∙ (λ i. report_by_value a.b a.store.now k.one (s i) r.sessions k.two r.addresses.now) in
    record {
      board = rw (← e);
      store = t.stored ∙ (λ i. report_store_by_value a.b a.store.now k.one (s i) r.sessions k.two r.addresses.now);
      told = rw (← e) c.counted-in-Err.ensures.told;
    }
