use Rattle.console_board_rows.proofs.Laws.{by_change}
use Rattle.command_rows.specs.declared.Changing.{Changing}
use Rattle.console_state.specs.State.{list_in}
use Rattle.console_board_rows.specs.Boarded.{changed_turn}
use mathlib.Core.Path.{refl}
use borrow.Author.Rules.{rules}
use Rattle.console_board_rows.proofs.changed.Goals as goal

pub returns-in-Report : goal.returns-in-Report
returns-in-Report c =
    let a = c.args in
    let e = c.listed-addresses.ensures.listed in
    let turn = by_change (λ (y : Changing). changed_turn y a.b a.store.now a.c a.line.now a.sessions (list_in a.memory.now a.given))
    c.in-Report.is (rw e at c.reported.ensures.board) (rw e at c.reported.ensures.store) (rw e at c.reported.ensures.told) in
    record { board = turn.0; store = turn.1.0; told = turn.1.1 }

pub returns-in-Remove : goal.returns-in-Remove
returns-in-Remove c =
    let a = c.args in
    let turn = by_change (λ (y : Changing). changed_turn y a.b a.store.now a.c a.line.now a.sessions (list_in a.memory.now a.given))
    c.in-Remove.is c.removed.ensures.board refl c.removed.ensures.told in
    record { board = turn.0; store = turn.1.0; told = turn.1.1 }

pub returns-in-Compact : goal.returns-in-Compact
returns-in-Compact c =
    let a = c.args in
    let turn = by_change (λ (y : Changing). changed_turn y a.b a.store.now a.c a.line.now a.sessions (list_in a.memory.now a.given))
    c.in-Compact.is c.compacted.ensures.board refl c.compacted.ensures.told in
    record { board = turn.0; store = turn.1.0; told = turn.1.1 }
