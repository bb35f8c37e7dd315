-- One arm for each row about the writer: the row says what the definition leaves, the call left it, and the law of the group puts both together. What a call requires of its words the form says.
use Rattle.console_writer_rows.proofs.Laws.{by_row}
use Rattle.console_writer_rows.proofs.Formed.{begin_size, add_form}
use Rattle.console_writer_rows.specs.Written.{written_turn}
use Rattle.command_rows.specs.declared.Writing.{Writing}
use Rattle.command_rows.specs.Rows.{written}
use lib.ListN.{take}
use mathlib.Core.Path.{refl, ◌∙◌, ap}
use native.Mathlib.Omega.{arith}
use borrow.Author.Rules.{rules}
use Rattle.console_writer_rows.proofs.written.Goals as goal

pub begun-requires : goal.begun-requires
begun-requires c =
    let a = c.args in
    let h = begin_size a.line.now c.requires.0 (c.requires.1 ∙ ap written c.in-Begin.is) in
    let l = c.requires.2 in
    (omega (arith, h, l), omega (arith, c.requires.4))

pub added-requires : goal.added-requires
added-requires c =
    let a = c.args in
    let f = add_form a.line.now c.requires.0 (c.requires.1 ∙ ap written c.in-Add.is) in
    (c.requires.3, f, omega (arith, c.requires.4))

pub returns-in-Begin : goal.returns-in-Begin
returns-in-Begin c =
    let a = c.args in
    let turn = by_row (λ (y : Writing). written_turn y a.old (take a.size a.memory.now) a.c a.line.now)
    c.in-Begin.is c.begun.ensures.writer c.begun.ensures.lent c.begun.ensures.told in
    record { writer = turn.0; lent = turn.1.0; told = turn.1.1 }

pub returns-in-Add : goal.returns-in-Add
returns-in-Add c =
    let a = c.args in
    let turn = by_row (λ (y : Writing). written_turn y a.old (take a.size a.memory.now) a.c a.line.now)
    c.in-Add.is c.added.ensures.writer c.added.ensures.lent c.added.ensures.told in
    record { writer = turn.0; lent = turn.1.0; told = turn.1.1 }

pub returns-in-Finish : goal.returns-in-Finish
returns-in-Finish c =
    let a = c.args in
    let turn = by_row (λ (y : Writing). written_turn y a.old (take a.size a.memory.now) a.c a.line.now)
    c.in-Finish.is c.finished.ensures.writer c.finished.ensures.lent c.finished.ensures.told in
    record { writer = turn.0; lent = turn.1.0; told = turn.1.1 }

pub returns-in-Lent : goal.returns-in-Lent
returns-in-Lent c =
    let a = c.args in
    let turn = by_row (λ (y : Writing). written_turn y a.old (take a.size a.memory.now) a.c a.line.now)
    c.in-Lent.is refl refl c.shown.ensures.told in
    record { writer = turn.0; lent = turn.1.0; told = turn.1.1 }
