-- One arm for each row that asks about a route: the row says which line the definition gives, the call laid that line, and `behind_by` puts both together.
use Rattle.printing.proofs.Laws.{behind_by}
use Rattle.command_rows.specs.declared.Asking.{Asking}
use Rattle.console_state.specs.State.{list_in}
use Rattle.console_route_rows.specs.Asked.{asked_line}
use Rattle.console_route_rows.proofs.asked.Goals as goal

pub returns-in-Ero : goal.returns-in-Ero
returns-in-Ero c =
    let a = c.args in
    record {
      told = behind_by (λ (y : Asking). asked_line y a.c a.line.now a.sessions (list_in a.memory.now a.given)) c.in-Ero.is
          (rw c.listed-addresses.ensures.listed at c.judged.ensures.told);
    }

pub returns-in-Rro : goal.returns-in-Rro
returns-in-Rro c =
    let a = c.args in
    record {
      told = behind_by (λ (y : Asking). asked_line y a.c a.line.now a.sessions (list_in a.memory.now a.given)) c.in-Rro.is
          (rw c.listed-addresses.ensures.listed at c.judged-in-Rro.ensures.told);
    }

pub returns-in-EroSegment : goal.returns-in-EroSegment
returns-in-EroSegment c =
    let a = c.args in
    record {
      told = behind_by (λ (y : Asking). asked_line y a.c a.line.now a.sessions (list_in a.memory.now a.given)) c.in-EroSegment.is
          (rw c.listed-addresses.ensures.listed at c.picked.ensures.told);
    }

pub returns-in-RroSegment : goal.returns-in-RroSegment
returns-in-RroSegment c =
    let a = c.args in
    record {
      told = behind_by (λ (y : Asking). asked_line y a.c a.line.now a.sessions (list_in a.memory.now a.given)) c.in-RroSegment.is
          (rw c.listed-addresses.ensures.listed at c.picked-in-RroSegment.ensures.told);
    }
