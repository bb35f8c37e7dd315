-- One arm for each row that looks at the board: the row says which line the definition gives, the call laid that line, and `behind_by` puts both together.
use Rattle.printing.proofs.Laws.{behind_by}
use Rattle.command_rows.specs.declared.Looking.{Looking}
use Rattle.console_board_rows.specs.Boarded.{looked_line}
use borrow.Author.Rules.{rules}
use Rattle.console_board_rows.proofs.looked.Goals as goal

pub returns-in-Body : goal.returns-in-Body
returns-in-Body c = let a = c.args in record { told = behind_by (λ (y : Looking). looked_line y a.b a.store.now a.c) c.in-Body.is c.body.ensures.told }

pub returns-in-Next : goal.returns-in-Next
returns-in-Next c = let a = c.args in record { told = behind_by (λ (y : Looking). looked_line y a.b a.store.now a.c) c.in-Next.is c.next.ensures.told }

pub returns-in-Moved : goal.returns-in-Moved
returns-in-Moved c = let a = c.args in record { told = behind_by (λ (y : Looking). looked_line y a.b a.store.now a.c) c.in-Moved.is c.moved.ensures.told }

pub returns-in-Mark : goal.returns-in-Mark
returns-in-Mark c = let a = c.args in record { told = behind_by (λ (y : Looking). looked_line y a.b a.store.now a.c) c.in-Mark.is c.mark.ensures.told }

pub returns-in-Board : goal.returns-in-Board
returns-in-Board c = let a = c.args in record { told = behind_by (λ (y : Looking). looked_line y a.b a.store.now a.c) c.in-Board.is c.numbers.ensures.told }

pub returns-in-Chain : goal.returns-in-Chain
returns-in-Chain c = let a = c.args in record { told = behind_by (λ (y : Looking). looked_line y a.b a.store.now a.c) c.in-Chain.is c.chain.ensures.told }
