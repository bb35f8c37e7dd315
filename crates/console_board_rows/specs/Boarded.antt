-- What a row about the board leaves and says; no promise rests on this file: `console_dialogue/specs/Turns` has the table.
use Rattle.std.specs.Prelude.{ℕ, List}
use Rattle.session.specs.declared.Sessions.{Sessions}
use Rattle.board_record.specs.declared.record.Board.{Board}
use Rattle.command.specs.declared.Command.{Command}
use Rattle.command_rows.specs.declared.Changing.{Changing}
use Rattle.command_rows.specs.declared.Changing.TheVariants as g
use Rattle.command_rows.specs.declared.Looking.{Looking}
use Rattle.command_rows.specs.declared.Looking.TheVariants as l
use Rattle.console_board.specs.BoardLines.{Boarding, report_turn, remove_turn, compact_turn, body_line, next_line, moved_line, mark_line, board_line, chain_line}

abbrev pub changed_turn : Changing → Board → List ℕ → Command → List ℕ → Sessions → List ℕ → Boarding
changed_turn g.Report b store c line sessions addresses = report_turn b store c line sessions addresses
changed_turn g.Remove b store c line sessions addresses = remove_turn b store c
changed_turn g.Compact b store c line sessions addresses = compact_turn b store c

abbrev pub looked_line : Looking → Board → List ℕ → Command → List ℕ
looked_line l.Body b store c = body_line b store c
looked_line l.Next b store c = next_line b store c
looked_line l.Moved b store c = moved_line b store c
looked_line l.Mark b store c = mark_line b
looked_line l.Board b store c = board_line b
looked_line l.Chain b store c = chain_line b
