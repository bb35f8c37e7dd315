-- The line of a row that asks about a route; no promise rests on this file: `console_dialogue/specs/Turns` has the table.
use Rattle.std.specs.Prelude.{ℕ, true, false, List}
use Rattle.session.specs.declared.Sessions.{Sessions}
use Rattle.command.specs.declared.Command.{Command}
use Rattle.command_rows.specs.declared.Asking.{Asking}
use Rattle.command_rows.specs.declared.Asking.TheVariants as a
use Rattle.console_routes.specs.RouteLines.{route_line, segment_answer}

abbrev pub asked_line : Asking → Command → List ℕ → Sessions → List ℕ → List ℕ
asked_line a.Ero c line sessions addresses = route_line c line true sessions addresses
asked_line a.Rro c line sessions addresses = route_line c line false sessions addresses
asked_line a.EroSegment c line sessions addresses = segment_answer c line true sessions addresses
asked_line a.RroSegment c line sessions addresses = segment_answer c line false sessions addresses
