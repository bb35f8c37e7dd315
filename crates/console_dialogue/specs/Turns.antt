-- What a line of the console does (console.md): "It reads commands from standard input, one to a line, .. and writes exactly one line for each."
use Rattle.std.specs.Prelude.{ℕ, ◌≡◌, true, false, List, []}
use Rattle.session.specs.declared.Sessions.{Sessions}
use Rattle.session.specs.Sessions.{sessions_of}
use Rattle.printing.specs.Text.{Behind}
use Rattle.console_lines.specs.Lines.{bad_line, done_line}
use Rattle.console_fields.specs.Shown.{opened_line}
use Rattle.command_forms.specs.declared.verb.Verb.{Verb}
use Rattle.command_forms.specs.declared.verb.Verb.TheVariants as v
use Rattle.command.specs.declared.Command.{Command}
use Rattle.command.specs.Commands.{command_of}
use Rattle.console_state.specs.declared.state.State.{State}
use Rattle.console_state.specs.State.{Console, console_of}
use Rattle.console_state.specs.Spelled.{octets_in}
use Rattle.console_routes.specs.RouteLines.{open_in, route_line, segment_answer}
use Rattle.console_writer.specs.WriterLines.{Composing, begin_turn, add_turn, finish_turn, lent_line}
use Rattle.console_board.specs.BoardLines.{Boarding, report_turn, remove_turn, compact_turn, body_line, next_line, moved_line, mark_line, board_line, chain_line}

-- the console after a line, and the line that answers it
pub record Turned : Type 0 where
  pub console : Console
  pub answer : List ℕ

-- A line that changes nothing.
abbrev pub stays : Console → List ℕ → Turned
stays k answer = record { console = k; answer = answer }

-- `pcc OCTETS`: "reads an OPEN object; its answer, a refusal too, becomes that side's half of the session"; `0 0 SRV6 N LIMIT A R V M MPLS MN MLIMIT`
abbrev pub pcc_turn : Console → List ℕ → Turned
pcc_turn k line = record {
  console = record { board = k.board; store = k.store; pcc = open_in k.positions line; pce = k.pce; writer = k.writer; lent = k.lent; positions = k.positions; addresses = k.addresses };
  answer = opened_line (open_in k.positions line);
}

-- `pce OCTETS`, the same for the other side
abbrev pub pce_turn : Console → List ℕ → Turned
pce_turn k line = record {
  console = record { board = k.board; store = k.store; pcc = k.pcc; pce = open_in k.positions line; writer = k.writer; lent = k.lent; positions = k.positions; addresses = k.addresses };
  answer = opened_line (open_in k.positions line);
}

-- "the session" of both halves, one for each form
abbrev pub agreed_in : Console → Sessions
agreed_in k = sessions_of k.pcc k.pce

-- What a command about the writer leaves, and its line.
abbrev pub composes : Console → Composing → Turned
composes k t = record {
  console = record { board = k.board; store = k.store; pcc = k.pcc; pce = k.pce; writer = t.writer; lent = t.lent; positions = k.positions; addresses = k.addresses };
  answer = t.answer;
}

-- What a command about the board leaves, and its line.
abbrev pub boards : Console → Boarding → Turned
boards k t = record {
  console = record { board = t.board; store = t.store; pcc = k.pcc; pce = k.pce; writer = k.writer; lent = k.lent; positions = k.positions; addresses = k.addresses };
  answer = t.answer;
}

-- `positions A R`: "sets the two bit positions for later reading and writing of OPENs, any numbers .. Never refused"; `0 0`
abbrev pub positions_turn : Console → Command → Turned
positions_turn k c = record {
  console = record {
    board = k.board;
    store = k.store;
    pcc = k.pcc;
    pce = k.pce;
    writer = k.writer;
    lent = k.lent;
    positions = record { a = c.one; r = c.two };
    addresses = k.addresses;
  };
  answer = done_line;
}

-- `addresses OCTETS`: "sets the head end's addresses for later routes and reports, any octets .. Never refused"; `0 0`
abbrev pub addresses_turn : Console → List ℕ → Turned
addresses_turn k line = record {
  console = record {
    board = k.board;
    store = k.store;
    pcc = k.pcc;
    pce = k.pce;
    writer = k.writer;
    lent = k.lent;
    positions = k.positions;
    addresses = octets_in line 1;
  };
  answer = done_line;
}

-- the table of commands, row by row
abbrev pub turn_by : Verb → Console → Command → List ℕ → ℕ → Turned
-- "Empty lines, and lines that begin with `#`, are skipped and answered by nothing"
turn_by v.Skip k c line n = stays k []
-- "answered `bad line N`, N counting all lines from 1, and changes nothing"
turn_by v.Bad k c line n = stays k (bad_line n)
-- `pcc OCTETS`
turn_by v.Pcc k c line n = pcc_turn k line
-- `pce OCTETS`
turn_by v.Pce k c line n = pce_turn k line
-- `ero PST OCTETS`: "judges a route under the session"
turn_by v.Ero k c line n = stays k (route_line c line true (agreed_in k) k.addresses)
-- `rro PST OCTETS`
turn_by v.Rro k c line n = stays k (route_line c line false (agreed_in k) k.addresses)
-- `ero-segment PST I OCTETS`: "asks for segment I of a route"
turn_by v.EroSegment k c line n = stays k (segment_answer c line true (agreed_in k) k.addresses)
-- `rro-segment PST I OCTETS`
turn_by v.RroSegment k c line n = stays k (segment_answer c line false (agreed_in k) k.addresses)
-- `begin ero PST SIZE` · `begin rro PST SIZE`
turn_by v.Begin k c line n = composes k (begin_turn k.writer k.lent c)
-- `add L V NT BEHAVIOUR SID NAI STRUCTURE M C`: "adds a segment"
turn_by v.Add k c line n = composes k (add_turn k.writer k.lent c line)
-- `finish`: "finishes the route; the writer stays where it is"
turn_by v.Finish k c line n = composes k (finish_turn k.writer k.lent)
-- `lent`: "shows the writer's whole buffer"
turn_by v.Lent k c line n = stays k (lent_line k.lent)
-- `report KEY PST OCTETS`: "reports a path to the board"
turn_by v.Report k c line n = boards k (report_turn k.board k.store c line (agreed_in k) k.addresses)
-- `remove KEY`
turn_by v.Remove k c line n = boards k (remove_turn k.board k.store c)
-- `compact C`
turn_by v.Compact k c line n = boards k (compact_turn k.board k.store c)
-- `body KEY`
turn_by v.Body k c line n = stays k (body_line k.board k.store c)
-- `next S W`: "what a follower with mark (S, W) is handed"
turn_by v.Next k c line n = stays k (next_line k.board k.store c)
-- `mark`: "a fresh mark"
turn_by v.Mark k c line n = stays k (mark_line k.board)
-- `board`: "the board's numbers"
turn_by v.Board k c line n = stays k (board_line k.board)
-- `chain`: "the used places from the oldest change to the newest"
turn_by v.Chain k c line n = stays k (chain_line k.board)
-- `positions A R`: "sets the two bit positions"
turn_by v.Positions k c line n = positions_turn k c
-- `addresses OCTETS`: "sets the head end's addresses"
turn_by v.Addresses k c line n = addresses_turn k line
-- `moved A B V`
turn_by v.Moved k c line n = stays k (moved_line k.board k.store c)

-- What a line does, the n-th of all.
unfoldable pub turn_of : Console → List ℕ → ℕ → Turned
turn_of k line n = turn_by (command_of line).verb k (command_of line) line n

-- The console stands as the n-th line leaves it, and the octets of its answer, and no others, are laid at the start of a buffer, up to `end`.
pub record Does (s : State) (store memory line : List ℕ) (n : ℕ) (r : State) (store' memory' before after : List ℕ) (end : ℕ) : Type 0 where
  pub console : console_of r store' memory' ≡ (turn_of (console_of s store memory) line n).console
  pub told : Behind before after 0 end (turn_of (console_of s store memory) line n).answer
