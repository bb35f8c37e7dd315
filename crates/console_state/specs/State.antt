-- How the console stands between two lines (console.md).
use Rattle.std.specs.Prelude.{ℕ, true, List, [], take, drop, replicate, None, Result, Err}
use Rattle.answers.specs.Numbers.{open_malformed}
use Rattle.answers.specs.declared.reason.Reason.TheVariants.{OpenMalformed}
use Rattle.objects.specs.Objects.{srv6_setup}
use Rattle.flag_positions.specs.declared.Positions.{Positions}
use Rattle.flag_positions.specs.Positions.{first_two}
use Rattle.command_forms.specs.Forms.{most_size}
use Rattle.session.specs.Opened.{Opened}
use Rattle.session.specs.Sessions.{no_form, open_refused}
use Rattle.session.specs.declared.opened.Carried.{Carried}
use Rattle.session.specs.declared.opened.OpenRefusal.{OpenRefusal}
use Rattle.session.specs.Answered.{opened_of}
use Rattle.board_record.specs.declared.record.Board.{Board}
use Rattle.board_record.specs.Sizes.{store_size}
use Rattle.board_record.specs.Record.{empty_board}
use Rattle.writer_state.specs.declared.Writer.{Writer}
use Rattle.console_state.specs.declared.state.State.{State}

-- "the board", "its store", "both OPENs", "the writer" and its "buffer"; "the two bit positions" and "the head end's addresses"
pub record Console : Type 0 where
  pub board : Board
  pub store : List ℕ
  pub pcc : Opened
  pub pce : Opened
  pub writer : Writer
  pub lent : List ℕ
  pub positions : Positions
  pub addresses : List ℕ

-- "the writer stands at place 0 of an ERO", of SRv6
abbrev pub writer_at_start : Writer
writer_at_start = record { ero = true; at = 0; form = srv6_setup }

-- "its store is 49,152 octets of 0"
unfoldable pub store_at_start : List ℕ
store_at_start = replicate store_size 0

-- "At the start the board is the empty one, its store is 49,152 octets of 0, both OPENs count as refused, the writer stands at place 0 of an ERO,
-- and it has a buffer of no octets." The positions are "at the start 0 and 1", the addresses "at the start none".
abbrev pub at_start : Console
at_start = record {
  board = empty_board;
  store = store_at_start;
  pcc = open_refused open_malformed no_form;
  pce = open_refused open_malformed no_form;
  writer = writer_at_start;
  lent = [];
  positions = first_two;
  addresses = [];
}

-- The writer's buffer: the first octets of the memory, of the 65,536 that are the writer's.
unfoldable pub writer_part : List ℕ → ℕ → List ℕ
writer_part memory size = take size (take most_size memory)

-- The head end's addresses: so many octets of the memory, behind the writer's.
unfoldable pub list_in : List ℕ → ℕ → List ℕ
list_in memory given = take given (drop most_size memory)

-- The console that a state stands for with a store and a memory.
abbrev pub console_of : State → List ℕ → List ℕ → Console
console_of s store memory = record {
  board = s.board;
  store = store;
  pcc = opened_of s.pcc;
  pce = opened_of s.pce;
  writer = s.writer;
  lent = writer_part memory s.size;
  positions = s.positions;
  addresses = list_in memory s.given;
}

-- ## States

abbrev pub unheard : Result Carried OpenRefusal
unheard = Err (record { reason = OpenMalformed; form = None })

abbrev pub state_at_start : State
state_at_start = record {
  board = empty_board;
  pcc = unheard;
  pce = unheard;
  writer = writer_at_start;
  size = 0;
  positions = first_two;
  given = 0;
}

abbrev pub with_board : State → Board → State
with_board s board = record { board = board; pcc = s.pcc; pce = s.pce; writer = s.writer; size = s.size; positions = s.positions; given = s.given }

abbrev pub with_pcc : State → Result Carried OpenRefusal → State
with_pcc s pcc = record { board = s.board; pcc = pcc; pce = s.pce; writer = s.writer; size = s.size; positions = s.positions; given = s.given }

abbrev pub with_pce : State → Result Carried OpenRefusal → State
with_pce s pce = record { board = s.board; pcc = s.pcc; pce = pce; writer = s.writer; size = s.size; positions = s.positions; given = s.given }

abbrev pub with_writer : State → Writer → ℕ → State
with_writer s writer size = record { board = s.board; pcc = s.pcc; pce = s.pce; writer = writer; size = size; positions = s.positions; given = s.given }

abbrev pub with_positions : State → ℕ → ℕ → State
with_positions s a r =
    record { board = s.board; pcc = s.pcc; pce = s.pce; writer = s.writer; size = s.size; positions = record { a = a; r = r }; given = s.given }

abbrev pub with_given : State → ℕ → State
with_given s given = record { board = s.board; pcc = s.pcc; pce = s.pce; writer = s.writer; size = s.size; positions = s.positions; given = given }
