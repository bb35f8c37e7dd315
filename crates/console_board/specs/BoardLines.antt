-- The commands about the board (console.md, the table's last rows).
use Rattle.std.specs.Prelude.{ℕ, ◌*◌, List}
use Rattle.session.specs.declared.Sessions.{Sessions}
use Rattle.octets.specs.Octets.{part}
use Rattle.board_record.specs.declared.record.Board.{Board}
use Rattle.board_record.specs.Sizes.{room}
use Rattle.board_rules.specs.Handed.{Handed, Refused, Path, Removed, Level}
use Rattle.board_by_value.specs.ByValue.{remove_by_value, compact_by_value}
use Rattle.board_report_by_value.specs.ByValue.{report_by_value, report_store_by_value}
use Rattle.board_look_by_value.specs.ByValue.{body_number_by_value, body_by_value, body_form_by_value, next_by_value, moved_by_value, fresh_mark_on}
use Rattle.command.specs.declared.Command.{Command}
use Rattle.console_chain.specs.Chain.{chain_of}
use Rattle.console_lines.specs.Lines.{refusal_line, one_line, form_line, list_line, path_line, removed_line, level_line, two_line}
use Rattle.console_state.specs.Answers.{answer_line, count_line, plain_line}
use Rattle.console_state.specs.Spelled.{octets_in}

-- the board and its store after a command, and the line that answers it
pub record Boarding : Type 0 where
  pub board : Board
  pub store : List ℕ
  pub answer : List ℕ

-- `report KEY PST OCTETS`: "reports a path to the board"; `0 0 COUNT STRAY`. The head end's addresses are those set by `addresses`.
abbrev pub report_turn : Board → List ℕ → Command → List ℕ → Sessions → List ℕ → Boarding
report_turn b store c line sessions addresses = record {
  board = (report_by_value b store c.one (octets_in line 3) sessions c.two addresses).board;
  store = report_store_by_value b store c.one (octets_in line 3) sessions c.two addresses;
  answer = count_line (report_by_value b store c.one (octets_in line 3) sessions c.two addresses).verdict;
}

-- `remove KEY`; `0 0`
abbrev pub remove_turn : Board → List ℕ → Command → Boarding
remove_turn b store c = record {
  board = (remove_by_value b store c.one).board;
  store = store;
  answer = plain_line (remove_by_value b store c.one).verdict;
}

-- `compact C`; `0 0`
abbrev pub compact_turn : Board → List ℕ → Command → Boarding
compact_turn b store c = record {
  board = (compact_by_value b store c.one).board;
  store = store;
  answer = plain_line (compact_by_value b store c.one).verdict;
}

-- `body KEY`; `0 0 FORM OCTETS`, "the path's form before its octets"
unfoldable pub body_line : Board → List ℕ → Command → List ℕ
body_line b store c = answer_line (body_number_by_value b store c.one) (form_line (body_form_by_value b store c.one) (body_by_value b store c.one))

-- `0 0 path KEY VERSION FORM OCTETS`, `0 0 removed KEY VERSION` or `0 0 level VERSION`
abbrev pub handed_line : List ℕ → Handed → List ℕ
handed_line store (Refused v) = refusal_line v.number v.place
handed_line store (Path change path) = path_line change.key change.version path.form (part store (room * path.place) path.length)
handed_line store (Removed change) = removed_line change.key change.version
handed_line store (Level version) = level_line version

-- `next S W`: "what a follower with mark (S, W) is handed"
unfoldable pub next_line : Board → List ℕ → Command → List ℕ
next_line b store c = handed_line store (next_by_value b store c.one c.two)

-- `moved A B V`; `0 0 1` or `0 0 0`
unfoldable pub moved_line : Board → List ℕ → Command → List ℕ
moved_line b store c =
    answer_line (moved_by_value b store c.one c.two c.three) (one_line (moved_by_value b store c.one c.two c.three).count)

-- `mark`: "a fresh mark"; `0 0 S W`
abbrev pub mark_line : Board → List ℕ
mark_line b = two_line (fresh_mark_on b).s (fresh_mark_on b).w

-- `board`: "the board's numbers"; `0 0 VERSION FLOOR`
abbrev pub board_line : Board → List ℕ
board_line b = two_line b.version b.floor

-- `chain`: "the used places from the oldest change to the newest"; `0 0 PLACES`
abbrev pub chain_line : Board → List ℕ
chain_line b = list_line (chain_of b.order)
