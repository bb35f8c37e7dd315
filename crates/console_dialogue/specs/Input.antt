-- Lines of standard input, and what the console says to them (console.md).
use Rattle.std.specs.Prelude.{ℕ, ◌+◌, ◌%◌, ◌^◌, ◌≤◌, ◌≡◌, cond, List, [], ◌∷◌, ◌++◌, eqb, length, take}
use Rattle.words.specs.Words.{newline}
use Rattle.command.specs.Commands.{longest_line}
use Rattle.console_state.specs.Rooms.{Rooms}
use Rattle.console_state.specs.State.{Console, console_of, at_start}
use Rattle.console_dialogue.specs.Turns.{Turned, turn_of}
use Rattle.console_dialogue.specs.declared.heard.Hearing.{Hearing}

-- the console, how many lines there were, and what has been heard of a line
pub record Dialogue : Type 0 where
  pub console : Console
  pub lines : ℕ
  pub line : List ℕ

-- before the first line
abbrev pub heard_at_start : Dialogue
heard_at_start = record { console = at_start; lines = 0; line = [] }

-- "N counting all lines from 1", as a number of 64 bits
unfoldable pub next_number : ℕ → ℕ
next_number n = (n + 1) % 2 ^ 64

-- what the line that has been heard does
unfoldable pub turn_now : Dialogue → Turned
turn_now g = turn_of g.console g.line (next_number g.lines)

-- The line has been answered.
unfoldable pub line_ended : Dialogue → Dialogue
line_ended g = record { console = (turn_now g).console; lines = next_number g.lines; line = [] }

-- octets of a line that are kept: one more than the longest line may have
abbrev pub most_kept : ℕ
most_kept = longest_line + 1

-- More of the line. What is behind the octets that are kept makes no difference: proofs/Cut.
unfoldable pub longer : Dialogue → List ℕ → Dialogue
longer g more = record { console = g.console; lines = g.lines; line = take most_kept (g.line ++ more) }

-- "A line is what lies between two newlines; the newline is no part of it, a carriage return is"
unfoldable pub hear_all : Dialogue → List ℕ → Dialogue
hear_all g [] = g
hear_all g (x ∷ xs) = cond (eqb x newline) (hear_all (line_ended g) xs) (hear_all (longer g (x ∷ [])) xs)

-- "exactly one line for each": the answers to the lines that end in these octets, one behind the other
unfoldable pub say_all : Dialogue → List ℕ → List ℕ
say_all g [] = []
say_all g (x ∷ xs) = cond (eqb x newline) ((turn_now g).answer ++ say_all (line_ended g) xs) (say_all (longer g (x ∷ [])) xs)

-- All that the console says to an input: "a last line with no newline counts"; after a newline that line is empty, and answered by nothing.
unfoldable pub say_whole : List ℕ → List ℕ
say_whole input = say_all heard_at_start input ++ (turn_now (hear_all heard_at_start input)).answer

-- what a state stands for, with what is kept of the line, the store and the memory of the writer's buffer
abbrev pub heard_of : Hearing → List ℕ → List ℕ → List ℕ → Dialogue
heard_of h store memory line = record { console = console_of h.state store memory; lines = h.lines; line = take h.kept line }

-- What is lent is large enough, and the octets that are kept lie within the line's.
pub record ReadyToHear (kept : ℕ) (line store memory room out : List ℕ) : Type 0 where
  pub within : kept ≤ length line
  pub whole : length line ≡ most_kept
  pub rooms : Rooms line store memory room out
