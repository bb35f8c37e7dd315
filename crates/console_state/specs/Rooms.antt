-- What is lent to the console is large enough.
use Rattle.std.specs.Prelude.{ℕ, ◌+◌, ◌-◌, ◌*◌, ◌≤◌, List, length}
use Rattle.command_forms.specs.Forms.{most_size}
use Rattle.console_fields.specs.Shown.{long}

-- `room` takes the octets that the line spells.
abbrev pub Spells : List ℕ → List ℕ → Type 0
Spells line room = length line ≤ 2 * length room

-- the line, the store, the memory where the writer's buffer and behind it the head end's addresses lie, the room for a line's octets, and the buffer that takes the answer
pub record Rooms (line store memory room out : List ℕ) : Type 0 where
  pub spells : Spells line room
  -- "a new buffer of SIZE octets (0 to 65,536)"
  pub buffer : most_size ≤ length memory
  -- `0 0 path KEY VERSION FORM OCTETS`
  pub stored : 2 * length store + long ≤ length out
  -- `0 0 OCTETS`
  pub lent : 2 * most_size + long ≤ length out
  -- the head end's addresses, behind the writer's buffer
  pub listed : length line ≤ 2 * (length memory - most_size)
