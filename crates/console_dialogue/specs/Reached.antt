-- How the console may stand.
use Rattle.std.specs.Prelude.{ℕ, ◌≡◌, List}
use Rattle.console_dialogue.specs.Input.{Dialogue, heard_at_start, heard_of, hear_all}
use Rattle.console_dialogue.specs.declared.heard.Hearing.{Hearing}

-- as some input leaves it, from the start on
pub record Reached (g : Dialogue) : Type 0 where
  pub input : List ℕ
  pub same : g ≡ hear_all heard_at_start input

-- what is left of a run: it stands so with the line, the store and the memory that it had lent
pub record Ended (h : Hearing) : Type 0 where
  pub line : List ℕ
  pub store : List ℕ
  pub memory : List ℕ
  pub reached : Reached (heard_of h store memory line)
