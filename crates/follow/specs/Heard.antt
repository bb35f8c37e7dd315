-- What a follower hears in the answer of a next call, and what it then does.
use Rattle.std.specs.Prelude.{ℕ, ◌*◌, Bool, cond, List}
use Rattle.octets.specs.Octets.{part}
use Rattle.board_record.specs.Sizes.{room}
use Rattle.board_rules.specs.Handed.{Handed, Refused, Path, Removed, Level}
use Rattle.follow.specs.Story.{Deed, sets, clears}
use Rattle.follow.specs.Follower.{Follower, makes, levels}

-- a refusal's number; a change and its version; or that it is level, with a version
pub data Heard : Type 0 where
  refusal : ℕ → Heard
  change : Deed → ℕ → Heard
  level : ℕ → Heard

-- "a path's octets are named by place and length": it reads them from the store; the form comes with them
abbrev pub heard_in : List ℕ → Handed → Heard
heard_in store (Refused v) = refusal v.number
heard_in store (Path c o) = change (sets c.key (record { form = o.form; octets = part store (room * o.place) o.length })) c.version
heard_in store (Removed c) = change (clears c.key) c.version
heard_in store (Level v) = level v

-- A refused ask changes nothing. A change handed to it is made. Told that it is level, it sets both numbers, or does not (updates).
abbrev pub does : Follower → Bool → Heard → Follower
does f updates (refusal n) = f
does f updates (change c v) = makes f c v
does f updates (level v) = cond updates (levels f v) f

-- Cut off after it has made the change and before it has kept its mark, it holds the change under the mark that it had.
abbrev pub cut_off : Follower → Heard → Follower
cut_off f (refusal n) = f
cut_off f (change c v) = makes f c f.w
cut_off f (level v) = f
