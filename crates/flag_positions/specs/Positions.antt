-- "Their bit positions, still unassigned, come in at set-up as two different numbers from 0 to 13" (document 02, C-15).
use Rattle.std.specs.Prelude.{ℕ, ◌-◌, ◌/◌, ◌%◌, ◌^◌, Bool, not, ◌&&◌, eqb, leb}
use Rattle.flag_positions.specs.declared.Positions.{Positions}

-- The last position that A and R can have: behind it stand N, at 14, and X, at 15.
abbrev pub last_position : ℕ
last_position = 13

-- The position that is worth 1.
abbrev pub lowest_position : ℕ
lowest_position = 15

-- "two different numbers from 0 to 13"
unfoldable pub usable_positions : Positions → Bool
usable_positions p = leb p.a last_position && (leb p.r last_position && not (eqb p.a p.r))

-- "checking program: 0 and 1"
abbrev pub first_two : Positions
first_two = record { a = 0; r = 1 }

-- Position p of the 16 flags, counted from the high end, is worth 2^(15-p).
unfoldable pub flag_at : ℕ → ℕ → Bool
flag_at flags p = leb p lowest_position && eqb (flags / 2 ^ (lowest_position - p) % 2) 1
