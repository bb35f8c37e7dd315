-- No promise rests on this file: it serves the contracts of the functions that look at lengths.
use Rattle.std.specs.Prelude.{ℕ, ◌+◌, ◌*◌, ◌/◌, ◌%◌, Bool, cond, eqb}
use Rattle.objects.specs.Objects.{unit}
use Rattle.board_record.specs.Proper.{path_ok}

-- a length fits a form: a path's, or 0 where there is none
unfoldable pub body_b : ℕ → ℕ → Bool
body_b length form = cond (eqb length 0) (eqb form 0) (path_ok length form)

-- above every length in units
abbrev pub above_lengths : ℕ
above_lengths = 16384

-- a length in units; at least `above_lengths` where it is not a number of units
abbrev pub turned_of : ℕ → ℕ
turned_of length = length / unit + length % unit * above_lengths
