-- No promise rests on this file: it serves the search for the oldest removal.
use Rattle.std.specs.Prelude.{ℕ, Bool, not, ◌&&◌, eqb}

-- on a board, the version and length of a removal
unfoldable pub bare : ℕ → ℕ → Bool
bare v l = eqb l 0 && not (eqb v 0)
