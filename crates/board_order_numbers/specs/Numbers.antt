-- No promise rests on this file: it serves the contracts of the pass's inner functions.
use Rattle.std.specs.Prelude.{ℕ, Bool, not, ◌&&◌, ◌||◌, ◌==◌, nat_lt}

-- a version may come behind the last one, `bound` being the larger of that and the floor: it is above the last, and a removal's, which has no length, above the bound
unfoldable pub late_b : ℕ → ℕ → ℕ → ℕ → Bool
late_b last bound version length = nat_lt last version && (not (length == 0) || nat_lt bound version)
