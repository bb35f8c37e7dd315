-- No promise rests on this file: it serves the contracts of the functions that look at all places.
use Rattle.std.specs.Prelude.{ℕ, Bool, ◌&&◌, List, get_or, eqb}

-- place i has no key, no length and no form
unfoldable pub empty_b : List ℕ → List ℕ → List ℕ → ℕ → Bool
empty_b keys lengths forms i = eqb (get_or keys i 0) 0 && eqb (get_or lengths i 0) 0 && eqb (get_or forms i 0) 0
