-- A place of a route at which a step may begin.
use Rattle.std.specs.Prelude.{ℕ, ◌%◌, List, Bool, not, ◌||◌, eqb, ltb, leb, length}
use Rattle.objects.specs.Objects.{header, unit}

-- No subobject begins there: in the header, at no multiple of 4, at or past the end.
unfoldable pub outside : List ℕ → ℕ → Bool
outside s at = ltb at header || (not (eqb (at % unit) 0) || leb (length s) at)
