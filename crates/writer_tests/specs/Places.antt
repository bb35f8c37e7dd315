-- Where an object may stand in the lent buffer (document 01, "Writing a route").
use Rattle.std.specs.Prelude.{ℕ, ◌%◌, Bool, not, ◌||◌, eqb, ltb}
use Rattle.objects.specs.Objects.{header, unit}

-- The most octets of an object.
abbrev pub most_octets : ℕ
most_octets = 65532

-- "if the object would pass the lent buffer's end or 65,532 octets"
unfoldable pub passes : ℕ → ℕ → Bool
passes end room = ltb room end || ltb most_octets end

-- "a place under 4, no multiple of 4 or past that end"
unfoldable pub bad_place : ℕ → ℕ → Bool
bad_place at room = ltb at header || (not (eqb (at % unit) 0) || passes at room)
