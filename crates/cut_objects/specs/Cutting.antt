-- Objects one behind the other, "each cut by its own length field (too little left, or a length under 4: all the rest)" (document 01, the
-- checking program).
use Rattle.std.specs.Prelude.{ℕ, cond, ◌&&◌, List, leb, length, take, drop}
use Rattle.objects.specs.Objects.{header, object_length}

-- How many octets the first object has: its length, where there is a header, the length is at least 4 and that much is there; else all.
unfoldable pub cut_of : List ℕ → ℕ
cut_of s = cond (leb header (length s) && (leb header (object_length s) && leb (object_length s) (length s))) (object_length s) (length s)

-- The first object of some octets, and what lies behind it.
abbrev pub first_object : List ℕ → List ℕ
first_object s = take (cut_of s) s

abbrev pub rest_objects : List ℕ → List ℕ
rest_objects s = drop (cut_of s) s
