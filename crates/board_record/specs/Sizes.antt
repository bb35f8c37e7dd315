-- The sizes and bounds of the table (document 01, "The board"), by the names that the code uses.
use Rattle.std.specs.Prelude.{ℕ, ◌*◌, cond, eqb}
use Rattle.objects.specs.Objects.{srv6_setup}

-- "The table has 128 places"
abbrev pub places : ℕ
places = 128

-- "for each 8 places" (document 02)
abbrev pub group : ℕ
group = 8

abbrev pub groups : ℕ
groups = 16

-- "384 a place; place i, from 0, starts at 384 times i"
abbrev pub room : ℕ
room = 384

-- "Bodies lie in 49,152 lent octets"
abbrev pub store_size : ℕ
store_size = places * room

-- "Keys are 1 to 1,048,574."
abbrev pub key_least : ℕ
key_least = 1

abbrev pub key_most : ℕ
key_most = 1048574

-- "at most 2^64-2"
abbrev pub version_most : ℕ
version_most = 18446744073709551614

-- "path lengths multiples of 4 from 24 to 384" (the 4 is Objects.unit)
abbrev pub body_least_srv6 : ℕ
body_least_srv6 = 24

-- "MPLS bodies are proper from 8 octets" (document 02)
abbrev pub body_least_mpls : ℕ
body_least_mpls = 8

-- by the form, SRv6's or MPLS's
unfoldable pub body_least : ℕ → ℕ
body_least form = cond (eqb form srv6_setup) body_least_srv6 body_least_mpls
