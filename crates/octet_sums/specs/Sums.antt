-- Octets of a run as one number. Rule 11 is stated by `sum_at` (subobject/specs/Rules); no promise rests on the others: contracts of inner functions cite them,
-- and proofs turn them into what is promised.
use Rattle.std.specs.Prelude.{ℕ, ◌+◌, ◌*◌, List}
use Rattle.octets.specs.Octets.{octet_of}

-- The sum of three octets, and of four.
unfoldable pub sum_three : List ℕ → ℕ → ℕ
sum_three s at = octet_of s at + octet_of s (at + 1) + octet_of s (at + 2)

unfoldable pub sum_at : List ℕ → ℕ → ℕ
sum_at s at = octet_of s at + octet_of s (at + 1) + octet_of s (at + 2) + octet_of s (at + 3)

-- Four octets as one number, the first the lowest.
abbrev pub four_of : ℕ → ℕ → ℕ → ℕ → ℕ
four_of a b c d = a + b * 256 + c * 65536 + d * 16777216

unfoldable pub four_at : List ℕ → ℕ → ℕ
four_at s at = four_of (octet_of s at) (octet_of s (at + 1)) (octet_of s (at + 2)) (octet_of s (at + 3))
