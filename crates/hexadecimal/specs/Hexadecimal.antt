-- Octets as a word spells them (console.md).
use Rattle.std.specs.Prelude.{ℕ, ◌+◌, ◌-◌, ◌*◌, ◌%◌, Bool, true, false, cond, not, ◌&&◌, ◌||◌, List, [], ◌∷◌, eqb, leb, length, Option, Some, None}
use Rattle.objects.specs.Objects.{sid_size, nai_size}
use Rattle.words.specs.Words.{digit_zero, digit_nine, upper_a, upper_f, lower_a, lower_f, upper_above, lower_above}
use Rattle.decimal.specs.Decimal.{is_none}

-- what no digit is worth
abbrev pub no_digit : ℕ
no_digit = 16

-- `0` to `9`, `A` to `F`, `a` to `f`: what the digit is worth; `no_digit` for any other octet
unfoldable pub hex_code : ℕ → ℕ
hex_code c =
    cond (leb digit_zero c && leb c digit_nine) (c - digit_zero)
    (cond (leb upper_a c && leb c upper_f) (c - upper_above)
    (cond (leb lower_a c && leb c lower_f) (c - lower_above) no_digit))

unfoldable pub is_hex : ℕ → Bool
is_hex c = not (eqb (hex_code c) no_digit)

-- The same as an option.
unfoldable pub digit_value : ℕ → Option ℕ
digit_value c = cond (is_hex c) (Some (hex_code c)) None

-- "pairs of hexadecimal digits with nothing between them, read in either case"
unfoldable pub all_pairs : List ℕ → Bool
all_pairs [] = true
all_pairs (a ∷ []) = false
all_pairs (a ∷ b ∷ r) = is_hex a && (is_hex b && all_pairs r)

-- "`-` stands for no octets at all"
unfoldable pub is_octets : List ℕ → Bool
is_octets w = is_none w || (not (eqb (length w) 0) && all_pairs w)

-- The octet of two digits; of what is no digit the remainder, which nobody asks for.
unfoldable pub pair_of : ℕ → ℕ → ℕ
pair_of a b = hex_code a % 16 * 16 + hex_code b % 16

-- The octets of a word, pair by pair; `-` has no pair.
unfoldable pub octets_of : List ℕ → List ℕ
octets_of [] = []
octets_of (a ∷ []) = []
octets_of (a ∷ b ∷ r) = pair_of a b ∷ octets_of r

-- A SID: "1 to 16 octets, .. or `-`"
unfoldable pub is_sid : List ℕ → Bool
is_sid w = is_octets w && leb (length (octets_of w)) sid_size

-- A NAI: "0 to 40 octets"
unfoldable pub is_nai : List ℕ → Bool
is_nai w = is_octets w && leb (length (octets_of w)) nai_size
