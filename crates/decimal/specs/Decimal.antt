-- Numbers and structures as a word spells them (console.md).
use Rattle.std.specs.Prelude.{ℕ, ◌+◌, ◌-◌, ◌*◌, ◌%◌, Bool, true, false, cond, not, ◌&&◌, ◌||◌, List, [], ◌∷◌, eqb, ltb, leb, Option, Some, None}
use Rattle.octets.specs.Octets.{end16}
use Rattle.words.specs.Words.{comma, dash, digit_zero, digit_nine, word_of, words_in}
use Rattle.same_octets.specs.Same.{same_octets}

-- ## Numbers: "decimal digits and nothing else, 0 to 2^64-1, leading zeros allowed"

-- `0` to `9`
unfoldable pub is_digit : ℕ → Bool
is_digit c = leb digit_zero c && leb c digit_nine

unfoldable pub all_digits : List ℕ → Bool
all_digits [] = true
all_digits (c ∷ cs) = is_digit c && all_digits cs

-- The value of the digits `w` behind digits that are worth `v`.
unfoldable pub worth : List ℕ → ℕ → ℕ
worth [] v = v
worth (c ∷ cs) v = worth cs (v * 10 + (c - digit_zero))

abbrev pub is_empty : List ℕ → Bool
is_empty [] = true
is_empty (c ∷ cs) = false

-- "0 to 2^64-1", and how many these are
abbrev pub most_number : ℕ
most_number = 18446744073709551615

abbrev pub number_range : ℕ
number_range = most_number + 1

unfoldable pub is_number : List ℕ → Bool
is_number w = not (is_empty w) && (all_digits w && ltb (worth w 0) number_range)

unfoldable pub decimal_value : List ℕ → ℕ
decimal_value w = cond (is_number w) (worth w 0) 0

-- Is a word a number, and which? The value of a word that is none is 0.
pub record Number : Type 0 where
  pub good : Bool
  pub value : ℕ

unfoldable pub number_of : List ℕ → Number
number_of w = record { good = is_number w; value = decimal_value w }

-- The same as an option.
unfoldable pub said : Option ℕ → Number
said None = record { good = false; value = 0 }
said (Some n) = record { good = true; value = n }

-- What a digit stands for.
unfoldable pub digit_value : ℕ → Option ℕ
digit_value c = cond (is_digit c) (Some (c - digit_zero)) None

unfoldable pub is_at_most : List ℕ → ℕ → Bool
is_at_most w most = is_number w && leb (decimal_value w) most

-- ## None: `-`

unfoldable pub is_none : List ℕ → Bool
is_none w = same_octets w (dash ∷ [])

-- ## Structures: "four numbers of 0 to 255 joined by commas, or `-` for none"

-- the largest number of one octet, and of two
abbrev pub most_octet : ℕ
most_octet = 255

abbrev pub most_two_octets : ℕ
most_two_octets = end16 - 1

unfoldable pub is_structure : List ℕ → Bool
is_structure w = is_none w || (eqb (words_in w comma) 4
    && ((is_at_most (word_of w comma 0) most_octet && is_at_most (word_of w comma 1) most_octet) && (is_at_most (word_of w comma 2) most_octet && is_at_most (word_of w comma 3) most_octet)))

-- The four numbers; of a word that is no structure their lowest octets, which nobody asks for.
unfoldable pub structure_of : List ℕ → List ℕ
structure_of w = decimal_value (word_of w comma 0) % 256 ∷ decimal_value (word_of w comma 1) % 256 ∷ decimal_value (word_of w comma 2) % 256 ∷ decimal_value (word_of w comma 3) % 256 ∷ []
