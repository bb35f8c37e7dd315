-- Answers as text (console.md): numbers in decimal, octets in pairs of hexadecimal digits in upper case, `-` for no octets, words separated by one space.
use Rattle.std.specs.Prelude.{ℕ, zero, suc, ◌+◌, ◌/◌, ◌%◌, ◌≡◌, cond, List, [], ◌∷◌, ◌++◌, ltb, length, take}
use Rattle.words.specs.Words.{space, comma, dash, digit_zero, upper_above}

-- ## Numbers

-- At most f digits of n, without zeros in front.
unfoldable pub spell : ℕ → ℕ → List ℕ
spell zero n = []
spell (suc f) n = cond (ltb n 10) ((digit_zero + n) ∷ []) (spell f (n / 10) ++ ((digit_zero + n % 10) ∷ []))

-- A number below 2^64 has at most 20 digits,
abbrev pub number_size : ℕ
number_size = 20

-- and with a space or a comma before it takes one octet more.
abbrev pub field_size : ℕ
field_size = 21

unfoldable pub decimal_of : ℕ → List ℕ
decimal_of n = spell number_size n

-- ## Octets

-- the digit that is worth d: `0` to `9`, `A` to `F`
unfoldable pub glyph_of : ℕ → ℕ
glyph_of d = cond (ltb d 10) (digit_zero + d) (upper_above + d)

unfoldable pub hex_of : List ℕ → List ℕ
hex_of [] = []
hex_of (x ∷ xs) = glyph_of (x / 16) ∷ glyph_of (x % 16) ∷ hex_of xs

-- "`-` stands for no octets at all"
unfoldable pub octets_text : List ℕ → List ℕ
octets_text [] = dash ∷ []
octets_text (x ∷ xs) = hex_of (x ∷ xs)

-- ## Lists

-- numbers behind the first of a list
unfoldable pub further_text : List ℕ → List ℕ
further_text [] = []
further_text (x ∷ xs) = (comma ∷ decimal_of x) ++ further_text xs

-- "LIST is numbers joined by commas, or `-` for none"
unfoldable pub list_text : List ℕ → List ℕ
list_text [] = dash ∷ []
list_text (x ∷ xs) = decimal_of x ++ further_text xs

-- ## Lines

-- `more` was written behind the first `at` octets of a buffer, and these stay; the text's new end is `end`.
pub record Behind (before after : List ℕ) (at end : ℕ) (more : List ℕ) : Type 0 where
  pub ends : end ≡ at + length more
  pub text : take end after ≡ take at before ++ more
  pub room : length after ≡ length before

-- a word behind another
abbrev pub spaced : List ℕ → List ℕ
spaced word = space ∷ word
