-- The words of a line: "words are separated by one space, with none in front or behind" (console.md). The numbers of a structure are words too, with
-- commas between them.
use Rattle.std.specs.Prelude.{ℕ, zero, suc, cond, List, [], ◌∷◌, eqb}
use Prim.Native.Char.{code}
use Prim.Native.String.{String}
use Prim.Native.String.{[] as end, ◌∷◌ as ◌then◌}

-- ## Octets that have a name

-- ` `
abbrev pub space : ℕ
space = 32

-- `,`
abbrev pub comma : ℕ
comma = 44

-- `-`
abbrev pub dash : ℕ
dash = 45

abbrev pub newline : ℕ
newline = 10

-- `0` to `9`
abbrev pub digit_zero : ℕ
digit_zero = 48

abbrev pub digit_nine : ℕ
digit_nine = 57

-- `A` to `F` and `a` to `f`, as digits worth 10 to 15
abbrev pub upper_a : ℕ
upper_a = 65

abbrev pub upper_f : ℕ
upper_f = 70

abbrev pub lower_a : ℕ
lower_a = 97

abbrev pub lower_f : ℕ
lower_f = 102

-- how far such a letter lies above what it is worth
abbrev pub upper_above : ℕ
upper_above = 55

abbrev pub lower_above : ℕ
lower_above = 87

-- The octets of a text.
abbrev pub ascii : String → List ℕ
ascii end = []
ascii (c then cs) = code c ∷ ascii cs

-- ## Words

-- The octets before the first mark: all of them where there is none.
unfoldable pub until_mark : List ℕ → ℕ → List ℕ
until_mark [] m = []
until_mark (c ∷ cs) m = cond (eqb c m) [] (c ∷ until_mark cs m)

-- The octets behind the first mark: none of them where there is none.
unfoldable pub behind_mark : List ℕ → ℕ → List ℕ
behind_mark [] m = []
behind_mark (c ∷ cs) m = cond (eqb c m) cs (behind_mark cs m)

-- Word i, from 0.
unfoldable pub word_of : List ℕ → ℕ → ℕ → List ℕ
word_of line m zero = until_mark line m
word_of line m (suc i) = word_of (behind_mark line m) m i

-- How many words there are: one more than marks.
unfoldable pub words_in : List ℕ → ℕ → ℕ
words_in [] m = 1
words_in (c ∷ cs) m = cond (eqb c m) (suc (words_in cs m)) (words_in cs m)
