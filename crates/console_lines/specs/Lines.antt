-- The lines that the programs answer by (console.md, the table's last column; document 01, the checking program).
use Rattle.std.specs.Prelude.{ℕ, List, [], ◌∷◌, ◌++◌}
use Rattle.words.specs.Words.{newline, digit_zero, ascii}
use Rattle.answers.specs.declared.verdict.Verdict.{Verdict}
use Rattle.printing.specs.Text.{decimal_of, octets_text, list_text, spaced}

-- ## Lines

-- the octets that a line of words and numbers takes at most
abbrev pub short : ℕ
short = 128

-- words behind a line's first, and the newline
abbrev pub further_words : List (List ℕ) → List ℕ
further_words [] = newline ∷ []
further_words (w ∷ ws) = spaced w ++ further_words ws

-- words separated by one space, and the newline
abbrev pub line_of : List ℕ → List (List ℕ) → List ℕ
line_of w ws = w ++ further_words ws

-- "Every acceptance begins `0 0`"
abbrev pub acceptance : List (List ℕ) → List ℕ
acceptance ws = line_of (digit_zero ∷ []) ((digit_zero ∷ []) ∷ ws)

-- ## The lines

-- "Every refusal is answered `NUMBER PLACE`"
abbrev pub refusal_line : ℕ → ℕ → List ℕ
refusal_line number place = line_of (decimal_of number) (decimal_of place ∷ [])

-- "a refusal is `NUMBER 0 FORM`, FORM the one at fault", of an OPEN
abbrev pub open_refusal_line : ℕ → ℕ → List ℕ
open_refusal_line number form = line_of (decimal_of number) (decimal_of 0 ∷ decimal_of form ∷ [])

-- `bad line N`
abbrev pub bad_line : ℕ → List ℕ
bad_line n = line_of (ascii "bad") (ascii "line" ∷ decimal_of n ∷ [])

-- `0 0`
abbrev pub done_line : List ℕ
done_line = acceptance []

-- `0 0 AT`
abbrev pub one_line : ℕ → List ℕ
one_line a = acceptance (decimal_of a ∷ [])

-- `0 0 COUNT STRAY`, `0 0 S W`, `0 0 VERSION FLOOR`
abbrev pub two_line : ℕ → ℕ → List ℕ
two_line a b = acceptance (decimal_of a ∷ decimal_of b ∷ [])

-- `0 0 OCTETS`
abbrev pub octets_line : List ℕ → List ℕ
octets_line s = acceptance (octets_text s ∷ [])

-- `0 0 FORM OCTETS`
abbrev pub form_line : ℕ → List ℕ → List ℕ
form_line form s = acceptance (decimal_of form ∷ octets_text s ∷ [])

-- `0 0 LIST`
abbrev pub list_line : List ℕ → List ℕ
list_line s = acceptance (list_text s ∷ [])

-- `0 0 path KEY VERSION FORM OCTETS`
abbrev pub path_line : ℕ → ℕ → ℕ → List ℕ → List ℕ
path_line key version form s = acceptance (ascii "path" ∷ decimal_of key ∷ decimal_of version ∷ decimal_of form ∷ octets_text s ∷ [])

-- `0 0 removed KEY VERSION`
abbrev pub removed_line : ℕ → ℕ → List ℕ
removed_line key version = acceptance (ascii "removed" ∷ decimal_of key ∷ decimal_of version ∷ [])

-- `0 0 level VERSION`
abbrev pub level_line : ℕ → List ℕ
level_line version = acceptance (ascii "level" ∷ decimal_of version ∷ [])

-- The checking program's line: "number, place, count", and the stray ones "as a fourth number"
abbrev pub verdict_line : Verdict → List ℕ
verdict_line v = line_of (decimal_of v.number) (decimal_of v.place ∷ decimal_of v.count ∷ decimal_of v.stray ∷ [])
