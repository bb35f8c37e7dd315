-- What the words of a line spell (console.md).
use Rattle.std.specs.Prelude.{ℕ, List}
use Rattle.words.specs.Words.{space, word_of}
use Rattle.hexadecimal.specs.Hexadecimal.{octets_of}

-- word i of a line as OCTETS
abbrev pub octets_in : List ℕ → ℕ → List ℕ
octets_in line i = octets_of (word_of line space i)
