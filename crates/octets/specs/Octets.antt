-- Octet strings are lists of numbers below 256. All numbers are big-endian (document 01, "The OPEN object").
use Rattle.std.specs.Prelude.{ℕ, ◌+◌, ◌*◌, ◌/◌, ◌%◌, Bool, cond, List, ◌++◌, length, get_or, take, drop, replicate}

-- A yes as 1, a no as 0.
abbrev pub bit : Bool → ℕ
bit b = cond b 1 0

-- reading ------------------------------------------------------------------------------------------------------

-- The octet at a place, 0 past the end.
unfoldable pub octet_of : List ℕ → ℕ → ℕ
octet_of s at = get_or s at 0

-- Two octets as a number, the first worth 256.
unfoldable pub be16 : List ℕ → ℕ → ℕ
be16 s at = get_or s at 0 * 256 + get_or s (at + 1) 0

-- What two octets say is below this.
abbrev pub end16 : ℕ
end16 = 65536

-- A length with its padding to a multiple of 4.
abbrev pub pad4 : ℕ → ℕ
pad4 n = (n + 3) / 4 * 4

-- n octets from a place on.
unfoldable pub part : List ℕ → ℕ → ℕ → List ℕ
part s at n = take n (drop at s)

-- writing ------------------------------------------------------------------------------------------------------

-- The two octets of a number below `end16`.
abbrev pub hi : ℕ → ℕ
hi n = n / 256 % 256

abbrev pub lo : ℕ → ℕ
lo n = n % 256

-- w laid over the start of b; the octets behind it stay.
unfoldable pub over : List ℕ → List ℕ → List ℕ
over w b = w ++ drop (length w) b

-- w laid over b from the place `at` on; the octets before and behind it stay.
unfoldable pub placed : List ℕ → ℕ → List ℕ → List ℕ
placed b at w = take at b ++ over w (drop at b)

-- n octets from a place on, in an array of m octets that is 0 behind them.
unfoldable pub part_of : List ℕ → ℕ → ℕ → ℕ → List ℕ
part_of s at n m = over (part s at n) (replicate m 0)
