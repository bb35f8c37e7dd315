-- What a record at the border stands for, and the record that an answer is handed out as (include/strundevi.h).
-- `..In` reads a record that came in, `..Out` lays out an answer.
use Rattle.std.specs.Prelude.{ℕ, ◌-◌, min, Bool, cond, not, eqb, Option, None, Some}
use Rattle.octets.specs.Octets.{end16}
use Rattle.answers.specs.declared.verdict.Verdict.{Verdict}
pub use Rattle.octets.specs.Octets.{bit}
use Rattle.border_records.specs.declared.verdict.VerdictRecord.{VerdictRecord}

-- A flag is an octet: 0 is no, every other number is yes; an answer has 0 or 1, its `bit`.
abbrev pub is_yes : ℕ → Bool
is_yes flag = not (eqb flag 0)

-- A limit is a flag and a number; without the flag the number does not count, and an answer has 0 there (`most_of`, session/specs/Sessions).
abbrev pub limit_in : ℕ → ℕ → Option ℕ
limit_in limited limit = cond (eqb limited 0) None (Some limit)

abbrev pub limited_flag : Option ℕ → ℕ
limited_flag None = 0
limited_flag (Some n) = 1

-- In a session the number has 16 bits; a larger one is handed out as the largest of these, which no route reaches.
abbrev pub limit_most : ℕ
limit_most = end16 - 1

abbrev pub short_of : Option ℕ → ℕ
short_of None = 0
short_of (Some n) = min n limit_most

-- v and m likewise.
abbrev pub depth_from : ℕ → ℕ → Option ℕ
depth_from there value = cond (eqb there 0) None (Some value)

abbrev pub there_of : Option ℕ → ℕ
there_of None = 0
there_of (Some v) = 1

abbrev pub value_of : Option ℕ → ℕ
value_of None = 0
value_of (Some v) = v

-- The verdict, field by field.
abbrev pub verdict_out : Verdict → VerdictRecord
verdict_out v = record { number = v.number; place = v.place; count = v.count; stray = v.stray }
