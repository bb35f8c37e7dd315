-- What is handed out and comes back is what it was, in the order of specs/Records; and a verdict's record leaves no choice.
use Rattle.std.specs.Prelude.{Option, None, Some}
use Prim.Native.Nat.{ℕ, ◌≤◌}
use native.Mathlib.Omega.{arith}
use mathlib.Core.Path.{◌≡◌, refl, ap}
use mathlib.Core.Bool.{Bool, true, false}
use mir.Val.{bool_byte}
use Rattle.answers.proofs.Determined.{determined}
use Rattle.answers.specs.declared.verdict.Verdict.{Verdict}
use Rattle.session.specs.Sessions.{most_of}
use Rattle.border_records.specs.declared.verdict.VerdictRecord.{VerdictRecord}
use Rattle.border_records.specs.Records.{
  is_yes,
  bit,
  limit_in,
  limited_flag,
  limit_most,
  short_of,
  depth_from,
  there_of,
  value_of,
  verdict_out,
}

-- A truth value as a number is its bit.
pub bit_of : (b : Bool) {x : ℕ} → x ≡ bool_byte b → x ≡ bit b
bit_of true e = e
bit_of false e = e

pub flag_back : (b : Bool) → is_yes (bit b) ≡ b
flag_back true = refl
flag_back false = refl

pub limit_back : (l : Option ℕ) → limit_in (limited_flag l) (most_of l) ≡ l
limit_back None = refl
limit_back (Some n) = refl

-- In 16 bits, of a limit that they hold.
abbrev pub InShort : Option ℕ → Type 0
InShort None = Unit {0}
InShort (Some n) = n ≤ limit_most

pub short_back : (l : Option ℕ) → InShort l → limit_in (limited_flag l) (short_of l) ≡ l
short_back None h = refl
short_back (Some n) h = ap Some (omega (arith, h))

pub depth_back : (d : Option ℕ) → depth_from (there_of d) (value_of d) ≡ d
depth_back None = refl
depth_back (Some v) = refl

-- Any two records of one verdict are equal.
pub verdict_determined : (v : Verdict) (x y : VerdictRecord) → x ≡ verdict_out v → y ≡ verdict_out v → x ≡ y
verdict_determined v x y = determined
