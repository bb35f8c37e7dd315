-- What a test that was made tells of its parts. `not-true` and `not-false` of the toolchain's `borrow.Author.Tests` turn a negated test;
-- the others that several crates need stand here.
use Prim.Native.Nat.{ℕ, ◌+◌, ◌≤◌}
use native.Mathlib.Nat.{le_refl}
use native.Mathlib.Omega.{arith}
use mathlib.Core.Path.{◌≡◌, refl, sym, ◌∙◌}
use mathlib.Core.Bool.{Bool, true, false, false≢true, cond, not, ◌&&◌, ◌||◌}
use borrow.Author.Tests.{not-true, not-false}

-- `if !test(..)` was taken, or left: what the definition behind the test says.
pub said_no : (r b : Bool) → r ≡ b → not r ≡ true → b ≡ false
said_no r b e h = sym e ∙ not-true r h

pub said_yes : (r b : Bool) → r ≡ b → not r ≡ false → b ≡ true
said_yes r b e h = sym e ∙ not-false r h

-- Both hold; neither does.
pub both_true : (a b : Bool) → (a && b) ≡ true → (a ≡ true) × (b ≡ true)
both_true true b e = (refl, e)
both_true false b e = absurd (false≢true e)

pub either_false : (a b : Bool) → (a || b) ≡ false → (a ≡ false) × (b ≡ false)
either_false true b e = absurd (false≢true (sym e))
either_false false b e = (refl, e)

pub and_false : (a : Bool) → (a && false) ≡ false
and_false true = refl
and_false false = refl

pub and_holding : (a : Bool) → (a && true) ≡ a
and_holding true = refl
and_holding false = refl

pub and_no : (a b : Bool) → b ≡ false → (a && b) ≡ false
and_no a b e = rw e (and_false a)

pub or_none : (a : Bool) → (a || false) ≡ a
or_none true = refl
or_none false = refl

pub or_true : (a : Bool) → (a || true) ≡ true
or_true true = refl
or_true false = refl

pub or_assoc : (a b c : Bool) → ((a || b) || c) ≡ (a || (b || c))
or_assoc true b c = refl
or_assoc false b c = refl

-- What holds of both choices holds of the one that is made.
pub cases : {A : Type 0} (P : A → Type 0) (t : Bool) (a b : A) → (t ≡ true → P a) → (t ≡ false → P b) → P (cond t a b)
cases P true a b f g = f refl
cases P false a b f g = g refl

-- A choice that is made.
pub cond_yes : {A : Type 0} (t : Bool) (a b : A) → t ≡ true → cond t a b ≡ a
cond_yes t a b e = rw e

pub cond_no : {A : Type 0} (t : Bool) (a b : A) → t ≡ false → cond t a b ≡ b
cond_no t a b e = rw e

-- A size that may be absent.
pub cond_most : (b : Bool) (n : ℕ) → cond b n 0 ≤ n
cond_most true n = le_refl n
cond_most false n = omega arith

-- Where it is not, there is room for it.
pub there_room : (n room at : ℕ) (b : Bool) → b ≡ true → at + cond b n 0 ≤ room → at + n ≤ room
there_room n room at b e h = rw e at h
