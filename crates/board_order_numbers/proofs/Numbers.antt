-- A version behind the last one, as the code tests it. Assumes nothing.
use Rattle.std.proofs.Common.{Bool, ◌||◌, refl, ◌≡◌, ℕ, ◌<◌, ◌≤◌, true, false, not, eqb, sym, arith, le-ltb, lt-ltb}
use Rattle.octets.proofs.Said.{or_true}
use Rattle.board_order_numbers.specs.Numbers.{late_b}

or_none : (a : Bool) → (a || false) ≡ a
or_none true = refl
or_none false = refl

-- a version that is above the last one may come, where it is no removal's or above the bound
pub not_late : (last bound v n : ℕ) → v ≤ last → false ≡ late_b last bound v n
unfolding late_b
not_late last bound v n h = rw (le-ltb last v h)

pub late_low : (last bound v n : ℕ) → v ≤ bound → last < v → not (eqb n 0) ≡ late_b last bound v n
unfolding late_b
late_low last bound v n h l = rw (lt-ltb last v l, le-ltb bound v h) (sym (or_none (not (eqb n 0))))

pub late_above : (last bound v n : ℕ) → last ≤ bound → bound < v → true ≡ late_b last bound v n
unfolding late_b
late_above last bound v n k h = rw (lt-ltb last v (omega arith), lt-ltb bound v h) (sym (or_true (not (eqb n 0))))
