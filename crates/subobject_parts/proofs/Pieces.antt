-- A run of octets laid piece by piece into an array of zeros. Assumes nothing.
use Prim.Native.Nat.{ℕ, ◌+◌, ◌-◌, ◌≤◌}
use mathlib.Core.Path.{◌≡◌, refl, sym, ◌∙◌, ap}
use mathlib.Core.List.{List, ◌++◌}
use native.Mathlib.Nat.{add-sub_cancel_left}
use native.Mathlib.Omega.{arith}
use lib.ListN.{length, take, drop, replicate, length-replicate}
use lib.Seq.{take-add, drop-drop}
use Rattle.octets.specs.Octets.{part, over, placed, part_of}
use Rattle.octets.proofs.Laws.{length_part, over_at}

-- No octet yet.
pub no_run : (s : List ℕ) (at m : ℕ) → replicate m 0 ≡ part_of s at 0 m
unfolding part_of part over
no_run s at m = refl

-- A run and the one behind it.
part_more : (s : List ℕ) (at i n : ℕ) → part s at i ++ part s (at + i) n ≡ part s at (i + n)
unfolding part
part_more s at i n = sym (take-add i n (drop at s) ∙ rw drop-drop)

-- n octets more.
pub more_laid : (s a x : List ℕ) (at i n m : ℕ) → at + i ≤ length s → i ≤ m → a ≡ part_of s at i m
    → x ≡ placed a i (take (at + i + n - (at + i)) (drop (at + i) s)) → x ≡ part_of s at (i + n) m
unfolding part_of part
more_laid s a x at i n m h l ea ex =
    let z : i ≤ length {A = ℕ} (replicate m 0) = omega (arith, length-replicate {A = ℕ} m 0) in
    let t : x ≡ placed (over (part s at i) (replicate m 0)) i (part s (at + i) n) = rw (ea, add-sub_cancel_left (at + i) n) at ex in
    t ∙ over_at (part s at i) (part s (at + i) n) (replicate m 0) i (length_part s at i h) z ∙ ap (λ (w : List ℕ). over w (replicate m 0)) (part_more s at i n)
