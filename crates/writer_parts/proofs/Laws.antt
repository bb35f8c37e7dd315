-- Parts laid one by one, there or not: an absent one is a run of no octets (`placed_none`). Assumes nothing.
use Prim.Native.Nat.{ℕ, ◌+◌, ◌≤◌}
use mathlib.Core.Path.{◌≡◌, sym, ◌∙◌}
use mathlib.Core.Bool.{Bool, true, false, cond}
use mathlib.Core.List.{List, []}
use lib.ListN.{length, take, take-append-drop}
use lib.Seq.{take_all}
use native.Mathlib.Omega.{arith}
use Rattle.octets.specs.Octets.{over, placed}
use Rattle.octets.proofs.Said.{there_room}

-- A run of no octets.
pub placed_none : (b : List ℕ) (at : ℕ) → placed b at [] ≡ b
unfolding placed over
placed_none b at = take-append-drop at b

pub laid_none : (b l : List ℕ) (at n : ℕ) → n ≡ 0 → b ≡ placed b at (take n l)
laid_none b l at n e = rw e (sym (placed_none b at))

-- A part of n octets laid, if it is there.
pub laid_there : (there : Bool) (b l x : List ℕ) (at n : ℕ) → length l ≡ n → there ≡ true → x ≡ placed b at l
    → x ≡ placed b at (take (cond there n 0) l)
laid_there there b l x at n e t q = q ∙ rw (t, take_all n l (omega arith))

pub laid_absent : (there : Bool) (b l : List ℕ) (at n : ℕ) → there ≡ false → b ≡ placed b at (take (cond there n 0) l)
laid_absent there b l at n t = sym (rw t (placed_none b at))

pub room_there : (there : Bool) (l : List ℕ) (at n room : ℕ) → length l ≡ n → there ≡ true → at + cond there n 0 ≤ room → at + length l ≤ room
room_there there l at n room e t h = rw e (there_room n room at there t h)
