-- Laws about parts of octet strings, and about octets that are all 0.
use Prim.Native.Nat.{ℕ, ◌+◌, ◌-◌, ◌≤◌, ◌<◌}
use mathlib.Core.Path.{◌≡◌, refl, sym, ◌∙◌, ap}
use mathlib.Core.Bool.{true}
use mathlib.Core.List.{List, [], ◌∷◌, ◌++◌}
use lib.Dec.{eqb}
use lib.ListN.{length, take, drop, replicate, length-replicate}
use lib.Seq.{take_at, drop_at, take-add, drop-drop}
use native.Mathlib.Omega.{arith}
use borrow.Author.Tests.{eqb-true, eq-eqb}
use Rattle.octets.specs.Octets.{octet_of, part, over, part_of}
use Rattle.octets.proofs.Laws.{length_part, length_over}
use Rattle.writer_spare.specs.Spare.{zeros}
use Rattle.writer_spare.proofs.Laws.{zeros_both}
use Rattle.readback.specs.Ignored.{EachOctet}
use Rattle.octets.proofs.Said.{both_true}
use Rattle.readback.proofs.Stands.{drop_zeros}

-- parts --------------------------------------------------------------------------------------------------------

pub part_add : (s : List ℕ) (at n m : ℕ) → part s at (n + m) ≡ part s at n ++ part s (at + n) m
unfolding part
part_add s at n m = take-add n m (drop at s) ∙ rw (drop-drop n at s)

pub length_part_of : (s : List ℕ) (at n m : ℕ) → at + n ≤ length s → n ≤ m → length (part_of s at n m) ≡ m
unfolding part_of
length_part_of s at n m h k =
    let l = length_part s at n h in
    let z = length-replicate {A = ℕ} m 0 in
    length_over (part s at n) (replicate m 0) (omega arith) ∙ z

-- An array holds the part that it was filled with, and 0 behind it.
pub take_part_of : (s : List ℕ) (at n m : ℕ) → at + n ≤ length s → take n (part_of s at n m) ≡ part s at n
unfolding part_of over
take_part_of s at n m h = take_at (part s at n) (drop (length (part s at n)) (replicate m 0)) n (length_part s at n h)

pub drop_part_of : (s : List ℕ) (at n m : ℕ) → at + n ≤ length s → n ≤ m → drop n (part_of s at n m) ≡ replicate (m - n) 0
unfolding part_of over
drop_part_of s at n m h k =
    let l = length_part s at n h in
    drop_at (part s at n) (drop (length (part s at n)) (replicate m 0)) n l ∙ rw l (drop_zeros n m k)

-- Two strings that start with as many octets.
pub append_same : (a b c d : List ℕ) → length a ≡ length b → a ++ c ≡ b ++ d → (a ≡ b) × (c ≡ d)
append_same a b c d l e = (
  sym (take_at a c (length b) l) ∙ ap (take (length b)) e ∙ take_at b d (length b) refl,
  sym (drop_at a c (length b) l) ∙ ap (drop (length b)) e ∙ drop_at b d (length b) refl,
)

-- octets -------------------------------------------------------------------------------------------------------

pub octet_small : (s : List ℕ) → EachOctet s → (i : ℕ) → octet_of s i < 256
unfolding octet_of
octet_small [] o i = omega arith
octet_small (x ∷ s) o ℕ.zero = o.0
octet_small (x ∷ s) o (ℕ.suc i) = octet_small s o.1 i

-- zeros --------------------------------------------------------------------------------------------------------

pub zeros_replicate : (n : ℕ) → zeros (replicate n 0) ≡ true
zeros_replicate ℕ.zero = refl
zeros_replicate (ℕ.suc n) = zeros_replicate n

pub zeros_append : (x y : List ℕ) → zeros x ≡ true → zeros y ≡ true → zeros (x ++ y) ≡ true
zeros_append x y e f = zeros_both x y ∙ rw (e, f)

pub zeros_split : (x y : List ℕ) → zeros (x ++ y) ≡ true → (zeros x ≡ true) × (zeros y ≡ true)
zeros_split x y e = both_true (zeros x) (zeros y) (sym (zeros_both x y) ∙ e)

pub zeros_cons : (a : ℕ) (x : List ℕ) → a ≡ 0 → zeros x ≡ true → zeros (a ∷ x) ≡ true
zeros_cons a x e f = rw (eq-eqb a 0 e) f

pub zeros_uncons : (a : ℕ) (x : List ℕ) → zeros (a ∷ x) ≡ true → (a ≡ 0) × (zeros x ≡ true)
zeros_uncons a x e = let p = both_true (eqb a 0) (zeros x) e in (eqb-true a 0 p.0, p.1)
