-- Which of the ignored bits make a segment stray: the unassigned and the reserved ones, and no others. Each number that counts a stray is 0 exactly if its octets or bits are (`flags_zero`,
-- `ending_zero`); so both sides become the same tests, in another order (`any_way`, `sorted`).
use Prim.Native.Nat.{ℕ, zero, suc, ◌+◌, ◌*◌, ◌/◌, ◌%◌, ◌<◌}
use mathlib.Core.Path.{◌≡◌, refl, sym, ◌∙◌, ap}
use mathlib.Core.Bool.{Bool, true, false, cond, not, ◌&&◌, ◌||◌}
use mathlib.Core.List.{List, [], ◌∷◌, ◌++◌}
use lib.Dec.{eqb}
use lib.ListN.{get_or}
use native.Mathlib.Nat.{add_assoc, zero-add, suc-mul}
use native.Mathlib.Omega.{arith}
use borrow.Author.Tests.{eq-eqb, ne_eqb}
use Rattle.octets.specs.Octets.{octet_of, be16, part}
use Rattle.forms.specs.declared.Form.{Form}
use Rattle.forms.specs.Sized.{Sized}
use Rattle.subobject.specs.Layout.{head_at}
use Rattle.subobject.specs.Rules.{has_structure}
use Rattle.subobject_strays.specs.Strays.{stray_flags, structure_reserved, structure_flags, reserved_octets, any_set, strays_at, is_stray, stray_in}
use Rattle.frame.specs.Frames.{places_of}
use Rattle.writer_spare.specs.Spare.{zeros}
use Rattle.writer_spare.proofs.Laws.{zeros_both, part_zero}
use Rattle.writer_layout.specs.Readable.{Readable}
use Rattle.readback.specs.Ignored.{EachOctet, unassigned_at, ending_at, assigned_at, stray_bits_at, ignored_in, stray_bits_in, assigned_in, ignored_of}
use Rattle.readback.proofs.Parts.{octet_small}

-- one subobject ------------------------------------------------------------------------------------------------

sum_zero : (x y w : ℕ) → 0 < w → eqb (x * 256 + y * w) 0 ≡ (eqb x 0 && eqb y 0)
sum_zero zero zero w h = eq-eqb (zero * 256 + zero * w) 0 (omega arith)
sum_zero zero (suc y) w h = ne_eqb (zero * 256 + suc y * w) 0 (λ e. let q = suc-mul y w in omega arith) ∙ sym (ne_eqb (suc y) 0 (λ e. omega arith))
sum_zero (suc x) y w h = ne_eqb (suc x * 256 + y * w) 0 (λ e. omega arith) ∙ sym (ap (λ (b : Bool). b && eqb y 0) (ne_eqb (suc x) 0 (λ e. omega arith)))

-- The 12 flags without those that are assigned: four bits of one octet and some of the next.
flags_zero : {form : Form} → Sized form → Readable form → (s : List ℕ) (at : ℕ) → EachOctet s
    → eqb (stray_flags form s at) 0 ≡ (eqb (octet_of s (at + 2) % 16) 0 && eqb (octet_of s (at + 3) / form.free) 0)
unfolding stray_flags be16 octet_of
flags_zero {form} z r s at o =
    let h : get_or s (at + 3) 0 < 256 = octet_small s o (at + 3) in
    rw (add_assoc at 2 1, r.strays (get_or s (at + 2) 0) (get_or s (at + 3) 0) h) (sum_zero (get_or s (at + 2) 0 % 16) (get_or s (at + 3) 0 / form.free) form.free z.free)

-- Octets of which one is set are not all 0.
any_zeros : (x : List ℕ) → any_set x ≡ not (zeros x)
any_zeros [] = refl
any_zeros (a ∷ x) = rw (any_zeros x) (go (eqb a 0))
  where
    go : (b : Bool) → (not b || not (zeros x)) ≡ not (b && zeros x)
    go true = refl
    go false = refl

-- The reserved octets and the flags of a structure, where it is there.
ending_zero : (s : List ℕ) (p : ℕ) (b : Bool)
    → zeros (cond b (part s p 4) [])
    ≡ (zeros (cond b (octet_of s p ∷ octet_of s (p + 1) ∷ octet_of s (p + 2) ∷ []) []) && eqb (cond b (octet_of s (p + 3)) 0) 0)
ending_zero s p true = part_zero s p ∙ go (eqb (octet_of s p) 0) (eqb (octet_of s (p + 1)) 0) (eqb (octet_of s (p + 2)) 0) (eqb (octet_of s (p + 3)) 0)
  where
    go : (a b c d : Bool) → (a && (b && (c && (d && true)))) ≡ ((a && (b && (c && true))) && d)
    go false b c d = refl
    go true false c d = refl
    go true true false d = refl
    go true true true true = refl
    go true true true false = refl
ending_zero s p false = refl

-- In any of the three ways: one of the numbers is not 0.
any_way : (a b f x y : Bool) → (not (a && b) || (not f || not (x && y))) ≡ not ((a && (b && x)) && (y && f))
any_way false b f x y = refl
any_way true false f x y = refl
any_way true true true true true = refl
any_way true true true true false = refl
any_way true true true false y = refl
any_way true true false true true = refl
any_way true true false true false = refl
any_way true true false false y = refl

-- A segment is stray exactly if one of these bits is set.
pub stray_bits : {form : Form} → Sized form → Readable form → (s : List ℕ) (ero : Bool) (at : ℕ) → EachOctet s
    → is_stray (strays_at form s ero at) ≡ not (zeros (stray_bits_at form s ero at))
unfolding strays_at structure_flags reserved_octets
stray_bits {form} z r s ero at o =
    let h = head_at form s ero at in
    let p = structure_reserved form h at in
    let x : List ℕ = cond form.behaves (octet_of s (at + 4) ∷ octet_of s (at + 4 + 1) ∷ []) [] in
    let y : List ℕ = cond (has_structure h) (octet_of s p ∷ octet_of s (p + 1) ∷ octet_of s (p + 2) ∷ []) [] in
    let a = eqb (octet_of s (at + 2) % 16) 0 in
    let b = eqb (octet_of s (at + 3) / form.free) 0 in
    let f = eqb (cond (has_structure h) (octet_of s (p + 3)) 0) 0 in
    let e1 : is_stray (strays_at form s ero at) ≡ (not (a && b) || (not f || not (zeros x && zeros y)))
    = rw (flags_zero z r s at o, any_zeros (x ++ y), zeros_both x y) in
    let e2 : zeros (stray_bits_at form s ero at) ≡ ((a && (b && zeros x)) && (zeros y && f))
    = zeros_both (unassigned_at form s at) (ending_at form s ero at) ∙ rw (ending_zero s p (has_structure h), ← add_assoc at 4 1) in
    e1 ∙ any_way a b f (zeros x) (zeros y) ∙ sym (ap not e2)

-- all of them --------------------------------------------------------------------------------------------------

one_more : (b : Bool) (n : ℕ) → eqb (cond {A = ℕ} (not b) 1 0 + n) 0 ≡ (b && eqb n 0)
one_more true n = rw (zero-add n)
one_more false n = ne_eqb (1 + n) 0 (λ e. omega arith)

pub strays_none : {form : Form} → Sized form → Readable form → (s : List ℕ) (ero : Bool) (ps : List ℕ) → EachOctet s → eqb (stray_in form s ero ps) 0 ≡ zeros (stray_bits_in form s ero ps)
strays_none z r s ero [] o = refl
strays_none {form} z r s ero (p ∷ ps) o =
    rw (stray_bits z r s ero p o, zeros_both (stray_bits_at form s ero p) (stray_bits_in form s ero ps), ← strays_none z r s ero ps o)
    (one_more (zeros (stray_bits_at form s ero p)) (stray_in form s ero ps))

-- The ignored bits are the strays, the assigned flags that are ignored, and the header's low bits.
sorted : (u a e s t : Bool) → ((u && (a && e)) && (s && t)) ≡ (((u && e) && s) && (a && t))
sorted false a e s t = refl
sorted true true true s t = refl
sorted true true false s t = refl
sorted true false true true t = refl
sorted true false true false t = refl
sorted true false false s t = refl

ignored_sorted : (form : Form) (s : List ℕ) (ero : Bool) (ps : List ℕ) → zeros (ignored_in form s ero ps) ≡ (zeros (stray_bits_in form s ero ps) && zeros (assigned_in form s ero ps))
ignored_sorted form s ero [] = refl
ignored_sorted form s ero (p ∷ ps) =
    let u = unassigned_at form s p in
    let a = assigned_at form s ero p in
    let e = ending_at form s ero p in
    rw (
      zeros_both (u ++ (a ++ e)) (ignored_in form s ero ps),
      zeros_both u (a ++ e),
      zeros_both a e,
      zeros_both (u ++ e) (stray_bits_in form s ero ps),
      zeros_both u e,
      zeros_both a (assigned_in form s ero ps),
      ignored_sorted form s ero ps,
    )
    (sorted (zeros u) (zeros a) (zeros e) (zeros (stray_bits_in form s ero ps)) (zeros (assigned_in form s ero ps)))

pub ignored_are : (form : Form) (s : List ℕ) (ero : Bool)
    → zeros (ignored_of form s ero) ≡ (eqb (octet_of s 1 % 16) 0 && (zeros (stray_bits_in form s ero (places_of s)) && zeros (assigned_in form s ero (places_of s))))
ignored_are form s ero = rw (ignored_sorted form s ero (places_of s))
