-- What is set and ought to be 0, as the code looks at it: octets two, three and four at a time. A sum is 0 exactly if its parts are (`set_sum`, `set_worth`), so
-- a number made of octets is set where one of them is; what the code asks is then the specification's test in another order of its parts. Assumes nothing.
use Prim.Native.Nat.{ℕ, zero, suc, ◌+◌, ◌-◌, ◌*◌, ◌/◌, ◌%◌, ◌≤◌, ◌<◌}
use mathlib.Core.Path.{◌≡◌, refl, sym, ◌∙◌, ap}
use mathlib.Core.Bool.{Bool, true, false, false≢true, cond, not, ◌&&◌, ◌||◌}
use mathlib.Core.List.{List, [], ◌∷◌, ◌++◌}
use lib.Dec.{eqb}
use native.Mathlib.Nat.{zero-add, le_refl, le-div_iff_mul-le}
use native.Mathlib.Omega.{arith}
use borrow.Author.Tests.{eq-eqb, ne_eqb, eqb-true, eqb-false}
use Rattle.octets.specs.Octets.{octet_of, be16}
use Rattle.octets.proofs.Said.{or_assoc, or_none}
use Rattle.forms.specs.declared.Form.{Form}
use Rattle.forms.specs.Forms.{nai_length}
use Rattle.subobject.specs.declared.head.Head.{Head}
use Rattle.subobject_strays.specs.declared.Strays.{Strays}
use Rattle.subobject.specs.Layout.{structure_size, expected_length}
use Rattle.subobject.specs.Rules.{has_structure}
use Rattle.subobject_strays.specs.Strays.{reserved_place, stray_flags, structure_reserved, structure_flags, reserved_octets, any_set, strays_by, stray_one}
use Rattle.octet_sums.specs.Sums.{sum_three, four_of, four_at}
use Rattle.subobject_strays.specs.Four.{strays_with, marked_at, ending_marked}
use Rattle.subobject.proofs.Laws.{there_sid}

-- where things lie ---------------------------------------------------------------------------------------------

pub fixed_expected : (form : Form) (nt s t : ℕ) → form.fixed ≤ expected_length form nt s t
unfolding expected_length
fixed_expected form nt s t = omega arith

-- A structure that is there lies inside the octets given.
pub structure_room : (form : Form) (h : Head) (at n : ℕ) → has_structure h ≡ true → at + expected_length form h.nt h.s h.t ≤ n
    → at + form.fixed + form.sid + nai_length form h.nt + structure_size ≤ n
unfolding expected_length has_structure
structure_room form h at n e l = let z = there_sid h.s h.t e in let q = rw (e, z) at l in omega (arith, q)

-- Its last four octets, at the place that the code works out.
pub structure_end : (form : Form) (h : Head) (at n : ℕ) (b : Bool) (fixed sid nai : ℕ) → b ≡ has_structure h → b ≡ true
    → at + expected_length form h.nt h.s h.t ≤ n → fixed ≡ form.fixed → sid ≡ form.sid → nai ≡ nai_length form h.nt
    → at + fixed + sid + nai + 4 + 4 ≤ n
structure_end form h at n b fixed sid nai eb et l ef es en =
    let q = structure_room form h at n (sym eb ∙ et) l in omega (arith, q, ef, es, en)

-- What is left of a number above a multiple is no more than the number.
pub cut_most : (n d : ℕ) → 0 < d → n / d * d ≤ n
cut_most n d h = (le-div_iff_mul-le h).0 (le_refl (n / d))

-- The flags that are left, as the code works them out.
pub flags_most : (x w free : ℕ) → w ≡ free → 0 < free → x % 4096 / w * w < 4096
flags_most x w free e h = rw e (omega (arith, cut_most (x % 4096) free h))

pub flags_are : (form : Form) (s : List ℕ) (at x w : ℕ) → w ≡ form.free → x ≡ be16 s (at + 2) → x % 4096 / w * w ≡ stray_flags form s at
unfolding stray_flags
flags_are form s at x w e q = rw (e, q)

-- sums and tests -----------------------------------------------------------------------------------------------

-- A sum is 0 exactly if its parts are.
pub set_sum : (a b : ℕ) → not (eqb (a + b) 0) ≡ (not (eqb a 0) || not (eqb b 0))
set_sum zero b = rw (zero-add b)
set_sum (suc a) b = rw (ne_eqb (suc a + b) 0 (λ e. omega arith), ne_eqb (suc a) 0 (λ e. omega arith))

pub set_worth : (a n : ℕ) → (n ≡ 0 → a ≡ 0) → (a ≡ 0 → n ≡ 0) → not (eqb n 0) ≡ not (eqb a 0)
set_worth a n f g = go (eqb a 0) refl
  where
    go : (b : Bool) → eqb a 0 ≡ b → not (eqb n 0) ≡ not (eqb a 0)
    go true e = rw (e, eq-eqb n 0 (g (eqb-true a 0 e)))
    go false e = rw (e, ne_eqb n 0 (λ z. eqb-false a 0 e (f z)))

pub set_two : (s : List ℕ) (at : ℕ) → not (eqb (be16 s at) 0) ≡ any_set (octet_of s at ∷ octet_of s (at + 1) ∷ [])
unfolding be16 octet_of
set_two s at =
    set_sum (octet_of s at * 256) (octet_of s (at + 1))
    ∙ rw (set_worth (octet_of s at) (octet_of s at * 256) (λ e. omega arith) (λ e. omega arith), or_none (not (eqb (octet_of s (at + 1)) 0)))

set_three : (a b c : ℕ) → not (eqb (a + b + c) 0) ≡ any_set (a ∷ b ∷ c ∷ [])
set_three a b c = set_sum (a + b) c ∙ rw (set_sum a b, or_assoc (not (eqb a 0)) (not (eqb b 0)) (not (eqb c 0)), or_none (not (eqb c 0)))

set_append : (x y : List ℕ) → any_set (x ++ y) ≡ (any_set x || any_set y)
set_append [] y = refl
set_append (a ∷ x) y = rw (set_append x y) (sym (or_assoc (not (eqb a 0)) (any_set x) (any_set y)))

-- The two reserved octets as one number, 0 where the form has none.
abbrev pub fixed_two : Form → List ℕ → ℕ → ℕ
fixed_two form s at = cond form.behaves (be16 s (at + reserved_place)) 0

abbrev reserved_two : Form → List ℕ → ℕ → List ℕ
reserved_two form s at = cond form.behaves (octet_of s (at + reserved_place) ∷ octet_of s (at + reserved_place + 1) ∷ []) []

set_fixed : (form : Form) (s : List ℕ) (at : ℕ) → not (eqb (fixed_two form s at) 0) ≡ any_set (reserved_two form s at)
set_fixed form s at = go form.behaves
  where
    go : (b : Bool) → not (eqb (cond b (be16 s (at + reserved_place)) 0) 0)
        ≡ any_set (cond b (octet_of s (at + reserved_place) ∷ octet_of s (at + reserved_place + 1) ∷ []) [])
    go true = set_two s (at + reserved_place)
    go false = refl

module _ (form : Form) (h : Head) (s : List ℕ) (at flags fixed : ℕ) (eg : flags ≡ stray_flags form s at) (ef : fixed ≡ fixed_two form s at) where
  pub strays_structured : (p : ℕ) → p ≡ structure_reserved form h at → has_structure h ≡ true → strays_with s p flags fixed ≡ strays_by form h s at
  unfolding structure_flags reserved_octets strays_with
  strays_structured p ep e =
      let x = octet_of s p ∷ octet_of s (p + 1) ∷ octet_of s (p + 2) ∷ [] in
      let k : (not (eqb fixed 0) || not (eqb (octet_of s p + octet_of s (p + 1) + octet_of s (p + 2)) 0)) ≡ any_set (reserved_two form s at ++ x) =
      rw (ef, set_fixed form s at, set_three (octet_of s p) (octet_of s (p + 1)) (octet_of s (p + 2))) (sym (set_append (reserved_two form s at) x)) in
      rw (e, ← ep) (λ i. record { flags = eg i; structure = octet_of s (p + 3); reserved = k i })

  pub strays_plain : has_structure h ≡ false → ◌≡◌ {A = Strays} (record { flags = flags; structure = 0; reserved = not (eqb fixed 0) }) (strays_by form h s at)
  unfolding structure_flags reserved_octets
  strays_plain e =
      let q : not (eqb fixed 0) ≡ any_set (reserved_two form s at ++ []) =
      rw (ef, set_fixed form s at) (sym (set_append (reserved_two form s at) [] ∙ or_none (any_set (reserved_two form s at)))) in
      rw e (λ i. record { flags = eg i; structure = 0; reserved = q i })

-- The strays with a structure, from the sum of its reserved octets.
pub with_made : (s : List ℕ) (p flags fixed more : ℕ) (r : Bool) → more ≡ sum_three s p → r ≡ (not (eqb fixed 0) || not (eqb more 0))
    → ◌≡◌ {A = Strays} (record { flags = flags; structure = octet_of s (p + 3); reserved = r }) (strays_with s p flags fixed)
unfolding strays_with sum_three
with_made s p flags fixed more r em er =
    let q : r ≡ (not (eqb fixed 0) || not (eqb (sum_three s p) 0)) = er ∙ ap (λ (x : ℕ). not (eqb fixed 0) || not (eqb x 0)) em in
    (λ i. record { flags = flags; structure = octet_of s (p + 3); reserved = q i })

-- The marks of the fixed part, as the code asks for them.
pub marked_two : (form : Form) (s : List ℕ) (at : ℕ) → marked_at form s at ≡ (not (eqb (stray_flags form s at) 0) || not (eqb (fixed_two form s at) 0))
unfolding marked_at
marked_two form s at = ap (λ (z : Bool). not (eqb (stray_flags form s at) 0) || z) (go form.behaves)
  where
    go : (b : Bool) → (b && not (eqb (be16 s (at + reserved_place)) 0)) ≡ not (eqb (cond b (be16 s (at + reserved_place)) 0) 0)
    go true = refl
    go false = refl

pub marked_flags : (form : Form) (s : List ℕ) (at flags : ℕ) → flags ≡ stray_flags form s at → (flags ≡ 0 → ⊥) → not (eqb flags 0) ≡ marked_at form s at
unfolding marked_at
marked_flags form s at flags e n = rw (← e, ne_eqb flags 0 n)

pub marked_fixed : (form : Form) (s : List ℕ) (at flags fixed : ℕ) → flags ≡ stray_flags form s at → flags ≡ 0 → fixed ≡ fixed_two form s at
    → not (eqb fixed 0) ≡ marked_at form s at
marked_fixed form s at flags fixed e z f = rw (marked_two form s at, ← e, eq-eqb flags 0 z, ← f)

-- The two reserved octets, where the form has them and where it has not.
pub two_there : (form : Form) (s : List ℕ) (at x : ℕ) → form.behaves ≡ true → x ≡ be16 s (at + reserved_place) → x ≡ fixed_two form s at
two_there form s at x e q = rw e q

pub two_absent : (form : Form) (s : List ℕ) (at : ℕ) → form.behaves ≡ false → 0 ≡ fixed_two form s at
two_absent form s at e = rw e

-- Four octets at once ------------------------------------------------------------------------------------------

set_four : (a b c d : ℕ) → not (eqb (four_of a b c d) 0) ≡ (any_set (a ∷ b ∷ c ∷ []) || not (eqb d 0))
set_four a b c d =
    set_sum (a + b * 256 + c * 65536) (d * 16777216)
    ∙ rw (
      set_worth d (d * 16777216) (λ e. omega arith) (λ e. omega arith),
      set_worth (a + b + c) (a + b * 256 + c * 65536) (λ e. omega arith) (λ e. omega arith),
      set_three a b c,
    )

-- The last four octets of a subobject with a structure.
end_place : (form : Form) (h : Head) (at : ℕ) → has_structure h ≡ true → h.size ≡ expected_length form h.nt h.s h.t
    → at + h.size - 4 ≡ structure_reserved form h at
unfolding has_structure expected_length
end_place form h at e es = let z = there_sid h.s h.t e in let q = rw (e, z) at es in omega (arith, q)

-- Nothing marked, nothing stray.
module _ (form : Form) (h : Head) (s : List ℕ) (at : ℕ) where
  unmarked_end : h.size ≡ expected_length form h.nt h.s h.t → has_structure h ≡ true → ending_marked h s at ≡ false
      → (let p = structure_reserved form h at in (any_set (octet_of s p ∷ octet_of s (p + 1) ∷ octet_of s (p + 2) ∷ []) || not (eqb (octet_of s (p + 3)) 0)) ≡ false)
  unfolding ending_marked four_at
  unmarked_end es e m =
      let p = structure_reserved form h at in
      sym (set_four (octet_of s p) (octet_of s (p + 1)) (octet_of s (p + 2)) (octet_of s (p + 3))) ∙ rw (e, end_place form h at e es) at m

  unmarked_fixed : marked_at form s at ≡ false → (not (eqb (stray_flags form s at) 0) || any_set (reserved_two form s at)) ≡ false
  unmarked_fixed m = rw (← set_fixed form s at) (sym (marked_two form s at) ∙ m)

  shuffle : (a b t f : Bool) → ((a || b) || (t || f)) ≡ (a || (f || (b || t)))
  shuffle true b t f = refl
  shuffle false true t true = refl
  shuffle false true t false = refl
  shuffle false false true true = refl
  shuffle false false true false = refl
  shuffle false false false true = refl
  shuffle false false false false = refl

  pub unmarked_none : h.size ≡ expected_length form h.nt h.s h.t → marked_at form s at ≡ false → ending_marked h s at ≡ false → 0 ≡ stray_one (strays_by form h s at)
  unfolding structure_flags reserved_octets
  unmarked_none es m n = go (has_structure h) refl
    where
      go : (b : Bool) → has_structure h ≡ b → 0 ≡ stray_one (strays_by form h s at)
      go false e =
          let two = reserved_two form s at in
          let a = not (eqb (stray_flags form s at) 0) in
          let w : false ≡ (a || any_set (two ++ [])) =
          sym (unmarked_fixed m) ∙ ap (λ (z : Bool). a || z) (sym (set_append two [] ∙ or_none (any_set two))) in
          rw e (ap (λ (z : Bool). cond {A = ℕ} z 1 0) w)
      go true e =
          let two = reserved_two form s at in
          let a = not (eqb (stray_flags form s at) 0) in
          let p = structure_reserved form h at in
          let x = octet_of s p ∷ octet_of s (p + 1) ∷ octet_of s (p + 2) ∷ [] in
          let f = not (eqb (octet_of s (p + 3)) 0) in
          let w : false ≡ (a || (f || any_set (two ++ x))) =
          sym (rw (unmarked_fixed m, unmarked_end es e n)) ∙ shuffle a (any_set two) (any_set x) f ∙ ap (λ (z : Bool). a || (f || z)) (sym (set_append two x)) in
          rw e (ap (λ (z : Bool). cond {A = ℕ} z 1 0) w)

-- What is marked is stray.
by_fixed : (a b f t : Bool) → (a || b) ≡ true → (a || (f || (b || t))) ≡ true
by_fixed true b f t e = refl
by_fixed false true true t e = refl
by_fixed false true false t e = refl
by_fixed false false f t e = absurd (false≢true e)

by_end : (a b f t : Bool) → (t || f) ≡ true → (a || (f || (b || t))) ≡ true
by_end true b f t e = refl
by_end false b true t e = refl
by_end false true false t e = refl
by_end false false false t e = sym (or_none t) ∙ e

module _ (form : Form) (h : Head) (s : List ℕ) (at : ℕ) where
  pub marked_one : marked_at form s at ≡ true → 1 ≡ stray_one (strays_by form h s at)
  unfolding structure_flags reserved_octets
  marked_one m =
      let two = reserved_two form s at in
      let p = structure_reserved form h at in
      let x : List ℕ = cond (has_structure h) (octet_of s p ∷ octet_of s (p + 1) ∷ octet_of s (p + 2) ∷ []) [] in
      let f = not (eqb (cond (has_structure h) (octet_of s (p + 3)) 0) 0) in
      let a = not (eqb (stray_flags form s at) 0) in
      let q : (a || any_set two) ≡ true = rw (← set_fixed form s at) (sym (marked_two form s at) ∙ m) in
      sym (rw (set_append two x, by_fixed a (any_set two) f (any_set x) q))

  pub ending_one : h.size ≡ expected_length form h.nt h.s h.t → ending_marked h s at ≡ true → 1 ≡ stray_one (strays_by form h s at)
  unfolding structure_flags reserved_octets ending_marked four_at
  ending_one es m = go (has_structure h) refl m
    where
      go : (b : Bool) → has_structure h ≡ b → cond b (not (eqb (four_at s (at + h.size - 4)) 0)) false ≡ true → 1 ≡ stray_one (strays_by form h s at)
      go false e k = absurd (false≢true k)
      go true e k =
          let two = reserved_two form s at in
          let p = structure_reserved form h at in
          let x : List ℕ = octet_of s p ∷ octet_of s (p + 1) ∷ octet_of s (p + 2) ∷ [] in
          let f = not (eqb (octet_of s (p + 3)) 0) in
          let a = not (eqb (stray_flags form s at) 0) in
          let q : (any_set x || f) ≡ true =
          sym (set_four (octet_of s p) (octet_of s (p + 1)) (octet_of s (p + 2)) (octet_of s (p + 3))) ∙ rw (end_place form h at e es) at k in
          rw e (sym (rw (set_append two x, by_end a (any_set two) f (any_set x) q)))
