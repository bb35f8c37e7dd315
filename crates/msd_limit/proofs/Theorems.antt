-- What a reader can cite of the limit that a list of pairs sets. A pair put anywhere among others is one value more of its type and nothing to another (`more_same`,
-- `more_other`, along the list before it); what the limit then is follows by cases of the two smallest values, there or not, by arithmetic.
use Rattle.std.specs.Prelude.{Option, None, Some}
use Prim.Native.Nat.{ℕ, ◌+◌, max}
use native.Mathlib.Omega.{arith}
use mathlib.Core.Path.{◌≡◌, refl, ap, sym, subst, ◌∙◌}
use mathlib.Core.Logic.{◌↔◌}
use mathlib.Core.List.{List, [], ◌∷◌, ◌++◌}
use mathlib.Core.Bool.{Bool, true, false, cond, ◌||◌}
use lib.Dec.{eqb}
use borrow.Author.Tests.{ne_eqb, eqb-true}
use Rattle.octets.proofs.Said.{both_true}
use Rattle.answers.proofs.Determined.{determined}
use Rattle.msd.specs.Msd.{max_segments_left, max_end_pop, max_h_encaps, max_end_d, Pair, smaller, with_pair, smallest_of}
use Rattle.msd_limit.specs.Limits.{segments_left_permits, limit_by, one_more_by, limit_of_pairs, present, is_end, only_ends, within}

-- no limit -----------------------------------------------------------------------------------------------------

-- A type has no smallest value exactly if no pair has it.
absent_exactly : (kind : ℕ) (ps : List Pair) → (smallest_of ps kind ≡ None) ↔ (present ps kind ≡ false)
absent_exactly kind [] = (λ e. refl, λ e. refl)
absent_exactly kind (p ∷ ps) = go (eqb p.kind kind) (smallest_of ps kind) (present ps kind) (absent_exactly kind ps)
  where
    there : (d : Option ℕ) → smaller p.value d ≡ None → true ≡ false
    there None e = cc
    there (Some m) e = cc

    go : (b : Bool) (d : Option ℕ) (q : Bool) → (d ≡ None) ↔ (q ≡ false) → (cond b (smaller p.value d) d ≡ None) ↔ ((b || q) ≡ false)
    go true d q h = (there d, λ e. cc)
    go false d q h = h

free_by : (v m : Option ℕ) → (limit_by v m ≡ None) ↔ ((v ≡ None) × (m ≡ None))
free_by None None = (λ e. (refl, refl), λ h. refl)
free_by None (Some m) = (λ e. (cc, cc), λ h. cc)
free_by (Some v) None = (λ e. (cc, cc), λ h. cc)
free_by (Some v) (Some m) = (λ e. (cc, cc), λ h. cc)

-- There is no limit exactly if neither type is present.
pub free_exactly : (ps : List Pair) → (limit_of_pairs ps ≡ None) ↔ ((present ps max_h_encaps ≡ false) × (present ps max_segments_left ≡ false))
free_exactly ps = let f = free_by (smallest_of ps max_h_encaps) (smallest_of ps max_segments_left) in (
  λ e. ((absent_exactly max_h_encaps ps).0 (f.0 e).0, (absent_exactly max_segments_left ps).0 (f.0 e).1),
  λ h. f.1 ((absent_exactly max_h_encaps ps).1 h.0, (absent_exactly max_segments_left ps).1 h.1),
)

-- A pair of 42 or 45 is none of 44 or 41.
end_kind : (p : Pair) (kind : ℕ) → (max_end_pop ≡ kind → ⊥) → (max_end_d ≡ kind → ⊥) → is_end p ≡ true → eqb p.kind kind ≡ false
unfolding is_end
end_kind p kind h k e = go (eqb p.kind max_end_pop) refl e
  where
    go : (b : Bool) → eqb p.kind max_end_pop ≡ b → (b || eqb p.kind max_end_d) ≡ true → eqb p.kind kind ≡ false
    go true f g = ne_eqb p.kind kind (λ x. h (sym (eqb-true p.kind max_end_pop f) ∙ x))
    go false f g = ne_eqb p.kind kind (λ x. k (sym (eqb-true p.kind max_end_d g) ∙ x))

end_encaps : (p : Pair) → is_end p ≡ true → eqb p.kind max_h_encaps ≡ false
end_encaps p = end_kind p max_h_encaps (λ e. omega (arith, e)) (λ e. omega (arith, e))

end_left : (p : Pair) → is_end p ≡ true → eqb p.kind max_segments_left ≡ false
end_left p = end_kind p max_segments_left (λ e. omega (arith, e)) (λ e. omega (arith, e))

-- one more pair ------------------------------------------------------------------------------------------------

-- A pair put anywhere among others: of another type it counts for nothing, of the type it is one value more.
module _ (kind : ℕ) (p : Pair) (ps : List Pair) where
  more_other : (qs : List Pair) → eqb p.kind kind ≡ false → smallest_of (qs ++ (p ∷ ps)) kind ≡ smallest_of (qs ++ ps) kind
  more_other [] e = rw e
  more_other (q ∷ qs) e = ap (λ (d : Option ℕ). with_pair q d kind) (more_other qs e)

  more_same : (qs : List Pair) → eqb p.kind kind ≡ true → smallest_of (qs ++ (p ∷ ps)) kind ≡ smaller p.value (smallest_of (qs ++ ps) kind)
  more_same [] e = rw e
  more_same (q ∷ qs) e = ap (λ (d : Option ℕ). with_pair q d kind) (more_same qs e) ∙ go (eqb q.kind kind) (smallest_of (qs ++ ps) kind)
    where
      swap : (d : Option ℕ) → smaller q.value (smaller p.value d) ≡ smaller p.value (smaller q.value d)
      swap None = ap Some (omega arith)
      swap (Some m) = ap Some (omega arith)

      go : (b : Bool) (d : Option ℕ) → cond b (smaller q.value (smaller p.value d)) (smaller p.value d) ≡ smaller p.value (cond b (smaller q.value d) d)
      go true d = swap d
      go false d = refl

-- One more pair of 42 or 45, wherever it stands, never changes the limit.
pub one_more_end_changes_nothing : (qs ps : List Pair) (p : Pair) → is_end p ≡ true → limit_of_pairs (qs ++ (p ∷ ps)) ≡ limit_of_pairs (qs ++ ps)
one_more_end_changes_nothing qs ps p e = rw (more_other max_h_encaps p ps qs (end_encaps p e), more_other max_segments_left p ps qs (end_left p e))

-- Pairs of 42 and 45 alone limit nothing.
pub only_ends_limit_nothing : (ps : List Pair) → only_ends ps ≡ true → limit_of_pairs ps ≡ None
only_ends_limit_nothing [] e = refl
only_ends_limit_nothing (p ∷ ps) e =
    one_more_end_changes_nothing [] ps p (both_true (is_end p) (only_ends ps) e).0 ∙ only_ends_limit_nothing ps (both_true (is_end p) (only_ends ps) e).1

-- A limit of two depths, with one value more on either side, permits nothing more.
encaps_more : (n x : ℕ) (v m : Option ℕ) → within (limit_by (smaller x v) m) n → within (limit_by v m) n
encaps_more n x None None h = tt
encaps_more n x None (Some m) h = omega (arith, h)
encaps_more n x (Some v) None h = omega (arith, h)
encaps_more n x (Some v) (Some m) h = omega (arith, h)

left_more : (n x : ℕ) (v m : Option ℕ) → within (limit_by v (smaller x m)) n → within (limit_by v m) n
left_more n x None None h = tt
left_more n x None (Some m) h = omega (arith, h)
left_more n x (Some v) None h = omega (arith, h)
left_more n x (Some v) (Some m) h = omega (arith, h)

-- What one type's depth becomes by one more pair: what it was, or with one value more.
either_way : (kind : ℕ) (qs ps : List Pair) (p : Pair) → (P : Option ℕ → Type 0) → P (smallest_of (qs ++ (p ∷ ps)) kind)
    → (P (smaller p.value (smallest_of (qs ++ ps) kind)) → P (smallest_of (qs ++ ps) kind)) → P (smallest_of (qs ++ ps) kind)
either_way kind qs ps p P h k = go (eqb p.kind kind) refl
  where
    go : (b : Bool) → eqb p.kind kind ≡ b → P (smallest_of (qs ++ ps) kind)
    go true e = k (subst P (more_same kind p ps qs e) h)
    go false e = subst P (more_other kind p ps qs e) h

-- One more pair of any type, wherever it stands, never raises the limit: what is within the limit with it is within the limit without.
pub one_more_never_raises : (n : ℕ) (qs ps : List Pair) (p : Pair) → within (limit_of_pairs (qs ++ (p ∷ ps))) n → within (limit_of_pairs (qs ++ ps)) n
one_more_never_raises n qs ps p h =
    let v = smallest_of (qs ++ ps) max_h_encaps in
    let m = smallest_of (qs ++ (p ∷ ps)) max_segments_left in
    let h1 = either_way max_h_encaps qs ps p (λ d. within (limit_by d m) n) h (encaps_more n p.value v m) in
    either_way max_segments_left qs ps p (λ d. within (limit_by v d) n) h1 (left_more n p.value v (smallest_of (qs ++ ps) max_segments_left))

-- one segment more ---------------------------------------------------------------------------------------------

-- What is within the limit of v and m is within it with one segment more.
pub one_more_keeps : (n : ℕ) (v m : Option ℕ) → within (limit_by v m) n → within (one_more_by (limit_by v m) v m) n
one_more_keeps n None m h = h
one_more_keeps n (Some v) None h = omega (arith, h)
one_more_keeps n (Some v) (Some m) h = omega (arith, h)

-- It is one segment at most: of what is within it, one segment less is within the limit of v and m, or it is the first.
pub one_more_at_most : (n : ℕ) (v m : Option ℕ) → within (one_more_by (limit_by v m) v m) (n + 1) → within (limit_by v m) (max 1 n)
one_more_at_most n None None h = tt
one_more_at_most n None (Some m) h = omega (arith, h)
one_more_at_most n (Some v) None h = omega (arith, h)
one_more_at_most n (Some v) (Some m) h = omega (arith, h)

-- Segments Left is untouched: it binds as before.
pub left_untouched : (n m : ℕ) (v : Option ℕ) → within (one_more_by (limit_by v (Some m)) v (Some m)) n → within (segments_left_permits (Some m)) n
left_untouched n m None h = h
left_untouched n m (Some v) h = omega (arith, h)

-- A zero of H.Encaps permits one segment, on the header or off it.
pub zero_more : one_more_by (Some 1) (Some 0) None ≡ Some 1
zero_more = refl

-- bounds -------------------------------------------------------------------------------------------------------

-- A route of one segment is within every limit.
pub one_is_within : (ps : List Pair) → within (limit_of_pairs ps) 1
one_is_within ps = go (smallest_of ps max_h_encaps) (smallest_of ps max_segments_left)
  where
    go : (v m : Option ℕ) → within (limit_by v m) 1
    go None None = tt
    go None (Some m) = omega arith
    go (Some v) None = omega arith
    go (Some v) (Some m) = omega arith

-- The least and the largest value of either type.
pub encaps_0 : limit_of_pairs (record { kind = max_h_encaps; value = 0 } ∷ []) ≡ Some 1
encaps_0 = refl

pub left_0 : limit_of_pairs (record { kind = max_segments_left; value = 0 } ∷ []) ≡ Some 1
left_0 = refl

pub encaps_255 : limit_of_pairs (record { kind = max_h_encaps; value = 255 } ∷ []) ≡ Some 255
encaps_255 = refl

pub left_255 : limit_of_pairs (record { kind = max_segments_left; value = 255 } ∷ []) ≡ Some 256
left_255 = refl

-- Any two answers that fit the contract of a call are equal -------------------------------------------------------

pub one_more_determined : (limit v m : Option ℕ) {x y : Option ℕ} → x ≡ one_more_by limit v m → y ≡ one_more_by limit v m → x ≡ y
one_more_determined limit v m = determined

pub limit_determined : (v m : Option ℕ) {x y : Option ℕ} → x ≡ limit_by v m → y ≡ limit_by v m → x ≡ y
limit_determined v m = determined
