-- Laws of the pass over the pairs: the smallest value of a type, one turn, the end. `Passing` says that the smaller of what was met and of what is left is the
-- smallest of all; a pair passes from what is left to what was met (`least_with`), and at the end nothing is left.
use Rattle.std.specs.Prelude.{Option, None, Some, min}
use Prim.Native.Nat.{ℕ, ◌-◌, ◌≤◌, ◌<◌}
use native.Mathlib.Nat.{min_comm}
use native.Mathlib.Omega.{arith}
use mathlib.Core.Path.{◌≡◌, refl, ap, sym, ◌∙◌}
use mathlib.Core.List.{List, [], ◌∷◌}
use mathlib.Core.Bool.{Bool, true, false, cond}
use lib.ListN.{length, get_or, take, drop}
use lib.Dec.{eqb, ltb}
use borrow.Author.Tests.{lt-ltb, ltb-false}
use Rattle.answers.proofs.Determined.{determined}
use Rattle.msd.specs.declared.Depths.{Depths}
use Rattle.msd.specs.Msd.{max_segments_left, max_h_encaps, known_msd, Pair, pairs_in, wrong_pairs, smaller, with_pair, smallest_of, gathered_of}
use Rattle.msd.specs.Stands.{Stands, met}

-- the smallest value of a type ---------------------------------------------------------------------------------

-- The smaller one of two.
abbrev pub least : Option ℕ → Option ℕ → Option ℕ
least None d = d
least (Some v) d = smaller v d

pub least_none : (d : Option ℕ) → least d None ≡ d
least_none None = refl
least_none (Some v) = refl

least_smaller : (got d : Option ℕ) (v : ℕ) → least (smaller v got) d ≡ least got (smaller v d)
least_smaller None d v = refl
least_smaller (Some m) None v = ap Some (min_comm v m)
least_smaller (Some m) (Some n) v = ap Some (omega arith)

-- A pair more on the one side or on the other.
least_with : (wanted : ℕ) (p : Pair) (got d : Option ℕ) → least (with_pair p got wanted) d ≡ least got (with_pair p d wanted)
least_with wanted p got d = go (eqb p.kind wanted)
  where
    go : (b : Bool) → least (cond b (smaller p.value got) got) d ≡ least got (cond b (smaller p.value d) d)
    go true = least_smaller got d p.value
    go false = refl

-- A value, beside the number that the pass keeps.
pub met_smaller : (v least : ℕ) → v < 256 → met (min v least) ≡ smaller v (met least)
unfolding met
met_smaller v least h = go (ltb least 256) refl
  where
    go : (b : Bool) → ltb least 256 ≡ b → cond (ltb (min v least) 256) (Some (min v least)) None ≡ smaller v (cond (ltb least 256) (Some least) None)
    go true e = rw (e, lt-ltb (min v least) 256 (omega arith))
    go false e =
        let k : 256 ≤ least = ltb-false least 256 e in
        let s : min v least ≡ v = omega arith in
        rw (e, s, lt-ltb v 256 h)

pub smaller_met : (v least r : ℕ) → v < 256 → r ≡ min v least → met r ≡ smaller v (met least)
smaller_met v least r h e = rw e (met_smaller v least h)

-- pairs --------------------------------------------------------------------------------------------------------

-- What lies behind the first pair, as the code lends it on.
abbrev pub behind : List ℕ → List ℕ
behind q = take (length q - 2) (drop 2 q)

abbrev pub front : List ℕ → Pair
front q = record { kind = get_or q 0 0; value = get_or q 1 0 }

take_all : (n : ℕ) (r : List ℕ) → n ≡ length r → take n r ≡ r
take_all n r e = rw e (go r)
  where
    go : (r : List ℕ) → take (length r) r ≡ r
    go [] = refl
    go (a ∷ r) = rw (go r)

pairs_next : (q : List ℕ) → 2 ≤ length q → pairs_in q ≡ front q ∷ pairs_in (behind q)
pairs_next [] h = absurd (omega arith)
pairs_next (a ∷ []) h = absurd (omega arith)
pairs_next (a ∷ b ∷ r) h = ap (λ (l : List ℕ). record { kind = a; value = b } ∷ pairs_in l) (sym (take_all (length (a ∷ b ∷ r) - 2) r (omega arith)))

pairs_end : (q : List ℕ) → length q < 2 → pairs_in q ≡ []
pairs_end [] h = refl
pairs_end (a ∷ []) h = refl
pairs_end (a ∷ b ∷ r) h = absurd (omega arith)

-- one turn of the loop ------------------------------------------------------------------------------------------

-- What is known between turns: no wrong type so far, and what was met and what is left make all of it.
pub record Passing (all left : List Pair) (v m : Option ℕ) : Type 0 where
  pub right : wrong_pairs left ≡ wrong_pairs all
  pub encaps : least v (smallest_of left max_h_encaps) ≡ smallest_of all max_h_encaps
  pub segments : least m (smallest_of left max_segments_left) ≡ smallest_of all max_segments_left

pub passing_start : (ps : List Pair) → Passing ps ps None None
passing_start ps = record { right = refl; encaps = refl; segments = refl }

module _ {all : List Pair} (q : List ℕ) {v m : Option ℕ} (s : Passing all (pairs_in q) v m) (h : 2 ≤ length q) where
  before_encaps : least v (with_pair (front q) (smallest_of (pairs_in (behind q)) max_h_encaps) max_h_encaps) ≡ smallest_of all max_h_encaps
  before_encaps = rw (pairs_next q h) at s.encaps

  before_left : least m (with_pair (front q) (smallest_of (pairs_in (behind q)) max_segments_left) max_segments_left) ≡ smallest_of all max_segments_left
  before_left = rw (pairs_next q h) at s.segments

  -- A pair of a known type, and what it makes of the two values.
  pub passing_next : {a b : Option ℕ} → known_msd (front q).kind ≡ true → a ≡ with_pair (front q) v max_h_encaps → b ≡ with_pair (front q) m max_segments_left
      → Passing all (pairs_in (behind q)) a b
  passing_next k e f = record {
    right = sym (rw (pairs_next q h, k)) ∙ s.right;
    encaps = rw e (least_with max_h_encaps (front q) v _ ∙ before_encaps);
    segments = rw f (least_with max_segments_left (front q) m _ ∙ before_left);
  }

  -- A type that is none of the four.
  pub passing_wrong : known_msd (front q).kind ≡ false → wrong_pairs all ≡ true
  passing_wrong k = sym s.right ∙ rw (pairs_next q h, k)

-- The end of the pass.
pub gathered_wrong : (ps : List Pair) → wrong_pairs ps ≡ true → None ≡ gathered_of ps
gathered_wrong ps e = rw e

module _ {all : List Pair} (q : List ℕ) {v m : Option ℕ} (s : Passing all (pairs_in q) v m) (h : length q < 2) where
  pub passed_right : wrong_pairs all ≡ false
  passed_right = sym s.right ∙ ap wrong_pairs (pairs_end q h)

  pub passed_stands : Stands all v m
  passed_stands = (sym (least_none v) ∙ sym (rw (pairs_end q h)) ∙ s.encaps, sym (least_none m) ∙ sym (rw (pairs_end q h)) ∙ s.segments)

  pub passed : Some (record { encaps = v; left = m }) ≡ gathered_of all
  passed = rw (passed_right, ← passed_stands.0, ← passed_stands.1)

-- Any two answers that fit the contract of `gather` are equal ----------------------------------------------------

pub gather_determined : (p : List ℕ) {x y : Option Depths} → x ≡ gathered_of (pairs_in p) → y ≡ gathered_of (pairs_in p) → x ≡ y
gather_determined p = determined
