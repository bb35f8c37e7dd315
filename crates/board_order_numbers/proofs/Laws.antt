-- The laws of the buckets. A walk of a key's bucket meets every place below that has its hash, so it meets the key if that came before (`Walking`); one place more
-- keeps the buckets (`joined`). Assumes nothing.
use Rattle.std.proofs.Common.{◌≡◌, ℕ, ◌+◌, ◌-◌, ◌<◌, ◌≤◌, Bool, true, false, not, ◌&&◌, eqb, List}
use Rattle.std.proofs.Common.{length, get_or, set, replicate, sym, ap, ◌∙◌, subst, ⊎_elim, add-sub_cancel, arith, length-set, eq-eqb, ne_eqb}
use lib.ListN.{length-replicate}
use borrow.Author.Tests.{not-true, not-false}
use Rattle.octets.proofs.Said.{and_false}
use Rattle.board_record.specs.Proper.{fresh_b}
use Rattle.board_record.proofs.Logic.{same?, from?, at_set}
use Rattle.board_record.proofs.All.{all_fails, all_of}
use Rattle.board_record.specs.Sizes.{places}
use Rattle.board_record.specs.Order.{place_on}
use Rattle.board_record.proofs.Lists.{zeros, row_at}
use Rattle.board_order_numbers.specs.Buckets.{along, slot_of, Node, Heads, Links, Walking}

-- ---- the keys along an order
pub along_at : (keys order : List ℕ) (j : ℕ) → j < places → get_or (along keys order) j 0 ≡ get_or keys (place_on order j) 0
unfolding along
along_at keys order j l = row_at (λ k. get_or keys (place_on order k) 0) 128 j l

-- ---- the walk of one bucket
pub walk_starts : (xs hs : List ℕ) (i k : ℕ) → Heads xs hs i → (k ≡ 0 → ⊥) → Walking xs i k (get_or hs (slot_of k) 0)
walk_starts xs hs i k h u =
    record {
      used = u;
      low = h.low (slot_of k);
      node = h.node (slot_of k);
      past = λ j l m e. let q : j < get_or hs (slot_of k) 0 = rw e at (h.all j l (λ z. u (sym e ∙ z))) in omega arith;
    }

pub walk_on : (xs ns : List ℕ) (i k p : ℕ) → Links xs ns i → Walking xs i k p → (p ≡ 0 → ⊥) → (get_or xs (p - 1) 0 ≡ k → ⊥) → Walking xs i k (get_or ns (p - 1) 0)
walk_on xs ns i k p n w z d =
    let o : Node xs (slot_of k) (p - 1) = w.node (omega arith) in
    let b : get_or ns (p - 1) 0 ≤ p - 1 = n.low (p - 1) in
    let g : p ≤ i = w.low in
    record {
      used = w.used;
      low = omega arith;
      node = λ q. rw o.slotted at (n.node (p - 1) (omega arith) o.used q);
      past = λ j l m e.
          ⊎_elim (λ t. d (ap (λ (y : ℕ). get_or xs y 0) (sym t) ∙ e))
          (λ t. ⊎_elim (λ s. w.past j l s e)
          (λ s. let q : j < get_or ns (p - 1) 0 = n.all (p - 1) j (omega arith) (omega (arith, t, s)) o.used (λ y. w.used (sym e ∙ y)) (ap slot_of e ∙ sym o.slotted) in omega arith)
          (from? p j))
          (same? j (p - 1));
    }

pub walk_hit : (xs : List ℕ) (i k p : ℕ) → Walking xs i k p → (p ≡ 0 → ⊥) → get_or xs (p - 1) 0 ≡ k → false ≡ fresh_b xs i k
unfolding fresh_b
walk_hit xs i k p w z e = let g : p ≤ i = w.low in sym (all_fails (λ j. not (eqb (get_or xs j 0) k)) i (p - 1) (omega arith) (rw (eq-eqb (get_or xs (p - 1) 0) k e)))

pub walk_ends : (xs : List ℕ) (i k p : ℕ) → Walking xs i k p → p ≡ 0 → true ≡ fresh_b xs i k
unfolding fresh_b
walk_ends xs i k p w z = sym (all_of (λ j. not (eqb (get_or xs j 0) k)) i (λ j l. rw (ne_eqb (get_or xs j 0) k (w.past j l (omega arith)))))

-- ---- one place more
pub bucket_heads : (xs hs : List ℕ) (i : ℕ) → Heads xs hs i → (get_or xs i 0 ≡ 0 → ⊥) → slot_of (get_or xs i 0) < 1024 → Heads xs (set hs (slot_of (get_or xs i 0)) (i + 1)) (i + 1)
bucket_heads xs hs i h u b =
    let s = slot_of (get_or xs i 0) in
    let r : s < length hs = omega (arith, h.size) in
    record {
      size = length-set hs s (i + 1) ∙ h.size;
      low = λ g. at_set (λ y. y ≤ i + 1) hs s g (i + 1) r (λ e. omega arith) (λ d. omega (arith, h.low g));
      node = λ g. at_set (λ y. 0 < y → Node xs g (y - 1)) hs s g (i + 1) r (λ e q. rw (add-sub_cancel i 1) (record { slotted = sym e; used = u })) (λ d. h.node g);
      all = λ j l v. at_set (λ y. j < y) hs s (slot_of (get_or xs j 0)) (i + 1) r (λ e. omega arith)
          (λ d. h.all j (⊎_elim (λ e. absurd (d (ap (λ (y : ℕ). slot_of (get_or xs y 0)) e))) (λ e. omega (arith, e)) (same? j i)) v);
    }

pub bucket_links : (xs hs ns : List ℕ) (i : ℕ) → Heads xs hs i → Links xs ns i → i < 128 → (get_or xs i 0 ≡ 0 → ⊥) → Links xs (set ns i (get_or hs (slot_of (get_or xs i 0)) 0)) (i + 1)
bucket_links xs hs ns i h n l u =
    let s = slot_of (get_or xs i 0) in
    let a = get_or hs s 0 in
    let r : i < length ns = omega (arith, n.size) in
    record {
      size = length-set ns i a ∙ n.size;
      low = λ x. at_set (λ y. y ≤ x) ns i x a r (λ e. omega (arith, h.low s)) (λ d. n.low x);
      node = λ x m v. at_set (λ y. 0 < y → Node xs (slot_of (get_or xs x 0)) (y - 1)) ns i x a r
          (λ e q. subst (λ (y : ℕ). Node xs (slot_of (get_or xs y 0)) (a - 1)) (sym e) (h.node s q)) (λ d. n.node x (omega (arith, d)) v);
      all = λ x j m o v w e. at_set (λ y. j < y) ns i x a r
          (λ q. rw (e ∙ ap (λ (y : ℕ). slot_of (get_or xs y 0)) q) at (h.all j (omega arith) w)) (λ d. n.all x j (omega (arith, d)) o v w e);
    }

pub no_heads : (xs : List ℕ) → Heads xs (replicate 1024 0) 0
no_heads xs =
    record { size = length-replicate {A = ℕ} 1024 0; low = λ g. omega (arith, zeros 1024 g); node = λ g q. absurd (omega (arith, zeros 1024 g)); all = λ j l v. absurd (omega arith) }

pub no_links : (xs : List ℕ) → Links xs (replicate 128 0) 0
no_links xs =
    record { size = length-replicate {A = ℕ} 128 0; low = λ x. omega (arith, zeros 128 x); node = λ x m v q. absurd (omega arith); all = λ x j m o v w e. absurd (omega arith) }

-- ---- as the code goes
pub walk_from : (xs hs : List ℕ) (i k w h p : ℕ) → Heads xs hs i → (k ≡ 0 → ⊥) → w ≡ k → h ≡ slot_of w → p ≡ get_or hs h 0 → Walking xs i k p
walk_from xs hs i k w h p c u g e q = rw (q, e, g) (walk_starts xs hs i k c u)

pub joined : (xs hs ns : List ℕ) (i k w h : ℕ) → Heads xs hs i → Links xs ns i → i < 128 → k ≡ get_or xs i 0 → (k ≡ 0 → ⊥) → w ≡ k → h ≡ slot_of w → h < 1024
    → Heads xs (set hs h (i + 1)) (i + 1) × Links xs (set ns i (get_or hs h 0)) (i + 1)
joined xs hs ns i k w h c n l e u g o b =
    let q : h ≡ slot_of (get_or xs i 0) = o ∙ ap slot_of (g ∙ e) in
    let v : get_or xs i 0 ≡ 0 → ⊥ = λ z. u (e ∙ z) in
    rw q (bucket_heads xs hs i c v (rw q at b), bucket_links xs hs ns i c n l v)

-- the answer: k is a key, and none of those before it
pub no_key : (k : ℕ) (f : Bool) → k ≡ 0 → false ≡ (not (eqb k 0) && f)
no_key k f z = rw (eq-eqb k 0 z)

pub key_before : (k : ℕ) (f r : Bool) → r ≡ f → not r ≡ true → false ≡ (not (eqb k 0) && f)
key_before k f r e n = rw (← e, not-true r n) (sym (and_false (not (eqb k 0))))

pub key_new : (k : ℕ) (f r : Bool) → (k ≡ 0 → ⊥) → r ≡ f → not r ≡ false → true ≡ (not (eqb k 0) && f)
key_new k f r u e n = rw (← e, not-false r n, ne_eqb k 0 u)
