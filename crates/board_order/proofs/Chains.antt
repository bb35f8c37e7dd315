-- A table has one chain, and a table whose versions are distinct has the one of `order_of`. Of two chains the numbers are equal one after the other (`same_order`): the
-- first place on which they differ would stand later on the other one, behind a place of higher version. That `order_of` is chained needs that each number below the count of
-- used places is the number of older changes of one of them (`ranked`): no two share it, and as many are hit as places are used. Assumes nothing.
use Prim.Native.Nat.{ℕ, zero, suc, ◌<◌, ◌≤◌}
use native.Mathlib.Omega.{arith}
use mathlib.Core.Path.{◌≡◌, refl, sym, ap, ◌∙◌, subst}
use mathlib.Core.Bool.{Bool, true, false, ◌&&◌}
use mathlib.Core.List.{List}
use mathlib.Core.Logic.{⊎_elim}
use lib.ListN.{get_or, length}
use lib.Seq.{ext_get_or}
use lib.Dec.{eqb, ltb}
use borrow.Author.Tests.{eq-eqb, eqb-true, lt-ltb, le-ltb, ltb-true}
use borrow.Author.Count.{below_more}
use Rattle.board_record.specs.Sizes.{places}
use Rattle.board_record.specs.Lists.{row, count_below}
use Rattle.board_record.specs.Table.{Table, version_at, Used, used_b}
use Rattle.board_record.specs.Search.{first_where}
use Rattle.board_record.specs.Proper.{Proper}
use Rattle.board_record.specs.Order.{named, place_on, OnOrder, Chained, older_of, place_at, order_number, order_of, in_order}
use Rattle.octets.proofs.Said.{both_true, and_false}
use Rattle.board_record.proofs.Logic.{true≢false, same?, from?}
use Rattle.board_order.proofs.Names.{named_number, none_number, same_number}
use Rattle.board_record.proofs.Lists.{length_row, row_at, count_missed, count_less, count_most, Hit, hits, hits_where, count_hits}
use Rattle.board_record.proofs.All.{all_at, all_of}
use Rattle.board_record.proofs.Search.{IsFirst, nobody, this, first_is, first_hit, used_is, is_used}

-- ---- of two used places the versions tell which is which
abbrev pub VersionsApart : Table → Type 0
VersionsApart b = (p q : ℕ) → p < places → q < places → Used b p → Used b q → version_at b p ≡ version_at b q → p ≡ q

pub proper_apart : (b : Table) → Proper b → VersionsApart b
proper_apart b p i j l m u v e = p.versions_distinct i j l m u e

-- ---- a chain has each place once
module _ (b : Table) (r : List ℕ) (x : Chained b r) where
  -- two numbers of it that are one place are one number
  pub once : (i j : ℕ) → i < places → j < places → place_on r i < places → place_on r i ≡ place_on r j → i ≡ j
  once i j l m h e =
      ⊎_elim (λ k. ⊎_elim (λ y. y) (λ d. absurd (less i j (omega (arith, d)) m (omega arith) e)) (same? i j))
      (λ k. absurd (less j i k l h (sym e))) (from? i j)
    where
      less : (a c : ℕ) → a < c → c < places → place_on r c < places → place_on r a ≡ place_on r c → ⊥
      less a c k n g q = omega (arith, (x.rises a c k n g).1, ap (version_at b) q)

  pub chain_apart : VersionsApart b
  chain_apart p q l m u v e = ⊎_elim (λ k. ⊎_elim here (λ d. absurd (less p q (x.all p l u) (x.all q m v) (omega (arith, d)) m e)) (same? (x.all p l u).at (x.all q m v).at))
      (λ k. absurd (less q p (x.all q m v) (x.all p l u) k l (sym e))) (from? (x.all p l u).at (x.all q m v).at)
    where
      here : (x.all p l u).at ≡ (x.all q m v).at → p ≡ q
      here z = sym (x.all p l u).is ∙ ap (λ (k : ℕ). place_on r k) z ∙ (x.all q m v).is

      less : (a c : ℕ) (o : OnOrder r a) (n : OnOrder r c) → o.at < n.at → c < places → version_at b a ≡ version_at b c → ⊥
      less a c o n k g z =
          omega (arith, (x.rises o.at n.at k n.here (omega (arith, n.is))).1, ap (version_at b) o.is, ap (version_at b) n.is, z)

-- ---- two chains of a table are one
half : (b : Table) (r s : List ℕ) → Chained b r → Chained b s → (i : ℕ) → i < places → ((j : ℕ) → j < i → place_on r j ≡ place_on s j) → place_on r i < places
    → (place_on s i < places) × (version_at b (place_on s i) ≤ version_at b (place_on r i))
half b r s x y i l f h =
    let o = y.all (place_on r i) h (x.used i l h) in
    ⊎_elim
    (λ k. ⊎_elim (λ e. let q : place_on s i ≡ place_on r i = ap (λ (n : ℕ). place_on s n) e ∙ o.is in (omega arith, omega (arith, ap (version_at b) q)))
    (λ d. let g = y.rises i o.at (omega (arith, d)) o.here (omega (arith, o.is)) in (g.0, omega (arith, g.1, ap (version_at b) o.is))) (same? i o.at))
    (λ k. absurd (omega (arith, once b r x o.at i (omega arith) l (omega (arith, f o.at k, o.is)) (f o.at k ∙ o.is))))
    (from? i o.at)

next_same : (b : Table) (r s : List ℕ) → Chained b r → Chained b s → (i : ℕ) → i < places → ((j : ℕ) → j < i → place_on r j ≡ place_on s j) → place_on r i ≡ place_on s i
next_same b r s x y i l f = ⊎_elim none some (from? places (place_on r i))
  where
    none : places ≤ place_on r i → place_on r i ≡ place_on s i
    none h =
        ⊎_elim (λ g. ap named (x.rest i l h ∙ sym (y.rest i l g))) (λ g. absurd (omega (arith, (half b s r y x i l (λ j k. sym (f j k)) g).0)))
        (from? places (place_on s i))

    some : place_on r i < places → place_on r i ≡ place_on s i
    some h =
        let p = half b r s x y i l f h in
        let q = half b s r y x i l (λ j k. sym (f j k)) p.0 in
        chain_apart b r x (place_on r i) (place_on s i) h p.0 (x.used i l h) (y.used i l p.0) (omega (arith, p.1, q.1))

pub same_order : (b : Table) (r s : List ℕ) → Chained b r → Chained b s → (n : ℕ) → n ≤ places → (i : ℕ) → i < n → place_on r i ≡ place_on s i
same_order b r s x y zero l i k = absurd (omega arith)
same_order b r s x y (suc n) l i k =
    let f = same_order b r s x y n (omega arith) in
    below_more (λ j. place_on r j ≡ place_on s j) n f (next_same b r s x y n (omega arith) f) i (omega arith)

pub one_chain : (b : Table) (r s : List ℕ) → length r ≡ places → length s ≡ places → Chained b r → Chained b s → r ≡ s
one_chain b r s m n x y =
    ext_get_or 0 r s (m ∙ sym n)
    (λ i l. same_number (get_or r i 0) (get_or s i 0) (same_order b r s x y 128 (omega arith) i (omega arith)) (x.rest i (omega arith)) (y.rest i (omega arith)))

-- an order of the same numbers is a chain too
pub chained_as : (b : Table) (r s : List ℕ) → ((i : ℕ) → i < places → get_or s i 0 ≡ get_or r i 0) → Chained b r → Chained b s
chained_as b r s g x =
    let f : (i : ℕ) → i < places → place_on s i ≡ place_on r i = λ i l. ap named (g i l) in
    record {
      used = λ i l h. subst (Used b) (sym (f i l)) (x.used i l (omega (arith, f i l)));
      all = λ p l u. let o = x.all p l u in record { at = o.at; here = o.here; is = f o.at o.here ∙ o.is };
      rises = λ i j k l h.
          let y = x.rises i j k l (omega (arith, f j l)) in
          let e = f i (omega arith) in (omega (arith, y.0), omega (arith, y.1, ap (version_at b) e, ap (version_at b) (f j l)));
      rest = λ i l h. g i l ∙ x.rest i l (omega (arith, f i l));
    }

-- ---- the order of a table whose versions are distinct
module _ (b : Table) where
  -- among the used places, those older than p
  abbrev older? : ℕ → ℕ → Bool
  older? p q = used_b b q && ltb (version_at b q) (version_at b p)

  older_not : (p : ℕ) → older? p p ≡ false
  older_not p = rw (le-ltb (version_at b p) (version_at b p) (omega arith)) (and_false (used_b b p))

  older_is : (p q : ℕ) → older? p q ≡ true → (used_b b q ≡ true) × (version_at b q < version_at b p)
  older_is p q e = let t = both_true (used_b b q) (ltb (version_at b q) (version_at b p)) e in (t.0, ltb-true (version_at b q) (version_at b p) t.1)

  is_older : (p q : ℕ) → Used b q → version_at b q < version_at b p → older? p q ≡ true
  is_older p q u l = rw (is_used b q u, lt-ltb (version_at b q) (version_at b p) l)

  pub older_less : (p q : ℕ) → p < places → Used b p → version_at b p < version_at b q → older_of b p < older_of b q
  unfolding older_of
  older_less p q l u h =
      count_missed (older? p) (older? q) 128 p l (older_not p) (is_older q p u h)
      (λ j m e. let t = older_is p j e in is_older q j (used_is b j t.0) (omega (arith, t.1)))

  older_most : (p : ℕ) → p < places → Used b p → older_of b p < count_below (used_b b) places
  unfolding older_of
  older_most p l u = count_missed (older? p) (used_b b) 128 p l (older_not p) (is_used b p u) (λ j m e. (older_is p j e).0)

  -- what the search for a number of the order ends at
  at_hit : (i : ℕ) → place_at b i < places → Used b (place_at b i) × (older_of b (place_at b i) ≡ i)
  unfolding place_at
  at_hit i l =
      let p = first_where (λ q. used_b b q && eqb (older_of b q) i) 128 in
      let t = both_true (used_b b p) (eqb (older_of b p) i) (first_hit (λ q. used_b b q && eqb (older_of b q) i) 128 l) in
      (used_is b p t.0, eqb-true (older_of b p) i t.1)

  at_most : (i : ℕ) → place_at b i ≤ places
  unfolding place_at
  at_most i = go (first_where (λ q. used_b b q && eqb (older_of b q) i) 128) (first_is (λ q. used_b b q && eqb (older_of b q) i) 128)
    where
      go : (n : ℕ) → IsFirst (λ q. used_b b q && eqb (older_of b q) i) 128 n → n ≤ 128
      go n (nobody e f) = omega arith
      go n (this u e f) = omega arith

  at_here : (i p : ℕ) → p < places → Used b p → older_of b p ≡ i → place_at b i < places
  unfolding place_at
  at_here i p l u e = go (first_where (λ q. used_b b q && eqb (older_of b q) i) 128) (first_is (λ q. used_b b q && eqb (older_of b q) i) 128)
    where
      go : (n : ℕ) → IsFirst (λ q. used_b b q && eqb (older_of b q) i) 128 n → n < 128
      go n (nobody z f) = absurd (true≢false (sym (rw (is_used b p u, eq-eqb (older_of b p) i e)) ∙ f p l))
      go n (this v z f) = v

  module _ (apart : VersionsApart b) where
    older_one : (p q : ℕ) → p < places → q < places → Used b p → Used b q → older_of b p ≡ older_of b q → p ≡ q
    older_one p q l m u v e =
        ⊎_elim
        (λ k. ⊎_elim (apart p q l m u v) (λ d. absurd (omega (arith, older_less p q l u (omega (arith, d))))) (same? (version_at b p) (version_at b q)))
        (λ k. absurd (omega (arith, older_less q p m v k))) (from? (version_at b p) (version_at b q))

    -- each number below the count of used places is the number of older changes of one of them
    ranked : (i : ℕ) → i < count_below (used_b b) places → Hit (used_b b) (older_of b) places i
    ranked i l = go (hits (used_b b) (older_of b) 128 i) refl
      where
        all_hit : count_below (hits (used_b b) (older_of b) 128) (count_below (used_b b) 128) ≡ count_below (used_b b) 128
        all_hit =
            count_hits (used_b b) (older_of b) 128 (count_below (used_b b) 128) (λ j m e. older_most j m (used_is b j e))
            (λ p q m n e f. older_one p q m n (used_is b p e) (used_is b q f))

        go : (t : Bool) → hits (used_b b) (older_of b) 128 i ≡ t → Hit (used_b b) (older_of b) 128 i
        go true e = hits_where (used_b b) (older_of b) 128 i e
        go false e = absurd (omega (arith, count_less (hits (used_b b) (older_of b) 128) (count_below (used_b b) 128) i l e, all_hit))

    placed : (p : ℕ) → p < places → Used b p → place_at b (older_of b p) ≡ p
    placed p l u =
        let h = at_here (older_of b p) p l u refl in
        let t = at_hit (older_of b p) h in
        older_one (place_at b (older_of b p)) p h l t.0 u t.1

    pub order_chained : Chained b (order_of b)
    unfolding order_of
    order_chained = chain
      where
        numbers : List ℕ
        numbers = row (λ i. order_number (place_at b i)) 128

        raw : (i : ℕ) → i < 128 → get_or numbers i 0 ≡ order_number (place_at b i)
        raw i l = row_at (λ j. order_number (place_at b j)) 128 i l

        at : (i : ℕ) → i < 128 → place_on numbers i ≡ place_at b i
        at i l = ap named (raw i l) ∙ named_number (place_at b i) (at_most i)

        rises : (i j : ℕ) → i < j → j < 128 → place_at b j < 128 → (place_at b i < 128) × (version_at b (place_at b i) < version_at b (place_at b j))
        rises i j k l h =
            let t = at_hit j h in
            let m = older_most (place_at b j) h t.0 in
            let r = ranked i (omega (arith, t.1)) in
            let g = at_here i r.at r.here (used_is b r.at r.passes) r.is in
            let q = at_hit i g in (
              g,
              ⊎_elim (λ z. absurd (lower (place_at b j) (place_at b i) h g t.0 q.0 z (omega (arith, t.1, q.1)))) (λ z. z)
                  (from? (version_at b (place_at b j)) (version_at b (place_at b i))),
            )
          where
            lower : (p q : ℕ) → p < 128 → q < 128 → Used b p → Used b q → version_at b p ≤ version_at b q → older_of b q < older_of b p → ⊥
            lower p q m n u v z y =
                ⊎_elim (λ e. omega (arith, y, ap (older_of b) (apart p q m n u v e))) (λ d. omega (arith, y, older_less p q m u (omega (arith, d)))) (same? (version_at b p) (version_at b q))

        chain : Chained b numbers
        chain =
            record {
              used = λ i l h. subst (Used b) (sym (at i l)) (at_hit i (omega (arith, at i l))).0;
              all = λ p l u.
                  let z : older_of b p < 128 = omega (arith, older_most p l u, count_most (used_b b) 128) in
                  record { at = older_of b p; here = z; is = at (older_of b p) z ∙ placed p l u };
              rises = λ i j k l h.
                  let e = at i (omega arith) in
                  let f = at j l in
                  let g = rises i j k l (omega (arith, f)) in (omega (arith, g.0), omega (arith, g.1, ap (version_at b) e, ap (version_at b) f));
              rest = λ i l h. raw i l ∙ none_number (place_at b i) (omega (arith, at i l));
            }

-- ---- the test
pub order_long : (b : Table) → length (order_of b) ≡ places
unfolding order_of
order_long b = length_row (λ i. order_number (place_at b i)) 128

pub order_at : (b : Table) (i : ℕ) → i < places → get_or (order_of b) i 0 ≡ order_number (place_at b i)
unfolding order_of
order_at b i l = row_at (λ j. order_number (place_at b j)) 128 i l

on_order : (b : Table) (i : ℕ) → i < places → place_on (order_of b) i ≡ place_at b i
on_order b i l = ap named (order_at b i l) ∙ named_number (place_at b i) (at_most b i)

-- a chain is the order of its table
pub order_is : (b : Table) (order : List ℕ) → length order ≡ places → Chained b order → order ≡ order_of b
order_is b order n x = one_chain b order (order_of b) n (order_long b) x (order_chained b (chain_apart b order x))

pub chained_in : (b : Table) (order : List ℕ) → Chained b order → in_order b order ≡ true
unfolding in_order
chained_in b order x =
    let y = order_chained b (chain_apart b order x) in
    all_of (λ i. eqb (get_or order i 0) (order_number (place_at b i))) 128
    (λ i l. eq-eqb (get_or order i 0) (order_number (place_at b i))
    (same_number (get_or order i 0) (get_or (order_of b) i 0) (same_order b order (order_of b) x y 128 (omega arith) i l) (x.rest i l) (y.rest i l) ∙ order_at b i l))

-- and the order of a table whose versions are distinct is a chain
pub in_chained : (b : Table) (order : List ℕ) → VersionsApart b → in_order b order ≡ true → Chained b order
unfolding in_order
in_chained b order apart e =
    chained_as b (order_of b) order
    (λ i l. eqb-true (get_or order i 0) (order_number (place_at b i)) (all_at (λ j. eqb (get_or order j 0) (order_number (place_at b j))) 128 e i l) ∙ sym (order_at b i l))
    (order_chained b apart)

pub in_order_lem : (b : Table) → VersionsApart b → in_order b (order_of b) ≡ true
in_order_lem b apart = chained_in b (order_of b) (order_chained b apart)

pub in_order_is : (b : Table) (order : List ℕ) → length order ≡ places → in_order b order ≡ true → order ≡ order_of b
unfolding in_order
in_order_is b order n e =
    ext_get_or 0 order (order_of b) (n ∙ sym (order_long b))
    (λ i l. eqb-true (get_or order i 0) (order_number (place_at b i)) (all_at (λ j. eqb (get_or order j 0) (order_number (place_at b j))) 128 e i (omega arith)) ∙ sym (order_at b i (omega arith)))

-- a chain has as many places as the table has used ones
pub chained_count : (b : Table) (order : List ℕ) → Chained b order → (i : ℕ) → i < count_below (used_b b) places → place_on order i < places
chained_count b order x i l =
    let apart = chain_apart b order x in
    let h = ranked b apart i l in
    let m : i < 128 = omega (arith, count_most (used_b b) 128) in
    let g = at_here b i h.at h.here (used_is b h.at h.passes) h.is in
    omega (arith, same_order b order (order_of b) x (order_chained b apart) 128 (omega arith) i m ∙ on_order b i m)

pub count_chained : (b : Table) (order : List ℕ) → Chained b order → (i : ℕ) → i < places → place_on order i < places → i < count_below (used_b b) places
count_chained b order x i l h =
    let e = same_order b order (order_of b) x (order_chained b (chain_apart b order x)) 128 (omega arith) i l ∙ on_order b i l in
    let t = at_hit b i (omega (arith, e)) in
    omega (arith, older_most b (place_at b i) (omega (arith, e)) t.0, t.1)
