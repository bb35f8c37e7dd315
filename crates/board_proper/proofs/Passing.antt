-- The pass. So far the numbers of the order name used places, each sound under its own version, of rising version and distinct keys (`Along`). A number that
-- breaks this shows that the record is not proper, by what a proper table and its chain have (`refuted`). Where the pass ends, the places named and the empty ones
-- are all there are (`Seen`), and then table and order are sound. Assumes nothing.
use Prim.Native.Nat.{ℕ, zero, suc, ◌+◌, ◌-◌, ◌<◌, ◌≤◌}
use native.Mathlib.Omega.{arith}
use mathlib.Core.Path.{◌≡◌, refl, sym, ap, ◌∙◌, subst}
use mathlib.Core.Bool.{Bool, true, false, not, ◌&&◌}
use mathlib.Core.List.{List}
use mathlib.Core.Logic.{⊎_elim}
use lib.ListN.{get_or}
use lib.Dec.{eqb, leb}
use borrow.Author.Tests.{eq-eqb, ne_eqb, eqb-true, eqb-false, le-leb, lt-leb, leb-true, not-true}
use Rattle.board_record.specs.Sizes.{places, key_most, version_most}
use Rattle.board_record.specs.Lists.{count_below}
use Rattle.board_record.specs.Table.{Table, key_at, version_at, length_at, form_at, entry_at, Used, used_b}
use Rattle.board_record.specs.Proper.{Proper, all_below, fresh_b, new_b, proper_b}
use Rattle.board_record.specs.Order.{place_on, Chained, in_order}
use Rattle.octets.proofs.Said.{both_true, said_yes}
use Rattle.board_record.proofs.Logic.{true≢false, same?, from?}
use Rattle.board_record.proofs.Lists.{count_same, count_full, count_less, count_equal, count_not, Hit, hits, hits_where, count_hits}
use Rattle.board_record.proofs.All.{all_at, all_of}
use Rattle.board_record.proofs.Proper.{storable_is, is_storable, Sound, sound_none, sound_below, proper_sound, sound_proper, proper_is, is_proper}
use Rattle.board_order.proofs.Names.{named_none}
use Rattle.board_order.proofs.Chains.{proper_apart, once, chain_apart, chained_in, in_chained, chained_count, count_chained}
use Rattle.board_order_numbers.specs.Buckets.{along}
use Rattle.board_order_numbers.specs.Numbers.{late_b}
use Rattle.board_fits.specs.Fits.{body_b}
use Rattle.board_unnamed.specs.Rest.{empty_b}
use Rattle.board_order_numbers.proofs.Laws.{along_at}
use Rattle.board_extent.proofs.Loops.{cut_count}
use Rattle.board_proper.proofs.Rising.{Risen, risen_none, risen_more, risen_once, Bounded, not_late}

-- ---- a used place by itself, under its own version: what all places have, and what is found at one of them
pub sound_found : (b : Table) (r s : Bool) → r ≡ all_below (λ i. body_b (length_at b i) (form_at b i)) places → not r ≡ false
    → s ≡ all_below (λ i. leb (key_at b i) key_most) places → not s ≡ false → (x last : ℕ) → x < places → Used b x → last < version_at b x
    → (length_at b x ≡ 0 → b.floor < version_at b x) → Sound (entry_at b x) (version_at b x) b.floor
unfolding body_b
sound_found b r s e n f m x last l u a k =
    record {
      none = λ z. absurd (u z);
      key = leb-true (key_at b x) key_most (all_at (λ i. leb (key_at b i) key_most) 128 (said_yes s _ f m) x l);
      low = λ z. omega arith;
      high = omega arith;
      mark = λ z w. k w;
      size = storable_is (length_at b x) (form_at b x) (all_at (λ i. body_b (length_at b i) (form_at b i)) 128 (said_yes r _ e n) x l);
    }

sound_body : (b : Table) (i version : ℕ) → Sound (entry_at b i) version b.floor → body_b (length_at b i) (form_at b i) ≡ true
unfolding body_b
sound_body b i version s = is_storable (length_at b i) (form_at b i) s.size

-- ---- the pass along the order of a record
module _ (b : Table) (order : List ℕ) where
  pub record Along (i last : ℕ) : Type 0 where
    pub risen : Risen b.versions order i last
    pub used : (j : ℕ) → j < i → Used b (place_on order j)
    pub sound : (j : ℕ) → j < i → Sound (entry_at b (place_on order j)) (version_at b (place_on order j)) b.floor

  pub along_none : Along 0 0
  along_none = record { risen = risen_none b.versions order; used = λ j l. absurd (omega arith); sound = λ j l. absurd (omega arith) }

  pub along_more : (i last x v : ℕ) → Along i last → x ≡ place_on order i → x < places → v ≡ version_at b x → last < v → Used b x → Sound (entry_at b x) (version_at b x) b.floor
      → Along (i + 1) v
  along_more i last x v a e l f h u w =
      record {
        risen = risen_more b.versions order i last x v a.risen e l f h;
        used = λ j k. ⊎_elim (λ z. subst (Used b) (e ∙ ap (place_on order) (sym z)) u) (λ d. a.used j (omega (arith, d))) (same? j i);
        sound = λ j k.
            ⊎_elim (λ z. subst (λ (p : ℕ). Sound (entry_at b p) (version_at b p) b.floor) (e ∙ ap (place_on order) (sym z)) w) (λ d. a.sound j (omega (arith, d))) (same? j i);
      }

  -- what stops the pass
  refuted : (Proper b → Chained b order → ⊥) → false ≡ (proper_b b && in_order b order)
  refuted f = go (proper_b b && in_order b order) refl
    where
      go : (t : Bool) → (proper_b b && in_order b order) ≡ t → false ≡ (proper_b b && in_order b order)
      go true e =
          let t = both_true (proper_b b) (in_order b order) e in
          let p = proper_is b t.0 in
          absurd (f p (in_chained b order (proper_apart b p) t.1))
      go false e = sym e

  pub stop_floor : b.version < b.floor → false ≡ (proper_b b && in_order b order)
  stop_floor l = refuted (λ p x. omega (arith, p.floor_in))

  pub stop_version : version_most < b.version → false ≡ (proper_b b && in_order b order)
  stop_version l = refuted (λ p x. omega (arith, p.version_in))

  pub stop_bodies : (r : Bool) → r ≡ all_below (λ i. body_b (length_at b i) (form_at b i)) places → not r ≡ true → false ≡ (proper_b b && in_order b order)
  stop_bodies r f n =
      refuted (λ p c. true≢false (sym (all_of (λ i. body_b (length_at b i) (form_at b i)) 128 (λ j k. sound_body b j b.version (proper_sound b p j k)))
      ∙ sym f ∙ not-true r n))

  pub stop_low : (r : Bool) → r ≡ all_below (λ i. leb (key_at b i) key_most) places → not r ≡ true → false ≡ (proper_b b && in_order b order)
  stop_low r f n =
      refuted (λ p c. true≢false (sym (all_of (λ i. leb (key_at b i) key_most) 128 (λ j k. le-leb (key_at b j) key_most (proper_sound b p j k).key)) ∙ sym f ∙ not-true r n))

  stop_rising : (i last x v : ℕ) → i < places → Along i last → x ≡ place_on order i → x < places → v ≡ version_at b x → v ≤ last → false ≡ (proper_b b && in_order b order)
  stop_rising zero last x v l a e h f g =
      refuted (λ p c. omega (arith, a.risen.first refl, p.least_version (place_on order 0) (omega arith) (c.used 0 l (omega arith)), ap (version_at b) e))
  stop_rising (suc j) last x v l a e h f g =
      refuted (λ p c. omega (arith, a.risen.is j refl, (c.rises j (suc j) (omega arith) l (omega arith)).1, ap (version_at b) e))

  stop_mark : (i x : ℕ) → i < places → x ≡ place_on order i → x < places → version_at b x ≤ b.floor → length_at b x ≡ 0 → false ≡ (proper_b b && in_order b order)
  stop_mark i x l e h f z =
      refuted (λ p c. omega (arith, p.removal_above x h (record { used = subst (Used b) (sym e) (c.used i l (omega arith)); bare = z })))

  stop_empty : (i x : ℕ) → i < places → x ≡ place_on order i → x < places → key_at b x ≡ 0 → false ≡ (proper_b b && in_order b order)
  stop_empty i x l e h z = refuted (λ p c. c.used i l (omega arith) (ap (key_at b) (sym e) ∙ z))

  pub stop_late : (i last bound x v : ℕ) (r : Bool) → i < places → Along i last → Bounded b.floor last bound → x ≡ place_on order i → x < places → v ≡ version_at b x
      → r ≡ late_b last bound v (length_at b x) → not r ≡ true → false ≡ (proper_b b && in_order b order)
  stop_late i last bound x v r l a k e h f q n =
      ⊎_elim (λ w. stop_rising i last x v l a e h f w) (λ w. stop_mark i x l e h (omega (arith, f, w.0)) w.1)
      (not_late b.floor last bound v (length_at b x) k (sym q ∙ not-true r n))

  -- the key of a number of the order
  pub key_along : (i x : ℕ) → i < places → x ≡ place_on order i → key_at b x ≡ get_or (along b.keys order) i 0
  key_along i x l e = ap (key_at b) e ∙ sym (along_at b.keys order i l)

  stop_key : (i last x : ℕ) (r : Bool) → i < places → Along i last → x ≡ place_on order i → x < places → r ≡ fresh_b (along b.keys order) i (key_at b x) → not r ≡ true
      → false ≡ (proper_b b && in_order b order)
  unfolding fresh_b
  stop_key i last x r l a e h f n =
      refuted (λ p c. true≢false (sym (all_new p c) ∙ sym f ∙ not-true r n))
    where
      all_new : Proper b → Chained b order → all_below (λ j. not (eqb (get_or (along b.keys order) j 0) (key_at b x))) i ≡ true
      all_new p c =
          all_of (λ j. not (eqb (get_or (along b.keys order) j 0) (key_at b x))) i
          (λ j k. rw (
            along_at b.keys order j (omega arith),
            ne_eqb (key_at b (place_on order j)) (key_at b x)
                (λ z. let g = a.risen.low j k in
                let y = p.keys_distinct (place_on order j) x g h (a.used j k) z in
                omega (arith, once b order c j i (omega arith) l g (y ∙ e))),
          ))

  -- the place has no key, or one of those before it
  pub stop_new : (i last x : ℕ) (r : Bool) → i < places → Along i last → x ≡ place_on order i → x < places
      → r ≡ (not (eqb (key_at b x) 0) && fresh_b (along b.keys order) i (key_at b x)) → not r ≡ true → false ≡ (proper_b b && in_order b order)
  stop_new i last x r l a e h f n =
      ⊎_elim (λ z. stop_empty i x l e h z)
      (λ d. let t : not (eqb (key_at b x) 0) ≡ true = rw (ne_eqb (key_at b x) 0 d) in
      stop_key i last x r l a e h (f ∙ rw t) n) (same? (key_at b x) 0)

  pub is_new : (x : ℕ) (f r : Bool) → r ≡ (not (eqb (key_at b x) 0) && f) → r ≡ true → Used b x
  is_new x f r e t z = true≢false (sym t ∙ e ∙ rw (eq-eqb (key_at b x) 0 z))

  pub stop_last : (i last : ℕ) → i ≤ places → Along i last → b.version < last → false ≡ (proper_b b && in_order b order)
  stop_last zero last m a l = absurd (omega (arith, a.risen.first refl))
  stop_last (suc j) last m a l =
      refuted (λ p c. let g = a.risen.low j (omega arith) in omega (arith, a.risen.is j refl, p.most_version (place_on order j) g (a.used j (omega arith))))

  -- ---- where the order ends before its number i
  abbrev none? : ℕ → Bool
  none? p = empty_b b.keys b.lengths b.forms p

  abbrev unborn? : ℕ → Bool
  unborn? p = eqb (version_at b p) 0

  none_is : (p : ℕ) → none? p ≡ true → (key_at b p ≡ 0) × (length_at b p ≡ 0) × (form_at b p ≡ 0)
  unfolding empty_b
  none_is p e =
      let s = both_true (eqb (key_at b p) 0 && eqb (length_at b p) 0) (eqb (form_at b p) 0) e in
      let t = both_true (eqb (key_at b p) 0) (eqb (length_at b p) 0) s.0 in
      (eqb-true (key_at b p) 0 t.0, eqb-true (length_at b p) 0 t.1, eqb-true (form_at b p) 0 s.1)

  module _ (i last : ℕ) (l : i ≤ places) (a : Along i last) where
    hit_used : (p : ℕ) → hits (λ j. true) (place_on order) i p ≡ true → Used b p
    hit_used p e = let h = hits_where (λ j. true) (place_on order) i p e in subst (Used b) h.is (a.used h.at h.here)

    all_hit : count_below (hits (λ j. true) (place_on order) i) places ≡ i
    all_hit =
        count_hits (λ j. true) (place_on order) i 128 (λ j k e. a.risen.low j k) (λ j k m n e f. risen_once b.versions order i last a.risen j k m n)
        ∙ count_full (λ j. true) i (λ j k. refl)

    -- as many places are used as the order names, where it is a chain that ends at number i
    named_used : Chained b order → get_or order i 0 ≡ 0 → i < places → count_below (used_b b) places ≡ i
    named_used c z m = ⊎_elim (λ k. least k) (λ k. absurd (omega (arith, chained_count b order c i k, named_none (get_or order i 0) z))) (from? (count_below (used_b b) places) i)
      where
        least : count_below (used_b b) places ≤ i → count_below (used_b b) places ≡ i
        least k =
            ⊎_elim (λ e. e) (λ d. absurd (omega (arith, count_chained b order c (i - 1) (omega arith) (a.risen.low (i - 1) (omega (arith, d))), d)))
            (same? (count_below (used_b b) places) i)

    -- a test that passes exactly at the places that are not used: in a proper table as many pass as the order does not name
    stop_count : (t : ℕ → Bool) → (Proper b → (q : ℕ) → q < 128 → t q ≡ not (not (eqb (key_at b q) 0))) → places ≤ place_on order i → i < places → (n : ℕ)
        → n ≡ count_below t places → (n ≡ places - i → ⊥) → false ≡ (proper_b b && in_order b order)
    unfolding used_b
    stop_count t same g m n e d =
        refuted (λ p c. d (omega (arith, e, count_same (λ q. not (used_b b q)) t 128 (same p), count_not (used_b b) 128, named_used c (c.rest i m g) m)))

    none_same : Proper b → (q : ℕ) → q < 128 → none? q ≡ not (not (eqb (key_at b q) 0))
    unfolding empty_b
    none_same p q k = ⊎_elim
        (λ y. rw (eq-eqb (key_at b q) 0 y, eq-eqb (length_at b q) 0 (p.empty_length q k y), eq-eqb (form_at b q) 0 (p.empty_form q k y)))
        (λ y. rw (ne_eqb (key_at b q) 0 y)) (same? (key_at b q) 0)

    unborn_same : Proper b → (q : ℕ) → q < 128 → unborn? q ≡ not (not (eqb (key_at b q) 0))
    unborn_same p q k = ⊎_elim
        (λ y. rw (eq-eqb (key_at b q) 0 y, eq-eqb (version_at b q) 0 (p.empty_version q k y)))
        (λ y. rw (ne_eqb (key_at b q) 0 y, ne_eqb (version_at b q) 0 (λ z. omega (arith, z, p.least_version q k y)))) (same? (key_at b q) 0)

    -- the numbers so far are not 0
    some : (j : ℕ) → j < i → get_or order j 0 ≡ 0 → ⊥
    some j k z = omega (arith, a.risen.low j k, named_none (get_or order j 0) z)

    stop_zeros : places ≤ place_on order i → i < places → (n : ℕ) → n ≡ count_below (λ j. eqb (get_or order j 0) 0) places → (n ≡ places - i → ⊥) → false ≡ (proper_b b && in_order b order)
    stop_zeros g m n e d = refuted (λ p c. d (e ∙ counted c))
      where
        zero_at : Chained b order → (j : ℕ) → i ≤ j → j < places → get_or order j 0 ≡ 0
        zero_at c j y k =
            ⊎_elim (λ h. c.rest j k h)
            (λ h. absurd (⊎_elim (λ w. omega (arith, ap (place_on order) w)) (λ w. omega (arith, (c.rises i j (omega (arith, w)) k h).0)) (same? i j))) (from? places (place_on order j))

        counted : Chained b order → count_below (λ j. eqb (get_or order j 0) 0) 128 ≡ 128 - i
        counted c =
            cut_count (λ j. eqb (get_or order j 0) 0) i 128 l (λ j k. ne_eqb (get_or order j 0) 0 (some j k)) (λ j y k. eq-eqb (get_or order j 0) 0 (zero_at c j y k))

    -- all at once
    abbrev closed? : Bool
    closed? =
        eqb (count_below none? places) (places - i) && eqb (count_below unborn? places) (places - i) && eqb (count_below (λ j. eqb (get_or order j 0) 0) places) (places - i)

    pub stop_closed : places ≤ place_on order i → i < places → (r : Bool) → r ≡ closed? → not r ≡ true → false ≡ (proper_b b && in_order b order)
    stop_closed g m r f n =
        ⊎_elim (λ x. ⊎_elim (λ y. ⊎_elim (λ z. absurd (true≢false (sym (all x y z) ∙ sym f ∙ not-true r n))) (λ d. stop_zeros g m _ refl d)
        (same? (count_below (λ j. eqb (get_or order j 0) 0) places) (places - i))) (λ d. stop_count unborn? unborn_same g m _ refl d)
        (same? (count_below unborn? places) (places - i))) (λ d. stop_count none? none_same g m _ refl d) (same? (count_below none? places) (places - i))
      where
        all : count_below none? places ≡ places - i → count_below unborn? places ≡ places - i → count_below (λ j. eqb (get_or order j 0) 0) places ≡ places - i → closed? ≡ true
        all x y z =
            rw (
              eq-eqb (count_below none? places) (places - i) x,
              eq-eqb (count_below unborn? places) (places - i) y,
              eq-eqb (count_below (λ j. eqb (get_or order j 0) 0) places) (places - i) z,
            )

    pub is_closed : (r : Bool) → r ≡ closed? → not r ≡ false
        → (count_below none? places ≡ places - i) × (count_below unborn? places ≡ places - i) × (count_below (λ j. eqb (get_or order j 0) 0) places ≡ places - i)
    is_closed r f n =
        let s = both_true (eqb (count_below none? places) (places - i) && eqb (count_below unborn? places) (places - i)) (eqb (count_below (λ j. eqb (get_or order j 0) 0) places) (places - i))
        (said_yes r _ f n) in
        let t = both_true (eqb (count_below none? places) (places - i)) (eqb (count_below unborn? places) (places - i)) s.0 in
        (eqb-true _ _ t.0, eqb-true _ _ t.1, eqb-true _ _ s.1)

    pub clear_at : (n : ℕ) → n ≡ count_below (λ j. eqb (get_or order j 0) 0) places → n ≡ places - i → (j : ℕ) → i ≤ j → j < places → get_or order j 0 ≡ 0
    clear_at n e f j h k =
        eqb-true (get_or order j 0) 0
        (count_equal (λ m. eqb (get_or order m 0) 0) (λ m. leb i m) 128 behind (omega (arith, e, f, upper)) j k (le-leb i j h))
      where
        behind : (m : ℕ) → m < 128 → eqb (get_or order m 0) 0 ≡ true → leb i m ≡ true
        behind m q t = ⊎_elim (λ y. le-leb i m y) (λ y. absurd (some m y (eqb-true (get_or order m 0) 0 t))) (from? i m)

        upper : count_below (λ m. leb i m) 128 ≡ 128 - i
        upper = cut_count (λ m. leb i m) i 128 l (λ m q. lt-leb i m q) (λ m y q. le-leb i m y)

    -- ---- and where it ends well
    data Seen (p : ℕ) : Type 0 where
      on : (j : ℕ) → j < i → place_on order j ≡ p → Seen p
      off : key_at b p ≡ 0 → version_at b p ≡ 0 → length_at b p ≡ 0 → form_at b p ≡ 0 → Seen p

    module _ (seen : (p : ℕ) → p < places → Seen p) (rest : (j : ℕ) → i ≤ j → j < places → get_or order j 0 ≡ 0)
        (new : all_below (new_b (along b.keys order)) i ≡ true) (low : b.floor ≤ b.version) (high : b.version ≤ version_most) (late : last ≤ b.version) where
      sound_at : (p : ℕ) → p < places → Sound (entry_at b p) b.version b.floor
      sound_at p k = go (seen p k)
        where
          go : Seen p → Sound (entry_at b p) b.version b.floor
          go (on j m e) =
              subst (λ (q : ℕ). Sound (entry_at b q) b.version b.floor) e
              (sound_below (entry_at b (place_on order j)) b.version b.floor (a.sound j m) (omega (arith, a.risen.most j m)))
          go (off x y z f) = sound_none (entry_at b p) b.version b.floor x y z f

      -- a used place is named
      where_on : (p : ℕ) → p < places → Used b p → Hit (λ j. true) (place_on order) i p
      where_on p k u = go (seen p k)
        where
          go : Seen p → Hit (λ j. true) (place_on order) i p
          go (on j m e) = record { at = j; here = m; passes = refl; is = e }
          go (off x y z f) = absurd (u x)

      -- keys along the order are distinct
      keys_apart : (j k : ℕ) → j < k → k < i → key_at b (place_on order j) ≡ key_at b (place_on order k) → ⊥
      unfolding new_b fresh_b
      keys_apart j k m n e =
          let key : get_or (along b.keys order) k 0 ≡ key_at b (place_on order k) = along_at b.keys order k (omega arith) in
          let t = all_at (new_b (along b.keys order)) i new k n in
          let f : all_below (λ q. not (eqb (get_or (along b.keys order) q 0) (get_or (along b.keys order) k 0))) k ≡ true =
          rw (new_b, ne_eqb (get_or (along b.keys order) k 0) 0 (λ z. a.used k n (sym key ∙ z))) at t in
          eqb-false (get_or (along b.keys order) j 0) (get_or (along b.keys order) k 0)
          (not-true _ (all_at (λ q. not (eqb (get_or (along b.keys order) q 0) (get_or (along b.keys order) k 0))) k f j m))
          (along_at b.keys order j (omega arith) ∙ e ∙ sym key)

      keys_distinct : (p q : ℕ) → p < places → q < places → Used b p → key_at b p ≡ key_at b q → p ≡ q
      keys_distinct p q k m u e =
          let x = where_on p k u in
          let y = where_on q m (λ z. u (e ∙ z)) in
          let f : key_at b (place_on order x.at) ≡ key_at b (place_on order y.at) = ap (key_at b) x.is ∙ e ∙ sym (ap (key_at b) y.is) in
          ⊎_elim (λ g. ⊎_elim (λ z. sym x.is ∙ ap (place_on order) z ∙ y.is) (λ d. absurd (keys_apart x.at y.at (omega (arith, d)) y.here f)) (same? x.at y.at))
          (λ g. absurd (keys_apart y.at x.at g x.here (sym f))) (from? x.at y.at)

      chained : Chained b order
      chained =
          record {
            used = λ j k h. a.used j (inside j k h);
            all = λ p k u. let h = where_on p k u in record { at = h.at; here = omega (arith, h.here); is = h.is };
            rises = λ j k m n h. let g = inside k n h in (a.risen.low j (omega arith), a.risen.up j k m g);
            rest = λ j k h. ⊎_elim (λ m. rest j m k) (λ m. absurd (omega (arith, a.risen.low j m))) (from? i j);
          }
        where
          inside : (j : ℕ) → j < places → place_on order j < places → j < i
          inside j k h = ⊎_elim (λ m. absurd (omega (arith, named_none (get_or order j 0) (rest j m k)))) (λ m. m) (from? i j)

      well : true ≡ (proper_b b && in_order b order)
      well = rw (is_proper b proper, chained_in b order chained)
        where
          proper : Proper b
          proper =
              sound_proper b low high sound_at keys_distinct
              (λ p q k m u e. chain_apart b order chained p q k m u
              (λ z. omega (arith, (sound_at p k).low u, ((sound_at q m).none z).0, e)) e)

    pub end_full : places ≤ i → all_below (new_b (along b.keys order)) i ≡ true → b.floor ≤ b.version → b.version ≤ version_most → last ≤ b.version
        → true ≡ (proper_b b && in_order b order)
    end_full h new low high late = well seen (λ j m k. absurd (omega arith)) new low high late
      where
        seen : (p : ℕ) → p < places → Seen p
        seen p k = go (hits (λ j. true) (place_on order) i p) refl
          where
            go : (t : Bool) → hits (λ j. true) (place_on order) i p ≡ t → Seen p
            go true e = let y = hits_where (λ j. true) (place_on order) i p e in on y.at y.here y.is
            go false e = absurd (omega (arith, count_less (hits (λ j. true) (place_on order) i) 128 p k e, all_hit))

    -- Where a test fails at the places that the order names, and passes at as many as it does not, it fails at no other place.
    named_where : (t : ℕ → Bool) → ((x : ℕ) → x < places → hits (λ j. true) (place_on order) i x ≡ true → t x ≡ false) → count_below t places ≡ places - i
        → (p : ℕ) → p < places → t p ≡ false → hits (λ j. true) (place_on order) i p ≡ true
    named_where t fails e p k w = count_equal (hits (λ j. true) (place_on order) i) (λ x. not (t x)) 128 shown fewer p k (rw w)
      where
        fewer : count_below (λ x. not (t x)) 128 ≤ count_below (hits (λ j. true) (place_on order) i) 128
        fewer = omega (arith, count_not t 128, all_hit, e)

        shown : (x : ℕ) → x < 128 → hits (λ j. true) (place_on order) i x ≡ true → not (t x) ≡ true
        shown x u h = rw (fails x u h)

    none_fails_at : (x : ℕ) → x < places → hits (λ j. true) (place_on order) i x ≡ true → none? x ≡ false
    none_fails_at x u h = go (none? x) refl
      where
        go : (y : Bool) → none? x ≡ y → y ≡ false
        go true w = absurd (hit_used x h (none_is x w).0)
        go false w = refl

    unborn_fails_at : (x : ℕ) → x < places → hits (λ j. true) (place_on order) i x ≡ true → unborn? x ≡ false
    unborn_fails_at x u h =
        let y = hits_where (λ j. true) (place_on order) i x h in
        ne_eqb (version_at b x) 0 (λ z. omega (arith, a.risen.above y.at y.here, ap (version_at b) y.is, z))

    pub end_short : (m n : ℕ) → m ≡ count_below none? places → m ≡ places - i → n ≡ count_below unborn? places → n ≡ places - i
        → ((j : ℕ) → i ≤ j → j < places → get_or order j 0 ≡ 0)
        → all_below (new_b (along b.keys order)) i ≡ true → b.floor ≤ b.version → b.version ≤ version_most → last ≤ b.version → true ≡ (proper_b b && in_order b order)
    end_short m n e f g h rest new low high late = well seen rest new low high late
      where
        seen : (p : ℕ) → p < places → Seen p
        seen p k = pick (none? p) refl
          where
            born : key_at b p ≡ 0 → (y : Bool) → unborn? p ≡ y → version_at b p ≡ 0
            born z true w = eqb-true (version_at b p) 0 w
            born z false w = absurd (hit_used p (named_where unborn? unborn_fails_at (sym g ∙ h) p k w) z)

            pick : (y : Bool) → none? p ≡ y → Seen p
            pick true w = let t = none_is p w in off t.0 (born t.0 (unborn? p) refl) t.1 t.2
            pick false w =
                let y = hits_where (λ j. true) (place_on order) i p (named_where none? none_fails_at (sym e ∙ f) p k w) in
                on y.at y.here y.is
