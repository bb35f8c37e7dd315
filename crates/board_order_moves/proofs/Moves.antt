-- The order after a change. `shift` takes one number out, moves those behind it up and puts a place behind them (`Shifting`, pointwise). Where the number taken out is that
-- of the place, or the first that is no place, the order is the chain of the table in which that place holds the newest change (`shift_chained`); and the two looks along
-- the order find that number, and the last one (`Spot`). Assumes nothing.
use Prim.Native.Nat.{ℕ, ◌+◌, ◌-◌, ◌<◌, ◌≤◌}
use native.Mathlib.Omega.{arith}
use mathlib.Core.Path.{◌≡◌, refl, sym, ap, ◌∙◌, subst}
use mathlib.Core.Bool.{Bool, true, false}
use mathlib.Core.List.{List}
use mathlib.Core.Logic.{◌⊎◌, inl, inr, ⊎_elim}
use lib.ListN.{get_or, set, length, length-set}
use lib.Seq.{ext_get_or, get_or-set_same, get_or-set_other}
use lib.Dec.{eqb}
use borrow.Author.Tests.{eq-eqb, ne_eqb, eqb-true, eqb-false, lt-ltb, le-ltb}
use Rattle.board_record.specs.Sizes.{places}
use Rattle.board_record.specs.Lists.{row, count_below}
use Rattle.board_record.specs.Table.{Table, Entry, key_at, version_at, Used, Empty, changed}
use Rattle.board_record.specs.Proper.{Proper, proper_b}
use Rattle.board_record.specs.Order.{named, place_on, OnOrder, Chained, order_of, in_order}
use Rattle.board_order.proofs.Names.{named_none, named_place, number_is}
use Rattle.board_record.proofs.Logic.{same?, from?}
use Rattle.board_record.proofs.Lists.{length_row, row_at, count_less, count_full, hits, hits_where, count_hits}
use Rattle.board_record.proofs.Proper.{proper_is}
use Rattle.board_order_moves.specs.Shifts.{shifted_at, shifted}
use Rattle.board_order.proofs.Chains.{proper_apart, once, order_is, in_chained}
use Rattle.board_record.specs.Search.{place_in}
use Rattle.board_record.proofs.Search.{first_hit, first_before}
use Rattle.board_order.proofs.Halves.{first_most}

-- ---- the loop of the shift: from `from` to i the numbers have moved up
pub record Shifting (r x : List ℕ) (from i : ℕ) : Type 0 where
  pub long : length x ≡ places
  pub before : (j : ℕ) → j < from → get_or x j 0 ≡ get_or r j 0
  pub moved : (j : ℕ) → from ≤ j → j < i → get_or x j 0 ≡ get_or r (j + 1) 0
  pub behind : (j : ℕ) → i ≤ j → get_or x j 0 ≡ get_or r j 0

pub shifting_none : (r : List ℕ) (from : ℕ) → length r ≡ places → Shifting r r from from
shifting_none r from n = record { long = n; before = λ j l. refl; moved = λ j h l. absurd (omega arith); behind = λ j h. refl }

pub shifting_more : (r x : List ℕ) (from i : ℕ) → Shifting r x from i → from ≤ i → i < places → Shifting r (set x i (get_or x (i + 1) 0)) from (i + 1)
shifting_more r x from i s h l =
    let v = get_or x (i + 1) 0 in
    record {
      long = length-set x i v ∙ s.long;
      before = λ j k. get_or-set_other x i j v 0 (λ e. omega arith) ∙ s.before j k;
      moved = λ j k m.
          ⊎_elim (λ e. ap (λ (y : ℕ). get_or (set x i v) y 0) e ∙ get_or-set_same x i v 0 (omega (arith, s.long)) ∙ s.behind (i + 1) (omega arith) ∙ ap (λ (y : ℕ). get_or r (y + 1) 0) (sym e))
          (λ d. get_or-set_other x i j v 0 d ∙ s.moved j k (omega (arith, d))) (same? j i);
      behind = λ j k. get_or-set_other x i j v 0 (λ e. omega arith) ∙ s.behind j (omega arith);
    }

shifted_at_lem : (r : List ℕ) (from to p i : ℕ) → i < places → get_or (shifted r from to p) i 0 ≡ shifted_at r from to p i
unfolding shifted
shifted_at_lem r from to p i l = row_at (shifted_at r from to p) 128 i l

-- what stands where after a shift
module _ (r : List ℕ) (from to p : ℕ) (h : from ≤ to) where
  shifted_before : (i : ℕ) → i < from → shifted_at r from to p i ≡ get_or r i 0
  unfolding shifted_at
  shifted_before i l = rw (lt-ltb i from l)

  shifted_moved : (i : ℕ) → from ≤ i → i < to → shifted_at r from to p i ≡ get_or r (i + 1) 0
  unfolding shifted_at
  shifted_moved i k l = rw (le-ltb i from k, lt-ltb i to l)

  shifted_end : shifted_at r from to p to ≡ p
  unfolding shifted_at
  shifted_end = rw (le-ltb to from h, le-ltb to to (omega arith), eq-eqb to to refl)

  shifted_behind : (i : ℕ) → to < i → shifted_at r from to p i ≡ get_or r i 0
  unfolding shifted_at
  shifted_behind i l = rw (le-ltb i from (omega arith), le-ltb i to (omega arith), ne_eqb i to (λ e. omega arith))

  pub shift_done : (x : List ℕ) (i : ℕ) → to < places → i ≤ to → to ≤ i → Shifting r x from i → set x to p ≡ shifted r from to p
  unfolding shifted
  shift_done x i l m n s =
      ext_get_or 0 (set x to p) (row (shifted_at r from to p) 128) (length-set x to p ∙ s.long ∙ sym (length_row (shifted_at r from to p) 128))
      (λ j k. at j (omega (arith, length-set x to p, s.long)) ∙ sym (row_at (shifted_at r from to p) 128 j (omega (arith, length-set x to p, s.long))))
    where
      at : (j : ℕ) → j < places → get_or (set x to p) j 0 ≡ shifted_at r from to p j
      at j k =
          ⊎_elim (λ e. ap (λ (y : ℕ). get_or (set x to p) y 0) e ∙ get_or-set_same x to p 0 (omega (arith, s.long)) ∙ sym shifted_end ∙ ap (shifted_at r from to p) (sym e))
          (λ d. get_or-set_other x to j p 0 d
          ∙ ⊎_elim (λ g. ⊎_elim (λ y. s.behind j (omega (arith, d)) ∙ sym (shifted_behind j (omega (arith, d)))) (λ y. s.moved j g (omega arith) ∙ sym (shifted_moved j g y)) (from? to j))
          (λ g. s.before j g ∙ sym (shifted_before j g)) (from? from j)) (same? j to)

-- ---- one place holds the newest change, and the others are as they were
pub record Newest (b c : Table) (at : ℕ) : Type 0 where
  pub used : Used c at
  pub keys : (p : ℕ) → (p ≡ at → ⊥) → key_at c p ≡ key_at b p
  pub versions : (p : ℕ) → (p ≡ at → ⊥) → version_at c p ≡ version_at b p
  pub newest : (p : ℕ) → p < places → Used b p → version_at b p < version_at c at

-- the numbers that a shift is between: up to `to` there are places, but perhaps at `from`; behind it there is none; the place is at `from` or nowhere
pub record Spot (r : List ℕ) (at from to : ℕ) : Type 0 where
  pub from_to : from ≤ to
  pub here : to < places
  pub before : (i : ℕ) → i ≤ to → (i ≡ from → ⊥) → place_on r i < places
  pub behind : (i : ℕ) → to < i → i < places → places ≤ place_on r i
  pub only : (i : ℕ) → i < places → place_on r i ≡ at → i ≡ from
  pub is : place_on r from < places → place_on r from ≡ at

module _ (b c : Table) (r : List ℕ) (at from to : ℕ) (x : Chained b r) (n : Newest b c at) (s : Spot r at from to) (l-at : at < places) where
  -- the number that stands at i after the shift, and the place that it names
  abbrev raw : ℕ → ℕ
  raw i = shifted_at r from to (at + 1) i

  abbrev now : ℕ → ℕ
  now i = named (raw i)

  now_end : now to ≡ at
  now_end = ap named (shifted_end r from to (at + 1) s.from_to) ∙ named_place at

  -- where it came from
  data Came (i : ℕ) : Type 0 where
    low : i < from → raw i ≡ get_or r i 0 → Came i
    mid : from ≤ i → i < to → raw i ≡ get_or r (i + 1) 0 → Came i
    end : i ≡ to → now i ≡ at → Came i
    high : to < i → raw i ≡ get_or r i 0 → Came i

  came : (i : ℕ) → Came i
  came i =
      ⊎_elim
      (λ g. ⊎_elim (λ k. ⊎_elim (λ e. end e (ap now e ∙ now_end))
      (λ d. high (omega (arith, d)) (shifted_behind r from to (at + 1) s.from_to i (omega (arith, d)))) (same? i to))
      (λ k. mid g k (shifted_moved r from to (at + 1) s.from_to i g k)) (from? to i))
      (λ g. low g (shifted_before r from to (at + 1) s.from_to i g)) (from? from i)

  -- a number of the order other than that at `from` is another place, with what it had
  other : (i : ℕ) → i < places → (i ≡ from → ⊥) → place_on r i ≡ at → ⊥
  other i l d e = d (s.only i l e)

  -- what holds of a number of the new order that was number j of the old one, and of the last
  record Fine (i v : ℕ) : Type 0 where
    pub place : named v < places → i ≤ to
    pub used : named v < places → Used c (named v)
    pub rest : places ≤ named v → v ≡ 0

  of_old : (i j : ℕ) → j < places → (j ≡ from → ⊥) → i ≤ to → Fine i (get_or r j 0)
  of_old i j l d h =
      record {
        place = λ k. h;
        used = λ k u. x.used j l k (sym (n.keys (place_on r j) (other j l d)) ∙ u);
        rest = λ k. x.rest j l k;
      }

  fine : (i : ℕ) → i < places → Came i → Fine i (raw i)
  fine i l (low g e) = rw e (of_old i i l (λ z. omega arith) (omega (arith, s.from_to)))
  fine i l (mid g k e) = rw e (of_old i (i + 1) (omega (arith, s.here)) (λ z. omega arith) (omega arith))
  fine i l (end z e) = record { place = λ k. omega arith; used = λ k. subst (Used c) (sym e) n.used; rest = λ k. absurd (omega (arith, e)) }
  fine i l (high g e) =
      rw e (record { place = λ k. absurd (omega (arith, s.behind i g l)); used = λ k. absurd (omega (arith, s.behind i g l)); rest = λ k. x.rest i l k })

  -- below `to` it is an older number, from where its place stood
  record Older (i : ℕ) : Type 0 where
    pub from_at : ℕ
    pub same : now i ≡ place_on r from_at
    pub not_from : from_at ≡ from → ⊥
    pub low : from_at ≤ to
    pub which : ((i < from) × (from_at ≡ i)) ⊎ ((from ≤ i) × (from_at ≡ i + 1))

  older : (i : ℕ) → i < to → Came i → Older i
  older i l (low g e) = record { from_at = i; same = ap named e; not_from = λ z. omega arith; low = omega arith; which = inl (g, refl) }
  older i l (mid g k e) = record { from_at = i + 1; same = ap named e; not_from = λ z. omega arith; low = omega arith; which = inr (g, refl) }
  older i l (end z e) = absurd (omega arith)
  older i l (high g e) = absurd (omega arith)

  rising : (i j : ℕ) → i < j → j ≤ to → (o : Older i) → (j ≡ to) ⊎ Older j
      → (now i < places) × (version_at c (now i) < version_at c (now j))
  rising i j k h o (inl e) =
      let m : o.from_at < places = omega (arith, o.low, s.here) in
      let g = s.before o.from_at o.low o.not_from in
      let q : now j ≡ at = ap now e ∙ now_end in
      rw (o.same, q) (g, omega (arith, n.versions (place_on r o.from_at) (other o.from_at m o.not_from), n.newest (place_on r o.from_at) g (x.used o.from_at m g)))
  rising i j k h o (inr p) =
      let m : o.from_at < places = omega (arith, o.low, s.here) in
      let m' : p.from_at < places = omega (arith, p.low, s.here) in
      let g = s.before o.from_at o.low o.not_from in
      let g' = s.before p.from_at p.low p.not_from in
      let y = x.rises o.from_at p.from_at (apart o.which p.which) m' g' in
      rw (o.same, p.same)
      (g, omega (arith, y.1, n.versions (place_on r o.from_at) (other o.from_at m o.not_from), n.versions (place_on r p.from_at) (other p.from_at m' p.not_from)))
    where
      apart : ((i < from) × (o.from_at ≡ i)) ⊎ ((from ≤ i) × (o.from_at ≡ i + 1)) → ((j < from) × (p.from_at ≡ j)) ⊎ ((from ≤ j) × (p.from_at ≡ j + 1)) → o.from_at < p.from_at
      apart (inl a) (inl z) = omega (arith, a.1, z.1)
      apart (inl a) (inr z) = omega (arith, a.1, z.1)
      apart (inr a) (inl z) = absurd (omega (arith, a.0, z.0))
      apart (inr a) (inr z) = omega (arith, a.1, z.1)

  -- each used place stands on it
  found : (p : ℕ) → p < places → Used c p → (i : ℕ) × (i < places) × (now i ≡ p)
  found p l u = ⊎_elim (λ e. (to, s.here, now_end ∙ sym e)) elsewhere (same? p at)
    where
      elsewhere : (p ≡ at → ⊥) → (i : ℕ) × (i < places) × (now i ≡ p)
      elsewhere d = ⊎_elim up down (from? o.at from)
        where
          o : OnOrder r p
          o = x.all p l (λ z. u (n.keys p d ∙ z))

          not_from : o.at ≡ from → ⊥
          not_from e = d (sym o.is ∙ ap (λ (k : ℕ). place_on r k) e ∙ s.is (omega (arith, ap (λ (k : ℕ). place_on r k) e, o.is)))

          most : o.at ≤ to
          most = ⊎_elim (λ k. k) (λ k. absurd (omega (arith, s.behind o.at k o.here, o.is))) (from? o.at to)

          up : o.at ≤ from → (i : ℕ) × (i < places) × (now i ≡ p)
          up k = (o.at, o.here, ap named (shifted_before r from to (at + 1) s.from_to o.at (omega (arith, not_from))) ∙ o.is)

          down : from < o.at → (i : ℕ) × (i < places) × (now i ≡ p)
          down k =
              let z : o.at - 1 + 1 ≡ o.at = omega arith in (
                o.at - 1,
                omega (arith, o.here),
                ap named (shifted_moved r from to (at + 1) s.from_to (o.at - 1) (omega arith) (omega (arith, most))) ∙ ap (λ (y : ℕ). place_on r y) z ∙ o.is,
              )

  pub shift_chained : Chained c (shifted r from to (at + 1))
  shift_chained =
      record {
        used = λ i l h. let e = at_is i l in subst (Used c) (sym e) ((fine i l (came i)).used (omega (arith, e)));
        all = λ p l u. let f = found p l u in record { at = f.0; here = f.1; is = at_is f.0 f.1 ∙ f.2 };
        rises = λ i j k l h.
            let e = at_is i (omega arith) in
            let e' = at_is j l in
            let t = (fine j l (came j)).place (omega (arith, e')) in
            let y = rising i j k t (older i (omega arith) (came i)) (⊎_elim (λ z. inl z) (λ d. inr (older j (omega (arith, d)) (came j))) (same? j to)) in
            (omega (arith, y.0, e), omega (arith, y.1, ap (version_at c) e, ap (version_at c) e'));
        rest = λ i l h. raw_is i l ∙ (fine i l (came i)).rest (omega (arith, at_is i l));
      }
    where
      raw_is : (i : ℕ) → i < places → get_or (shifted r from to (at + 1)) i 0 ≡ raw i
      raw_is i l = shifted_at_lem r from to (at + 1) i l

      at_is : (i : ℕ) → i < places → place_on (shifted r from to (at + 1)) i ≡ now i
      at_is i l = ap named (raw_is i l)

-- ---- the table after the change
pub changed_newest : (b : Table) (at : ℕ) (e : Entry) (f : ℕ) → length b.keys ≡ places → length b.versions ≡ places → Proper b → at < places → (e.key ≡ 0 → ⊥)
    → b.version < e.version
    → Newest b (changed b at e f) at
changed_newest b at e f k v p l u h =
    let z = get_or-set_same b.keys at e.key 0 (omega (arith, k)) in
    let y = get_or-set_same b.versions at e.version 0 (omega (arith, v)) in
    record {
      used = λ q. u (sym z ∙ q);
      keys = λ q d. get_or-set_other b.keys at q e.key 0 d;
      versions = λ q d. get_or-set_other b.versions at q e.version 0 d;
      newest = λ q m w. omega (arith, y, p.most_version q m w);
    }

-- ---- how far the order goes, and where the place stands
module _ (b : Table) (r : List ℕ) (at : ℕ) (x : Chained b r) (l : at < places) where
  abbrev used : ℕ
  used = place_in r 0

  used_most : used ≤ places
  unfolding place_in
  used_most = first_most (λ i. eqb (get_or r i 0) 0) 128

  before_used : (i : ℕ) → i < used → place_on r i < places
  unfolding place_in
  before_used i k =
      let m : i < places = omega (arith, used_most) in
      ⊎_elim (λ h. absurd (eqb-false (get_or r i 0) 0 (first_before (λ j. eqb (get_or r j 0) 0) 128 i m k) (x.rest i m h))) (λ h. h) (from? places (place_on r i))

  at_used : used < places → place_on r used ≡ places
  unfolding place_in
  at_used h = named_none (get_or r used 0) (eqb-true (get_or r used 0) 0 (first_hit (λ j. eqb (get_or r j 0) 0) 128 h))

  behind_used : (i : ℕ) → used ≤ i → i < places → places ≤ place_on r i
  behind_used i k m =
      let e = at_used (omega arith) in
      ⊎_elim (λ h. h)
      (λ h. absurd (⊎_elim (λ q. omega (arith, ap (λ (n : ℕ). place_on r n) q, e)) (λ d. omega (arith, (x.rises used i (omega (arith, d)) m h).0, e)) (same? i used)))
      (from? places (place_on r i))

  -- where a place is empty, not all are on the order
  some_free : Empty b at → used < places
  some_free e = ⊎_elim (λ k. absurd (full k (hits (λ j. true) (λ j. place_on r j) 128 at) refl)) (λ k. k) (from? places used)
    where
      all_hit : places ≤ used → count_below (hits (λ j. true) (λ j. place_on r j) 128) 128 ≡ 128
      all_hit k =
          count_hits (λ j. true) (λ j. place_on r j) 128 128 (λ j m t. before_used j (omega arith)) (λ i j m n t u. once b r x i j m n (before_used i (omega arith)))
          ∙ count_full (λ j. true) 128 (λ j m. refl)

      full : places ≤ used → (t : Bool) → hits (λ j. true) (λ j. place_on r j) 128 at ≡ t → ⊥
      full k true t =
          let h = hits_where (λ j. true) (λ j. place_on r j) 128 at t in
          x.used h.at h.here (before_used h.at (omega (arith, h.here))) (ap (key_at b) h.is ∙ e)
      full k false t = omega (arith, count_less (hits (λ j. true) (λ j. place_on r j) 128) 128 at l t, all_hit k)

  abbrev found_at : ℕ
  found_at = place_in r (at + 1)

  -- a place that is on the order is found
  not_on : places ≤ found_at → OnOrder r at → ⊥
  unfolding place_in
  not_on z o =
      eqb-false (get_or r o.at 0) (at + 1) (first_before (λ i. eqb (get_or r i 0) (at + 1)) 128 o.at o.here (omega (arith, o.here)))
      (omega (arith, number_is (get_or r o.at 0) (omega (arith, o.is)), o.is))

  pub spot_new : places ≤ found_at → Spot r at used used
  spot_new z =
      record {
        from_to = omega arith;
        here = some_free empty;
        before = λ i k d. before_used i (omega (arith, d));
        behind = λ i k m. behind_used i (omega arith) m;
        only = λ i m q. absurd (not_on z (record { at = i; here = m; is = q }));
        is = λ k. absurd (omega (arith, behind_used used (omega arith) (some_free empty)));
      }
    where
      empty : Empty b at
      empty = ⊎_elim (λ e. e) (λ d. absurd (not_on z (x.all at l d))) (same? (key_at b at) 0)

  module _ (here : found_at < places) where
    is : place_on r found_at ≡ at
    unfolding place_in
    is = ap named (eqb-true (get_or r found_at 0) (at + 1) (first_hit (λ i. eqb (get_or r i 0) (at + 1)) 128 here)) ∙ named_place at

    on_used : found_at < used
    on_used = ⊎_elim (λ k. absurd (omega (arith, behind_used found_at k here, is))) (λ k. k) (from? used found_at)

    pub some_used : 0 < used
    some_used = omega (arith, on_used)

    pub spot_old : Spot r at found_at (used - 1)
    spot_old =
        record {
          from_to = omega (arith, on_used);
          here = omega (arith, used_most, on_used);
          before = λ i k z. before_used i (omega (arith, on_used));
          behind = λ i k m. behind_used i (omega arith) m;
          only = λ i m q. sym (once b r x found_at i here m (omega (arith, is)) (is ∙ sym q));
          is = λ k. is;
        }

-- ---- the order that is left is the order of the table after the change
pub moved_order : (b : Table) (r z : List ℕ) (at from to : ℕ) → length b.keys ≡ places → length b.versions ≡ places → Proper b → Chained b r → at < places
    → Spot r at from to → z ≡ shifted r from to (at + 1)
    → (e : Entry) (f : ℕ) → (e.key ≡ 0 → ⊥) → b.version < e.version → z ≡ order_of (changed b at e f)
unfolding shifted
moved_order b r z at from to k v p x l s q e f u h =
    q ∙ order_is (changed b at e f) (row (shifted_at r from to (at + 1)) 128) (length_row (shifted_at r from to (at + 1)) 128)
    (shift_chained b (changed b at e f) r at from to x (changed_newest b at e f k v p l u h) s l)

-- the same from the tests, as the code has them
module _ (b : Table) (r : List ℕ) (at : ℕ) (p : proper_b b ≡ true) (o : in_order b r ≡ true) (l : at < places) where
  pub order_is_chained : Chained b r
  order_is_chained = in_chained b r (proper_apart b (proper_is b p)) o

  pub new_spot : (u : ℕ) → u ≡ place_in r 0 → places ≡ place_in r (at + 1) → Spot r at u u
  new_spot u e f = rw e (spot_new b r at order_is_chained l (omega (arith, f)))

  pub old_spot : (u g : ℕ) → u ≡ place_in r 0 → g ≡ place_in r (at + 1) → g < places → (0 < u) × Spot r at g (u - 1)
  old_spot u g e f d =
      let z : place_in r (at + 1) < places = omega (arith, f) in
      rw (e, f) (some_used b r at order_is_chained l z, spot_old b r at order_is_chained l z)
