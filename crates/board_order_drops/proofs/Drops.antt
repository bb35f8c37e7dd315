-- The order after a compaction. So far the first `kept` numbers are those of the first i that are used places, in their order, and the numbers from i on are as they were
-- (`Sifting`); a turn keeps one more, or none; and the numbers behind those kept become 0. Assumes nothing.
use Prim.Native.Nat.{ℕ, ◌+◌, ◌-◌, ◌<◌, ◌≤◌}
use native.Mathlib.Omega.{arith}
use mathlib.Core.Path.{◌≡◌, refl, sym, ap, ◌∙◌, subst}
use mathlib.Core.List.{List}
use mathlib.Core.Logic.{⊎_elim}
use lib.ListN.{get_or, set, length, length-set, replicate}
use borrow.Rule.Slice.PartMut.{put_mid}
use Rattle.std.proofs.Common.{rules}
use Rattle.std.proofs.lemmas.List.{places as at_places, length-append, length-take, length-drop}
use lib.Seq.{get_or-set_same, get_or-set_other}
use Rattle.board_record.specs.Sizes.{places}
use Rattle.board_record.specs.Table.{Table, version_at, Used}
use Rattle.board_record.specs.Order.{named, place_on, Chained, order_of}
use Rattle.board_record.proofs.Logic.{same?, from?}
use Rattle.board_order_drops.specs.Loose.{Loose}
use Rattle.board_order.proofs.Names.{named_none}
use Rattle.board_order.proofs.Chains.{order_is}

-- place p stands among those kept
pub record Kept (x : List ℕ) (kept p : ℕ) : Type 0 where
  pub at : ℕ
  pub here : at < kept
  pub is : place_on x at ≡ p

pub record Sifting (b : Table) (r x : List ℕ) (kept i : ℕ) : Type 0 where
  pub long : length x ≡ places
  pub fewer : kept ≤ i
  pub most : i ≤ places
  pub behind : (j : ℕ) → i ≤ j → get_or x j 0 ≡ get_or r j 0
  pub low : (j : ℕ) → j < kept → place_on x j < places
  pub used : (j : ℕ) → j < kept → Used b (place_on x j)
  pub up : (j k : ℕ) → j < k → k < kept → version_at b (place_on x j) < version_at b (place_on x k)
  pub newer : (j k : ℕ) → j < kept → i ≤ k → k < places → place_on r k < places → Used b (place_on r k) → version_at b (place_on x j) < version_at b (place_on r k)
  pub all : (k : ℕ) → k < i → place_on r k < places → Used b (place_on r k) → Kept x kept (place_on r k)

pub sifting_none : (b : Table) (r : List ℕ) → length r ≡ places → Sifting b r r 0 0
sifting_none b r n =
    record {
      long = n;
      fewer = omega arith;
      most = omega arith;
      behind = λ j h. refl;
      low = λ j l. absurd (omega arith);
      used = λ j l. absurd (omega arith);
      up = λ j k m l. absurd (omega arith);
      newer = λ j k l. absurd (omega arith);
      all = λ k l. absurd (omega arith);
    }

module _ (b : Table) (r x : List ℕ) (kept i : ℕ) (s : Sifting b r x kept i) (l : i < places) where
  -- a number that is no used place
  pub sifting_skip : (place_on r i < places → Used b (place_on r i) → ⊥) → Sifting b r x kept (i + 1)
  sifting_skip f =
      record {
        long = s.long;
        fewer = omega (arith, s.fewer);
        most = omega arith;
        behind = λ j h. s.behind j (omega arith);
        low = s.low;
        used = s.used;
        up = s.up;
        newer = λ j k m h. s.newer j k m (omega arith);
        all = λ k m h u.
            ⊎_elim (λ e. absurd (f (omega (arith, ap (λ (y : ℕ). place_on r y) e)) (subst (λ (y : ℕ). Used b (place_on r y)) e u))) (λ d. s.all k (omega (arith, d)) h u) (same? k i);
      }

  -- and one that is
  pub sifting_keep : Loose b r → (n p : ℕ) → n ≡ get_or x i 0 → p ≡ named n → p < places → Used b p → Sifting b r (set x kept n) (kept + 1) (i + 1)
  sifting_keep g n p a c h u =
      let q : p ≡ place_on r i = c ∙ ap named (a ∙ s.behind i (omega arith)) in
      let here : place_on (set x kept n) kept ≡ p = ap named (get_or-set_same x kept n 0 (omega (arith, s.long, s.fewer))) ∙ sym c in
      let raw : (j : ℕ) → (j ≡ kept → ⊥) → get_or (set x kept n) j 0 ≡ get_or x j 0 = λ j d. get_or-set_other x kept j n 0 d in
      let other : (j : ℕ) → (j ≡ kept → ⊥) → place_on (set x kept n) j ≡ place_on x j = λ j d. ap named (raw j d) in
      let at_kept : (j : ℕ) → j ≡ kept → place_on (set x kept n) j ≡ p = λ j z. ap (λ (y : ℕ). place_on (set x kept n) y) z ∙ here in
      record {
        long = length-set x kept n ∙ s.long;
        fewer = omega (arith, s.fewer);
        most = omega arith;
        behind = λ j m. raw j (λ z. omega (arith, s.fewer)) ∙ s.behind j (omega arith);
        low = λ j m. ⊎_elim (λ z. omega (arith, at_kept j z)) (λ d. omega (arith, other j d, s.low j (omega (arith, d)))) (same? j kept);
        used = λ j m. ⊎_elim (λ z. subst (Used b) (sym (at_kept j z)) u) (λ d. subst (Used b) (sym (other j d)) (s.used j (omega (arith, d)))) (same? j kept);
        up = λ j k m o.
            let y = other j (λ z. omega arith) in
            ⊎_elim
            (λ z. omega (
              arith,
              ap (version_at b) y,
              ap (version_at b) (at_kept k z),
              ap (version_at b) q,
              s.newer j i (omega arith) (omega arith) l (omega (arith, q)) (subst (Used b) q u),
            ))
            (λ d. omega (arith, ap (version_at b) y, ap (version_at b) (other k d), s.up j k m (omega (arith, d)))) (same? k kept);
        newer = λ j k m y o w v.
            ⊎_elim (λ z. omega (arith, ap (version_at b) (at_kept j z), ap (version_at b) q, g.rises i k (omega arith) o (omega (arith, q)) w (subst (Used b) q u) v))
            (λ d. omega (arith, ap (version_at b) (other j d), s.newer j k (omega (arith, d)) (omega arith) o w v)) (same? j kept);
        all = λ k m w v.
            ⊎_elim (λ z. record { at = kept; here = omega arith; is = here ∙ q ∙ ap (λ (y : ℕ). place_on r y) (sym z) })
            (λ d. let f = s.all k (omega (arith, d)) w v in record { at = f.at; here = omega (arith, f.here); is = other f.at (λ z. omega (arith, f.here)) ∙ f.is }) (same? k i);
      }

-- ---- the numbers behind those kept are 0
pub filled_front : (a k : ℕ) (xs ys : List ℕ) → a ≤ length xs → (j : ℕ) → j < a → get_or (put_mid a k xs ys) j 0 ≡ get_or xs j 0
filled_front a k xs ys m j l = search (rules, at_places)

pub filled_long : (a : ℕ) (xs ys : List ℕ) → a ≤ 128 → length xs ≡ 128 → length ys ≡ 128 - a → length (put_mid a (128 - a) xs ys) ≡ 128
filled_long a xs ys m l e = simp (length-append, length-take, length-drop) (omega arith)

pub filled_behind : (a n : ℕ) (xs ys : List ℕ) → a ≤ length xs → ys ≡ replicate n 0 → n ≡ 128 - a → (j : ℕ) → a ≤ j → j < 128 → get_or (put_mid a (128 - a) xs ys) j 0 ≡ 0
filled_behind a n xs ys m e q j h l = rw e (search (rules, at_places))

pub filled_order : (b : Table) (r x y : List ℕ) (kept i : ℕ) → Loose b r → Sifting b r x kept i → places ≤ i → length y ≡ places
    → ((j : ℕ) → j < kept → get_or y j 0 ≡ get_or x j 0) → ((j : ℕ) → kept ≤ j → j < places → get_or y j 0 ≡ 0) → y ≡ order_of b
filled_order b r x y kept i g s h long same rest = order_is b y long chained
  where
    old : (j : ℕ) → j < kept → place_on y j ≡ place_on x j
    old j m = ap named (same j m)

    inside : (j : ℕ) → j < places → place_on y j < places → j < kept
    inside j l m = ⊎_elim (λ n. absurd (omega (arith, named_none (get_or y j 0) (rest j n l)))) (λ n. n) (from? kept j)

    chained : Chained b y
    chained =
        record {
          used = λ j l m. let n = inside j l m in subst (Used b) (sym (old j n)) (s.used j n);
          all = λ p l u.
              let o = g.all p l u in
              let f = s.all o.at (omega (arith, o.here)) (omega (arith, o.is)) (subst (Used b) (sym o.is) u) in
              record { at = f.at; here = omega (arith, f.here, s.fewer, s.most); is = old f.at f.here ∙ f.is ∙ o.is };
          rises = λ j k m l o.
              let n = inside k l o in
              let e = old j (omega arith) in
              (omega (arith, e, s.low j (omega arith)), omega (arith, ap (version_at b) e, ap (version_at b) (old k n), s.up j k m n));
          rest = λ j l m. ⊎_elim (λ n. rest j n l) (λ n. absurd (omega (arith, s.low j n, old j n))) (from? kept j);
        }
