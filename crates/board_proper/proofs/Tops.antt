-- The largest versions that the pass has met (`Topped`): where it ends well, they are those of the groups, so the record is proper if it has them. Assumes nothing.
use Prim.Native.Nat.{ℕ, ◌+◌, ◌-◌, ◌*◌, ◌/◌, ◌<◌, ◌≤◌}
use native.Mathlib.Omega.{arith}
use mathlib.Core.Path.{◌≡◌, sym, ap, ◌∙◌}
use mathlib.Core.Bool.{Bool, true, false, ◌&&◌}
use mathlib.Core.List.{List}
use mathlib.Core.Logic.{◌⊎◌, inl, inr, ⊎_elim}
use lib.ListN.{get_or, set, length, length-set, replicate, length-replicate, get_or-replicate}
use lib.Seq.{ext_get_or, get_or-set_same, get_or-set_other}
use lib.Dec.{eqb}
use borrow.Author.Tests.{eq-eqb, ne_eqb, eqb-true}
use Rattle.octets.proofs.Said.{both_true}
use Rattle.board_record.specs.Sizes.{places, group, groups}
use Rattle.board_record.specs.Table.{Table, key_at}
use Rattle.board_record.specs.Proper.{Proper, all_below, proper_b}
use Rattle.board_record.specs.Order.{place_on, Chained, in_order}
use Rattle.board_record.specs.Tops.{in_group, Top, top_of, in_tops}
use lib.Pointwise.{pointwise, bytes_decides}
use Rattle.board_record.proofs.All.{all_of, all_at}
use Rattle.board_record.proofs.Logic.{same?, from?, test_is}
use Rattle.board_record.proofs.Looks.{all_same}
use Rattle.board_record.proofs.Proper.{proper_is}
use Rattle.board_record.proofs.Tops.{top_one}
use Rattle.board_order.proofs.Names.{named_none}
use Rattle.board_order.proofs.Chains.{proper_apart, in_chained}
use Rattle.board_proper.proofs.Rising.{Risen}

-- group g's number came from number `at` of the order
pub record Came (vs order seen : List ℕ) (i g : ℕ) : Type 0 where
  pub at : ℕ
  pub here : at < i
  pub group : place_on order at / 8 ≡ g
  pub same : get_or seen g 0 ≡ get_or vs (place_on order at) 0

pub record Topped (vs order seen : List ℕ) (i : ℕ) : Type 0 where
  pub long : length seen ≡ groups
  pub above : (j : ℕ) → j < i → get_or vs (place_on order j) 0 ≤ get_or seen (place_on order j / 8) 0
  pub is : (g : ℕ) → g < groups → (get_or seen g 0 ≡ 0) ⊎ Came vs order seen i g

pub topped_none : (vs order : List ℕ) → Topped vs order (replicate 16 0) 0
topped_none vs order =
    record {
      long = length-replicate {A = ℕ} 16 0;
      above = λ j l. absurd (omega arith);
      is = λ g l. inl (get_or-replicate 16 g 0 0 l);
    }

pub topped_more : (vs order seen : List ℕ) (i last x v : ℕ) → Topped vs order seen i → Risen vs order i last → x ≡ place_on order i → x < places → v ≡ get_or vs x 0 → last < v
    → Topped vs order (set seen (x / 8) v) (i + 1)
topped_more vs order seen i last x v t r e l f h =
    record {
      long = length-set seen (x / 8) v ∙ t.long;
      above = λ j k. ⊎_elim (λ z. newest j z) (λ d. older j (omega (arith, d))) (same? j i);
      is = λ g k. ⊎_elim (λ z. inr (made g z)) (λ d. kept g k d (t.is g k)) (same? g (x / 8));
    }
  where
    there : get_or (set seen (x / 8) v) (x / 8) 0 ≡ v
    there = get_or-set_same seen (x / 8) v 0 (omega (arith, t.long))

    else : (g : ℕ) → (g ≡ x / 8 → ⊥) → get_or (set seen (x / 8) v) g 0 ≡ get_or seen g 0
    else g d = get_or-set_other seen (x / 8) g v 0 d

    newest : (j : ℕ) → j ≡ i → get_or vs (place_on order j) 0 ≤ get_or (set seen (x / 8) v) (place_on order j / 8) 0
    newest j z =
        let p : place_on order j ≡ x = ap (place_on order) z ∙ sym e in
        omega (arith, ap (λ (q : ℕ). get_or vs q 0) p, ap (λ (q : ℕ). get_or (set seen (x / 8) v) (q / 8) 0) p, there, f)

    older : (j : ℕ) → j < i → get_or vs (place_on order j) 0 ≤ get_or (set seen (x / 8) v) (place_on order j / 8) 0
    older j k =
        ⊎_elim (λ z. omega (arith, ap (λ (g : ℕ). get_or (set seen (x / 8) v) g 0) z, there, r.most j k))
        (λ d. omega (arith, else (place_on order j / 8) d, t.above j k)) (same? (place_on order j / 8) (x / 8))

    made : (g : ℕ) → g ≡ x / 8 → Came vs order (set seen (x / 8) v) (i + 1) g
    made g z =
        record {
          at = i;
          here = omega arith;
          group = ap (λ (q : ℕ). q / 8) (sym e) ∙ sym z;
          same = ap (λ (k : ℕ). get_or (set seen (x / 8) v) k 0) z ∙ there ∙ f ∙ ap (λ (q : ℕ). get_or vs q 0) e;
        }

    kept : (g : ℕ) → g < groups → (g ≡ x / 8 → ⊥) → (get_or seen g 0 ≡ 0) ⊎ Came vs order seen i g → (get_or (set seen (x / 8) v) g 0 ≡ 0) ⊎ Came vs order (set seen (x / 8) v) (i + 1) g
    kept g k d (inl z) = inl (else g d ∙ z)
    kept g k d (inr c) = inr (record { at = c.at; here = omega (arith, c.here); group = c.group; same = else g d ∙ c.same })

-- ---- where the pass ends well
module _ (b : Table) (order seen tops : List ℕ) (i last : ℕ) (l : i ≤ places) (t : Topped b.versions order seen i) (r : Risen b.versions order i last)
    (rest : (j : ℕ) → i ≤ j → j < places → get_or order j 0 ≡ 0) where
  top_seen : Proper b → Chained b order → (g : ℕ) → g < groups → Top b.versions g (get_or seen g 0)
  top_seen p c g k = record { most = λ j m. most j m (same? (key_at b (8 * g + j)) 0); is = came (t.is g k) }
    where
      most : (j : ℕ) → j < group → (key_at b (8 * g + j) ≡ 0) ⊎ (key_at b (8 * g + j) ≡ 0 → ⊥) → in_group b.versions g j ≤ get_or seen g 0
      most j m (inl z) = omega (arith, p.empty_version (8 * g + j) (omega arith) z)
      most j m (inr u) =
          let o = c.all (8 * g + j) (omega arith) u in
          let h : o.at < i = ⊎_elim (λ y. absurd (omega (arith, named_none (get_or order o.at 0) (rest o.at y o.here), o.is))) (λ y. y) (from? i o.at) in
          let q : place_on order o.at / 8 ≡ g = omega (arith, o.is) in
          omega (arith, t.above o.at h, ap (λ (y : ℕ). get_or b.versions y 0) o.is, ap (λ (y : ℕ). get_or seen y 0) q)

      came : (get_or seen g 0 ≡ 0) ⊎ Came b.versions order seen i g → (get_or seen g 0 ≡ 0) ⊎ ((j : ℕ) × (j < group) × (in_group b.versions g j ≡ get_or seen g 0))
      came (inl z) = inl z
      came (inr y) =
          let z : 8 * g + (place_on order y.at - 8 * g) ≡ place_on order y.at = omega (arith, y.group) in
          inr (place_on order y.at - 8 * g, omega (arith, y.group), ap (λ (q : ℕ). get_or b.versions q 0) z ∙ sym y.same)

  pub end_tops : (s : Bool) → true ≡ (proper_b b && in_order b order) → s ≡ all_below (λ g. eqb (get_or seen g 0) (get_or tops g 0)) groups
      → s ≡ (proper_b b && in_order b order && in_tops b.versions tops)
  unfolding in_tops
  end_tops s e q =
      let w = both_true (proper_b b) (in_order b order) (sym e) in
      let p = proper_is b w.0 in
      let c = in_chained b order (proper_apart b p) w.1 in
      q ∙ all_same (λ g. eqb (get_or seen g 0) (get_or tops g 0)) (λ g. eqb (get_or tops g 0) (top_of b.versions g)) 16
      (λ g k. ap (λ (m : ℕ). eqb m (get_or tops g 0)) (top_one b.versions g (get_or seen g 0) (top_seen p c g k)) ∙ turned (top_of b.versions g) (get_or tops g 0))
      ∙ rw (w.0, w.1)
    where
      turned : (m n : ℕ) → eqb m n ≡ eqb n m
      turned m n = ⊎_elim (λ z. rw z) (λ d. rw (ne_eqb m n d, ne_eqb n m (λ z. d (sym z)))) (same? m n)

-- a record that is not proper without its largest versions is not with them
pub no_tops : (b : Table) (order tops : List ℕ) → false ≡ (proper_b b && in_order b order) → false ≡ (proper_b b && in_order b order && in_tops b.versions tops)
no_tops b order tops e = rw (← e)

-- the code's test of two rows
pub rows_same : (xs ys : List ℕ) (r : Bool) → length xs ≡ 16 → length ys ≡ 16 → r ≡ pointwise eqb xs ys → r ≡ all_below (λ g. eqb (get_or xs g 0) (get_or ys g 0)) groups
rows_same xs ys r m n e =
    e
    ∙ test_is (pointwise eqb xs ys) (all_below (λ g. eqb (get_or xs g 0) (get_or ys g 0)) 16)
    (λ t. let q = (bytes_decides xs ys).0 t in all_of (λ g. eqb (get_or xs g 0) (get_or ys g 0)) 16 (λ g l. eq-eqb (get_or xs g 0) (get_or ys g 0) (ap (λ (zs : List ℕ). get_or zs g 0) q)))
    (λ t. (bytes_decides xs ys).1
    (ext_get_or 0 xs ys (m ∙ sym n)
    (λ i l. eqb-true (get_or xs i 0) (get_or ys i 0) (all_at (λ g. eqb (get_or xs g 0) (get_or ys g 0)) 16 t i (omega (arith, m))))))
