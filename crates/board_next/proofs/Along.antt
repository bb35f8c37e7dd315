-- The next change, along the order: no place before number i is wanted (`Along`). The first wanted one has the smallest version, since versions rise; and where the
-- places on the order end there is none. Assumes nothing.
use Prim.Native.Nat.{ℕ, ◌+◌, ◌<◌, ◌≤◌}
use native.Mathlib.Omega.{arith}
use mathlib.Core.Path.{◌≡◌, sym, ap, ◌∙◌, subst}
use mathlib.Core.Bool.{true}
use mathlib.Core.List.{List}
use mathlib.Core.Logic.{◌⊎◌, inl, inr, ⊎_elim}
use Rattle.board_record.specs.Sizes.{places}
use Rattle.board_record.specs.Table.{Table, version_at, length_at, Used}
use Rattle.board_record.specs.Search.{Wanted, path, removal, NextChange, next_of}
use Rattle.board_record.specs.Proper.{proper_b}
use Rattle.board_record.specs.Order.{place_on, Chained, in_order}
use Rattle.board_record.proofs.Logic.{same?, from?}
use Rattle.board_record.proofs.Search.{wanted_used, next_is, next_none, next_one, next_most}
use Rattle.board_record.proofs.Proper.{proper_is}
use Rattle.board_order.specs.Above.{first_above}
use Rattle.board_order.proofs.Chains.{proper_apart, in_chained}
use Rattle.board_order.proofs.Halves.{above_is, not_above, before_first, from_first, above_most}

wanted_above : (b : Table) (s w i : ℕ) → Wanted b s w i → w < version_at b i
wanted_above b s w i (path p l) = l
wanted_above b s w i (removal r l m) = l

pub record Along (b : Table) (order : List ℕ) (s w i : ℕ) : Type 0 where
  pub most : i ≤ places
  pub from : first_above b.versions order w ≤ i
  pub passed : (j : ℕ) → j < i → j < places → Wanted b s w (place_on order j) → ⊥

module _ (b : Table) (order : List ℕ) (p : proper_b b ≡ true) (o : in_order b order ≡ true) (s w : ℕ) where
  pub on_chain : Chained b order
  on_chain = in_chained b order (proper_apart b (proper_is b p)) o

  pub along_start : (i : ℕ) → i ≡ first_above b.versions order w → Along b order s w i
  along_start i e =
      rw e
      (record {
        most = above_most b.versions order w;
        from = omega arith;
        passed = λ j l m x. omega (arith, wanted_above b s w (place_on order j) x, (not_above b.versions order w j (before_first b.versions order w j l m)).1);
      })

  -- a removal not above s is passed
  pub along_more : (i q : ℕ) → Along b order s w i → i < places → q ≡ place_on order i → version_at b q ≤ s → length_at b q ≡ 0 → Along b order s w (i + 1)
  along_more i q a l e h z =
      record {
        most = omega arith;
        from = omega (arith, a.from);
        passed = λ j k m x. ⊎_elim (λ y. not_this (subst (Wanted b s w) (ap (λ (n : ℕ). place_on order n) y ∙ sym e) x)) (λ d. a.passed j (omega (arith, d)) m x) (same? j i);
      }
    where
      not_this : Wanted b s w q → ⊥
      not_this (path y g) = y.body z
      not_this (removal y g m) = omega arith

  above_w : (i : ℕ) → Along b order s w i → i < places → place_on order i < places → w < version_at b (place_on order i)
  above_w i a l h = above_is b.versions order w i (from_first b.versions order w on_chain.rises i a.from l) h

  -- the first that is wanted
  found : (i : ℕ) → Along b order s w i → i < places → place_on order i < places → Wanted b s w (place_on order i) → place_on order i ≡ next_of b s w
  found i a l h x = ⊎_elim (λ m. absurd (next_none b s w m (place_on order i) h x)) (λ m. next_one b (proper_is b p) s w (place_on order i) (next_of b s w) this (next_is b s w m))
      (from? places (next_of b s w))
    where
      this : NextChange b s w (place_on order i)
      this =
          record {
            here = h;
            wanted = x;
            smallest = λ q m y.
                let n = on_chain.all q m (wanted_used b s w q y) in
                ⊎_elim (λ k. ⊎_elim (λ e. omega (arith, ap (version_at b) (ap (λ (z : ℕ). place_on order z) e ∙ n.is)))
                (λ d. omega (arith, (on_chain.rises i n.at (omega (arith, d)) n.here (omega (arith, n.is))).1, ap (version_at b) n.is)) (same? i n.at))
                (λ k. absurd (a.passed n.at k n.here (subst (Wanted b s w) (sym n.is) y))) (from? i n.at);
          }

  wanted_if : (q : ℕ) → Used b q → w < version_at b q → (s < version_at b q) ⊎ (length_at b q ≡ 0 → ⊥) → Wanted b s w q
  wanted_if q u h (inl m) = ⊎_elim (λ z. removal (record { used = u; bare = z }) h m) (λ z. path (record { used = u; body = z }) h) (same? (length_at b q) 0)
  wanted_if q u h (inr z) = path (record { used = u; body = z }) h

  pub found_next : (i q : ℕ) → Along b order s w i → i < places → q ≡ place_on order i → q < places → (s < version_at b q) ⊎ (length_at b q ≡ 0 → ⊥) → q ≡ next_of b s w
  found_next i q a l e h m =
      let g : place_on order i < places = omega arith in
      e ∙ found i a l g (subst (Wanted b s w) e (wanted_if q (subst (Used b) (sym e) (on_chain.used i l g)) (subst (λ (y : ℕ). w < version_at b y) (sym e) (above_w i a l g)) m))

  pub found_newer : (i q : ℕ) → Along b order s w i → i < places → q ≡ place_on order i → q < places → s < version_at b q → q ≡ next_of b s w
  found_newer i q a l e h m = found_next i q a l e h (inl m)

  pub found_path : (i q : ℕ) → Along b order s w i → i < places → q ≡ place_on order i → q < places → (length_at b q ≡ 0 → ⊥) → q ≡ next_of b s w
  found_path i q a l e h m = found_next i q a l e h (inr m)

  -- none is left
  none : ((q : ℕ) → q < places → Wanted b s w q → ⊥) → places ≡ next_of b s w
  none f = ⊎_elim (λ m. let g = next_most b s w in omega arith) (λ m. absurd (f (next_of b s w) m (next_is b s w m).wanted)) (from? places (next_of b s w))

  pub none_here : (i q : ℕ) → Along b order s w i → i < places → q ≡ place_on order i → places ≤ q → places ≡ next_of b s w
  none_here i q a l e h =
      none (λ k m x. let n = on_chain.all k m (wanted_used b s w k x) in
      ⊎_elim (λ y. ⊎_elim (λ z. omega (arith, ap (λ (u : ℕ). place_on order u) z, n.is))
      (λ d. omega (arith, (on_chain.rises i n.at (omega (arith, d)) n.here (omega (arith, n.is))).0)) (same? i n.at))
      (λ y. a.passed n.at y n.here (subst (Wanted b s w) (sym n.is) x)) (from? i n.at))

  pub none_left : (i : ℕ) → Along b order s w i → places ≤ i → places ≡ next_of b s w
  none_left i a h =
      none (λ k m x. let n = on_chain.all k m (wanted_used b s w k x) in a.passed n.at (omega (arith, n.here)) n.here (subst (Wanted b s w) (sym n.is) x))
