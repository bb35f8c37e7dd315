-- The largest version of a group, as a function and in the paper's words, both ways; and the largest versions once one place holds a higher one. Assumes nothing.
use Prim.Native.Nat.{ℕ, ◌+◌, ◌-◌, ◌*◌, ◌/◌, ◌<◌, ◌≤◌}
use native.Mathlib.Omega.{arith}
use mathlib.Core.Path.{◌≡◌, sym, ap, ◌∙◌}
use mathlib.Core.Bool.{true}
use mathlib.Core.List.{List}
use mathlib.Core.Logic.{◌⊎◌, inl, inr, ⊎_elim}
use lib.ListN.{get_or, set, length, length-set}
use lib.Seq.{ext_get_or, get_or-set_same, get_or-set_other}
use lib.Dec.{eqb}
use borrow.Author.Tests.{eq-eqb, eqb-true}
use Rattle.board_record.specs.Sizes.{places, group, groups}
use Rattle.board_record.specs.Table.{Table, key_at, version_at}
use Rattle.board_record.specs.Proper.{Proper}
use Rattle.board_record.specs.Tops.{in_group, Top, top_of, tops_of, in_tops}
use Rattle.board_record.proofs.Logic.{same?}
use Rattle.board_record.proofs.Lists.{length_row, row_at}
use Rattle.board_record.proofs.All.{all_of, all_at}
use Rattle.board_record.proofs.Looks.{max_most, max_is}

-- ---- one group
pub top_of_lem : (vs : List ℕ) (g : ℕ) → Top vs g (top_of vs g)
unfolding top_of
top_of_lem vs g = record { most = λ j l. max_most (in_group vs g) 8 j l; is = max_is (in_group vs g) 8 }

pub top_one : (vs : List ℕ) (g m : ℕ) → Top vs g m → m ≡ top_of vs g
top_one vs g m t = go t.is (top_of_lem vs g).is
  where
    go : (m ≡ 0) ⊎ ((j : ℕ) × (j < group) × (in_group vs g j ≡ m)) → (top_of vs g ≡ 0) ⊎ ((j : ℕ) × (j < group) × (in_group vs g j ≡ top_of vs g)) → m ≡ top_of vs g
    go (inl a) (inl b) = a ∙ sym b
    go (inl a) (inr b) = omega (arith, t.most b.0 b.1, b.2)
    go (inr a) (inl b) = omega (arith, (top_of_lem vs g).most a.0 a.1, a.2)
    go (inr a) (inr b) = omega (arith, t.most b.0 b.1, b.2, (top_of_lem vs g).most a.0 a.1, a.2)

-- ---- all groups
pub tops_long : (vs : List ℕ) → length (tops_of vs) ≡ groups
unfolding tops_of
tops_long vs = length_row (top_of vs) 16

pub tops_at : (vs : List ℕ) (g : ℕ) → g < groups → get_or (tops_of vs) g 0 ≡ top_of vs g
unfolding tops_of
tops_at vs g l = row_at (top_of vs) 16 g l

module _ (vs tops : List ℕ) where
  pub top_tops : ((g : ℕ) → g < groups → get_or tops g 0 ≡ top_of vs g) → in_tops vs tops ≡ true
  unfolding in_tops
  top_tops h = all_of (λ g. eqb (get_or tops g 0) (top_of vs g)) 16 (λ g l. eq-eqb (get_or tops g 0) (top_of vs g) (h g l))

  pub tops_top : in_tops vs tops ≡ true → (g : ℕ) → g < groups → get_or tops g 0 ≡ top_of vs g
  unfolding in_tops
  tops_top e g l = eqb-true (get_or tops g 0) (top_of vs g) (all_at (λ k. eqb (get_or tops k 0) (top_of vs k)) 16 e g l)

  pub tops_are : length tops ≡ groups → ((g : ℕ) → g < groups → get_or tops g 0 ≡ top_of vs g) → tops ≡ tops_of vs
  tops_are n h = ext_get_or 0 tops (tops_of vs) (n ∙ sym (tops_long vs)) (λ g l. h g (omega (arith, n)) ∙ sym (tops_at vs g (omega (arith, n))))

pub tops_in : (vs : List ℕ) → in_tops vs (tops_of vs) ≡ true
tops_in vs = top_tops vs (tops_of vs) (tops_at vs)

-- ---- a place holds a version above all
module _ (vs tops : List ℕ) (at v : ℕ) (n : length vs ≡ places) (m : length tops ≡ groups) (l : at < places)
    (above : (p : ℕ) → p < places → get_or vs p 0 < v) (e : in_tops vs tops ≡ true) where
  old : (p : ℕ) → (p ≡ at → ⊥) → get_or (set vs at v) p 0 ≡ get_or vs p 0
  old p d = get_or-set_other vs at p v 0 d

  top_there : Top (set vs at v) (at / 8) v
  top_there =
      record {
        most = λ j k.
            ⊎_elim (λ z. omega (arith, ap (λ (p : ℕ). get_or (set vs at v) p 0) z, get_or-set_same vs at v 0 (omega (arith, n))))
            (λ d. omega (arith, old (8 * (at / 8) + j) d, above (8 * (at / 8) + j) (omega arith))) (same? (8 * (at / 8) + j) at);
        is =
            let z : 8 * (at / 8) + (at - 8 * (at / 8)) ≡ at = omega arith in
            inr (at - 8 * (at / 8), omega arith, ap (λ (p : ℕ). get_or (set vs at v) p 0) z ∙ get_or-set_same vs at v 0 (omega (arith, n)));
      }

  top_else : (g : ℕ) → g < groups → (g ≡ at / 8 → ⊥) → Top (set vs at v) g (top_of vs g)
  top_else g k d =
      let t = top_of_lem vs g in
      let apart : (j : ℕ) → j < 8 → 8 * g + j ≡ at → ⊥ = λ j h z. d (omega arith) in
      record {
        most = λ j h. omega (arith, old (8 * g + j) (apart j h), t.most j h);
        is = ⊎_elim (λ z. inl z) (λ (y : (j : ℕ) × (j < 8) × (in_group vs g j ≡ top_of vs g)). inr (y.0, y.1, old (8 * g + y.0) (apart y.0 y.1) ∙ y.2)) t.is;
      }

  pub tops_raised : set tops (at / 8) v ≡ tops_of (set vs at v)
  tops_raised =
      tops_are (set vs at v) (set tops (at / 8) v) (length-set tops (at / 8) v ∙ m)
      (λ g k.
      ⊎_elim
      (λ z. ap (λ (h : ℕ). get_or (set tops (at / 8) v) h 0) z ∙ get_or-set_same tops (at / 8) v 0 (omega (arith, m)) ∙ top_one (set vs at v) (at / 8) v top_there
      ∙ ap (top_of (set vs at v)) (sym z))
      (λ d. get_or-set_other tops (at / 8) g v 0 d ∙ tops_top vs tops e g k ∙ top_one (set vs at v) g (top_of vs g) (top_else g k d)) (same? g (at / 8)))

-- ---- no version of a proper table is above the table's
pub versions_in : (b : Table) → Proper b → (p : ℕ) → p < places → version_at b p ≤ b.version
versions_in b q p l = ⊎_elim (λ e. omega (arith, q.empty_version p l e)) (λ u. q.most_version p l u) (same? (key_at b p) 0)
