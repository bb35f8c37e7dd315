-- An accepted compaction keeps the table in step with the story. Assumes nothing.
use Prim.Native.Nat.{ℕ, ◌≤◌, ◌<◌, max}
use native.Mathlib.Omega.{arith}
use mathlib.Core.Path.{◌≡◌, refl, sym, ap, ◌∙◌}
use mathlib.Core.Bool.{Bool, true, false, cond}
use mathlib.Core.List.{List}
use mathlib.Core.Option.{none}
use mathlib.Core.Logic.{◌⊎◌, inl, inr, ⊎_elim}
use Rattle.board_record.specs.Sizes.{places}
use Rattle.board_record.specs.Table.{Table, key_at, version_at, length_at, form_at, Used}
use Rattle.board_rules.specs.Body.{octets_at}
use Rattle.board_record.proofs.Lists.{length_row}
use Rattle.board_rules.proofs.Keeps.{compacted_key, compacted_version, dropped_is, compacted_proper}
use Rattle.board_rules.specs.Compact.{dropped, compacted}
use Rattle.follow.specs.Story.{Story, compacted_to, held, last}
use Rattle.follow.proofs.Begun.{path_in, path_mark}
use Rattle.follow.proofs.Table.{StandsFor}

-- ---- a place that is dropped, and one that is not

drop_dec : (b : Table) (c i : ℕ) → (dropped b c i ≡ true) ⊎ (dropped b c i ≡ false)
drop_dec b c i = go (dropped b c i) refl
  where
    go : (x : Bool) → dropped b c i ≡ x → (dropped b c i ≡ true) ⊎ (dropped b c i ≡ false)
    go true e = inl e
    go false e = inr e

module _ (b : Table) (c i : ℕ) (l : i < places) where
  len_is : length_at (compacted b c) i ≡ length_at b i
  unfolding compacted
  len_is = refl

  form_is : form_at (compacted b c) i ≡ form_at b i
  unfolding compacted
  form_is = refl

  away : dropped b c i ≡ true → (key_at (compacted b c) i ≡ 0) × (version_at (compacted b c) i ≡ 0)
  away e = (compacted_key b c i l ∙ rw e, compacted_version b c i l ∙ rw e)

  stays : dropped b c i ≡ false → (key_at (compacted b c) i ≡ key_at b i) × (version_at (compacted b c) i ≡ version_at b i)
  stays e = (compacted_key b c i l ∙ rw e, compacted_version b c i l ∙ rw e)

  used_stays : Used (compacted b c) i → dropped b c i ≡ false
  used_stays u = ⊎_elim (λ e. absurd (u (away e).0)) (λ e. e) (drop_dec b c i)

-- ---- the table

module _ (b : Table) (st : List ℕ) (h : Story) (c : ℕ) (r : StandsFor b st h) (reached : c ≤ b.version) where
  here_compacted : (i : ℕ) → i < places → Used (compacted b c) i → (last h (key_at (compacted b c) i) ≡ version_at (compacted b c) i) ×
      (held h (key_at (compacted b c) i) ≡ path_in (compacted b c) st i)
  unfolding octets_at
  here_compacted i l u =
      let e = stays b c i l (used_stays b c i l u) in
      let g = r.here i l (λ z. u (e.0 ∙ z)) in
      rw (e.0, e.1, len_is b c i l, form_is b c i l) g

  there_compacted : (k : ℕ) → 0 < last h k → ((i : ℕ) × (i < places) × (key_at (compacted b c) i ≡ k)) ⊎ ((held h k ≡ none) × (last h k ≤ max b.floor c))
  there_compacted k p = ⊎_elim
      (λ y. ⊎_elim
      (λ e. let m = dropped_is b c y.0 e in let g = r.here y.0 y.1 m.0.used in
      inr (ap (held h) (sym y.2) ∙ g.1 ∙ path_mark b st y.0 m.0.bare, omega (arith, ap (last h) y.2, g.0, m.1)))
      (λ e. inl (y.0, y.1, (stays b c y.0 y.1 e).0 ∙ y.2))
      (drop_dec b c y.0))
      (λ y. inr (y.0, omega (arith, y.1)))
      (r.there k p)

  pub stands_compact : StandsFor (compacted b c) st (compacted_to c h)
  unfolding compacted held last
  stands_compact =
      record {
        proper = compacted_proper b c r.proper reached;
        sized = record {
          keys = length_row (λ i. cond (dropped b c i) 0 (key_at b i)) places;
          versions = length_row (λ i. cond (dropped b c i) 0 (version_at b i)) places;
          lengths = r.sized.lengths;
          forms = r.sized.forms;
        };
        enough = r.enough;
        ordered = r.ordered;
        version_is = r.version_is;
        zero_not = r.zero_not;
        here = here_compacted;
        there = there_compacted;
      }
