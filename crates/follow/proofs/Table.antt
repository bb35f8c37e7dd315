-- The table against the story: what a follower lacks stands at a place that the search wants, and the other way round, unless its mark is below the
-- floor; so the place found is that of the oldest change that it lacks. Assumes nothing.
use Prim.Native.Nat.{ℕ, ◌≤◌, ◌<◌, max}
use native.Mathlib.Omega.{arith}
use mathlib.Core.Path.{◌≡◌, refl, sym, ap, ◌∙◌}
use mathlib.Core.Bool.{Bool, true, false, cond}
use mathlib.Core.List.{List}
use mathlib.Core.Option.{none, some}
use mathlib.Core.Logic.{◌⊎◌, inl, ⊎_elim}
use lib.ListN.{length}
use lib.Dec.{eqb}
use borrow.Author.Tests.{eqb-true}
use Rattle.board_record.specs.Sizes.{places, store_size}
use Rattle.board_record.specs.Table.{Table, key_at, version_at, length_at, Used, ListsWhole}
use Rattle.board_record.specs.Search.{Wanted, next_of}
use Rattle.board_record.specs.Search.Wanted.{path, removal}
use Rattle.board_record.specs.Proper.{Proper}
use Rattle.board_record.proofs.Logic.{same?}
use Rattle.board_record.proofs.Search.{wanted_used}
use Rattle.board_record.proofs.Search as searches
use Rattle.follow.specs.Story.{Story, path_at, beginning, begun, version, held, last}
use Rattle.follow.specs.Ordered.{Ordered, beginning_of}
use Rattle.follow.specs.Follower.{Lacks, Oldest}
use Rattle.follow.proofs.Cases.{some≢none}
use Rattle.follow.proofs.Begun.{path_in, path_mark, begun_zero, begun_here, begun_there, begun_ordered}

-- A used place holds its key's last change. A key that was changed has a place, or its removal was dropped at or below the floor.
pub record StandsFor (b : Table) (store : List ℕ) (h : Story) : Type 0 where
  pub proper : Proper b
  pub sized : ListsWhole b
  pub enough : store_size ≤ length store
  pub ordered : Ordered (beginning_of h)
  pub version_is : b.version ≡ version h
  pub zero_not : last h 0 ≡ 0
  pub here : (i : ℕ) → i < places → Used b i → (last h (key_at b i) ≡ version_at b i) × (held h (key_at b i) ≡ path_in b store i)
  pub there : (k : ℕ) → 0 < last h k → ((i : ℕ) × (i < places) × (key_at b i ≡ k)) ⊎ ((held h k ≡ none) × (last h k ≤ b.floor))

pub path_none : (b : Table) (store : List ℕ) (i : ℕ) → path_in b store i ≡ none → length_at b i ≡ 0
path_none b store i e = go (eqb (length_at b i) 0) refl e
  where
    go : (x : Bool) → eqb (length_at b i) 0 ≡ x → cond x none (some (path_at b store i)) ≡ none → length_at b i ≡ 0
    go true p q = eqb-true (length_at b i) 0 p
    go false p q = absurd (some≢none (path_at b store i) q)

-- ---- the next change

module _ (b : Table) (store : List ℕ) (h : Story) (s w : ℕ) (r : StandsFor b store h) where
  -- a place is wanted exactly if its key's last change is lacked
  wanted_lacks : (i : ℕ) → i < places → Wanted b s w i → Lacks h s w (key_at b i)
  wanted_lacks i l (path p v) = let g = r.here i l p.used in
      record { newer = omega (arith, g.0); needed = λ z. absurd (p.body (path_none b store i (sym g.1 ∙ z))) }
  wanted_lacks i l (removal p v u) = let g = r.here i l p.used in
      record { newer = omega (arith, g.0); needed = λ z. omega (arith, g.0) }

  lacks_wanted : (i : ℕ) → i < places → Used b i → Lacks h s w (key_at b i) → Wanted b s w i
  lacks_wanted i l n x =
      let g = r.here i l n in
      ⊎_elim
      (λ e. removal (record { used = n; bare = e }) (omega (arith, x.newer, g.0)) (omega (arith, g.0, x.needed (g.1 ∙ path_mark b store i e))))
      (λ e. path (record { used = n; body = e }) (omega (arith, x.newer, g.0)))
      (same? (length_at b i) 0)

  -- a key whose last change is lacked has a place, unless the mark is below the floor
  lacks_place : b.floor ≤ max s w → (k : ℕ) → Lacks h s w k → (i : ℕ) × (i < places) × (key_at b i ≡ k)
  lacks_place f k x = ⊎_elim (λ y. y) (λ y. absurd (omega (arith, x.newer, x.needed y.0, y.1))) (r.there k (omega (arith, x.newer)))

  lacks_used : (k i : ℕ) → Lacks h s w k → key_at b i ≡ k → Used b i
  lacks_used k i x e z = omega (arith, x.newer, r.zero_not, ap (last h) (sym e ∙ z))

  lacks_there : b.floor ≤ max s w → (k : ℕ) → Lacks h s w k → (i : ℕ) × (i < places) × (key_at b i ≡ k) × Wanted b s w i
  lacks_there f k x =
      let p = lacks_place f k x in
      (p.0, p.1, p.2, lacks_wanted p.0 p.1 (lacks_used k p.0 x p.2) (rw p.2 x))

  -- no place is found: nothing is lacked
  pub none_lacked : b.floor ≤ max s w → places ≤ next_of b s w → (k : ℕ) → Lacks h s w k → ⊥
  none_lacked f n k x = let p = lacks_there f k x in searches.next_none b s w n p.0 p.1 p.3

  -- a place is found: it holds the oldest change that is lacked
  pub oldest_lacked : b.floor ≤ max s w → next_of b s w < places
      → Oldest h s w (key_at b (next_of b s w)) (version_at b (next_of b s w)) × (held h (key_at b (next_of b s w)) ≡ path_in b store (next_of b s w))
  oldest_lacked f n =
      let c = searches.next_is b s w n in
      let i = next_of b s w in
      let g = r.here i n (wanted_used b s w i c.wanted) in (
        record {
          lacked = wanted_lacks i n c.wanted;
          first = λ j y.
              let p = lacks_there f j y in
              let m = c.smallest p.0 p.1 p.3 in
              let d = r.here p.0 p.1 (lacks_used j p.0 y p.2) in
              omega (arith, g.0, d.0, ap (last h) p.2);
          bears = g.0;
        },
        g.1,
      )

-- ---- the start

pub stands_begun : (b : Table) (store : List ℕ) (p : Proper b) → ListsWhole b → store_size ≤ length store → StandsFor b store (begun (beginning b store))
stands_begun b store p z g = record {
  proper = p;
  sized = z;
  enough = g;
  ordered = begun_ordered b store p;
  version_is = refl;
  zero_not = begun_zero b store p;
  here = begun_here b store p;
  there = λ k v. let x = begun_there b store p k v in inl (_, x.0.here, x.0.key);
}
