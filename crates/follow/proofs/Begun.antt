-- The table that a story begins with: each of its keys at one place, each version once; so what it begins with is in order. Assumes nothing.
use Prim.Native.Nat.{ℕ, ◌≤◌, ◌<◌}
use native.Mathlib.Omega.{arith}
use mathlib.Core.Path.{◌≡◌, refl, sym, ap, ◌∙◌}
use mathlib.Core.Bool.{Bool, true, false, not, cond}
use mathlib.Core.List.{List}
use mathlib.Core.Option.{Option, none, some}
use mathlib.Core.Logic.{◌⊎◌, ⊎_elim}
use lib.Dec.{eqb}
use borrow.Author.Tests.{eq-eqb, ne_eqb, lt-ltb, le-ltb}
use Rattle.board_record.specs.Sizes.{places}
use Rattle.board_record.specs.Table.{Table, key_at, version_at, length_at, Used}
use Rattle.board_record.specs.Search.{place_of, KeyPlace}
use Rattle.board_record.specs.Proper.{Proper}
use Rattle.board_record.proofs.Logic.{same?, from?}
use Rattle.board_record.proofs.Search.{key_place_is, key_place_found}
use Rattle.board_record.proofs.Proper.{proper_sound}
use Rattle.board_rules.specs.Rules.{has_path}
use Rattle.follow.specs.Story.{HeldPath, path_at, beginning, begun, held, last}
use Rattle.follow.specs.Ordered.{Ordered}

-- the path at a place, or none where it is a removal
abbrev pub path_in : Table → List ℕ → ℕ → Option HeldPath
path_in b store i = cond (eqb (length_at b i) 0) none (some (path_at b store i))

pub path_mark : (b : Table) (store : List ℕ) (i : ℕ) → length_at b i ≡ 0 → path_in b store i ≡ none
path_mark b store i e = rw (eq-eqb (length_at b i) 0 e)

pub path_there : (b : Table) (store : List ℕ) (i : ℕ) → (length_at b i ≡ 0 → ⊥) → path_in b store i ≡ some (path_at b store i)
path_there b store i n = rw (ne_eqb (length_at b i) 0 n)

module _ (b : Table) (store : List ℕ) (p : Proper b) (k : ℕ) where
  -- a key has a place, or none
  last_at : place_of b k < places → last (begun (beginning b store)) k ≡ version_at b (place_of b k)
  unfolding last
  last_at l = rw (lt-ltb (place_of b k) places l)

  last_none : places ≤ place_of b k → last (begun (beginning b store)) k ≡ 0
  unfolding last
  last_none l = rw (le-ltb (place_of b k) places l)

  held_at : place_of b k < places → held (begun (beginning b store)) k ≡ path_in b store (place_of b k)
  unfolding held has_path
  held_at l = rw (lt-ltb (place_of b k) places l) (go (eqb (length_at b (place_of b k)) 0))
    where
      go : (x : Bool) → cond (not x) (some (path_at b store (place_of b k))) none ≡ cond x none (some (path_at b store (place_of b k)))
      go true = refl
      go false = refl

  held_none : places ≤ place_of b k → held (begun (beginning b store)) k ≡ none
  unfolding held has_path
  held_none l = rw (le-ltb (place_of b k) places l)

  pub begun_le : last (begun (beginning b store)) k ≤ b.version
  begun_le = ⊎_elim (λ l. omega (arith, last_none l)) (λ l. omega (arith, last_at l, (proper_sound b p (place_of b k) l).high)) (from? places (place_of b k))

  pub begun_none : last (begun (beginning b store)) k ≤ 0 → held (begun (beginning b store)) k ≡ none
  begun_none z = ⊎_elim held_none here (from? places (place_of b k))
    where
      here : place_of b k < places → held (begun (beginning b store)) k ≡ none
      here l =
          let s = proper_sound b p (place_of b k) l in
          ⊎_elim (λ e. held_at l ∙ path_mark b store (place_of b k) (s.none e).1) (λ u. absurd (omega (arith, last_at l, s.low u))) (same? (key_at b (place_of b k)) 0)

  pub begun_there : 0 < last (begun (beginning b store)) k → KeyPlace b k (place_of b k) × Used b (place_of b k) × (last (begun (beginning b store)) k ≡ version_at b (place_of b k))
  begun_there v =
      ⊎_elim (λ l. absurd (omega (arith, last_none l)))
      (λ l. (key_place_is b k l, (λ e. omega (arith, last_at l, ((proper_sound b p (place_of b k) l).none e).0)), last_at l))
      (from? places (place_of b k))

module _ (b : Table) (store : List ℕ) (p : Proper b) where
  pub begun_one : (j k : ℕ) → last (begun (beginning b store)) j ≡ last (begun (beginning b store)) k → 0 < last (begun (beginning b store)) j → j ≡ k
  begun_one j k e v =
      let x = begun_there b store p j v in
      let y = begun_there b store p k (omega arith) in
      let z : place_of b j ≡ place_of b k = p.versions_distinct (place_of b j) (place_of b k) x.0.here y.0.here x.1 (sym x.2 ∙ e ∙ y.2) in
      sym x.0.key ∙ ap (key_at b) z ∙ y.0.key

  pub begun_zero : last (begun (beginning b store)) 0 ≡ 0
  begun_zero = ⊎_elim (last_none b store p 0) (λ l. last_at b store p 0 l ∙ ((proper_sound b p (place_of b 0) l).none (key_place_is b 0 l).key).0) (from? places (place_of b 0))

  pub begun_here : (i : ℕ) → i < places → Used b i → (last (begun (beginning b store)) (key_at b i) ≡ version_at b i) × (held (begun (beginning b store)) (key_at b i) ≡ path_in b store i)
  begun_here i l u =
      let e : place_of b (key_at b i) ≡ i = key_place_found b p (key_at b i) i u (record { here = l; key = refl }) in
      let m : place_of b (key_at b i) < places = omega arith in
      (last_at b store p (key_at b i) m ∙ ap (version_at b) e, held_at b store p (key_at b i) m ∙ ap (path_in b store) e)

  -- a proper table and its store begin a story in order
  pub begun_ordered : Ordered (beginning b store)
  unfolding last held
  begun_ordered = record { last_most = begun_le b store p; last_apart = begun_one; none_held = begun_none b store p }
