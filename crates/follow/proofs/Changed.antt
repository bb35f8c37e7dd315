-- A change at one place keeps the table in step with the story. Assumes nothing.
use Prim.Native.Nat.{ℕ, ◌+◌, ◌≤◌, ◌<◌}
use native.Mathlib.Omega.{arith}
use mathlib.Core.Path.{◌≡◌, sym, ap, ◌∙◌}
use mathlib.Core.List.{List}
use mathlib.Core.Option.{none}
use mathlib.Core.Logic.{◌⊎◌, inl, inr, ⊎_elim}
use lib.ListN.{length}
use lib.Seq.{get_or-set_same, get_or-set_other}
use Rattle.board_record.specs.Sizes.{places, key_least}
use Rattle.board_record.specs.Table.{Table, key_at, version_at, length_at, Used, bearing, changed}
use Rattle.board_record.specs.Proper.{Proper}
use Rattle.board_record.proofs.Logic.{same?}
use Rattle.board_record.proofs.Changed.{changed_sized}
use Rattle.follow.specs.Story.{Deed, Story, did, key_of, leaves, held, last}
use Rattle.follow.proofs.Begun.{path_in, path_mark}
use Rattle.follow.proofs.Keeps.{last_same, last_other, held_same, held_other}
use Rattle.follow.proofs.Table.{StandsFor}

-- what is asked of a change c at place i to n octets in form m, with floor f after it, and with the store st before and st' after it
pub record Fits (b : Table) (st st' : List ℕ) (c : Deed) (i n m f : ℕ) : Type 0 where
  pub proper : Proper (changed b i (bearing b (key_of c) n m) f)
  pub place : i < places
  pub low : key_least ≤ key_of c
  pub alone : (j : ℕ) → j < places → (i ≡ j → ⊥) → key_at b j ≡ key_of c → ⊥
  pub rises : b.floor ≤ f
  pub dropped : Used b i → (key_at b i ≡ key_of c → ⊥) → (length_at b i ≡ 0) × (version_at b i ≤ f)
  pub body : path_in (changed b i (bearing b (key_of c) n m) f) st' i ≡ leaves c
  pub store : length st' ≡ length st
  pub others : (j : ℕ) → j < places → (i ≡ j → ⊥) → path_in (changed b i (bearing b (key_of c) n m) f) st' j ≡ path_in b st j

module _ (b : Table) (st st' : List ℕ) (h : Story) (c : Deed) (i n m f : ℕ) (r : StandsFor b st h) (x : Fits b st st' c i n m f) where
  -- the board after it
  abbrev b' : Table
  b' = changed b i (bearing b (key_of c) n m) f

  key_same : key_at b' i ≡ key_of c
  key_same = get_or-set_same b.keys i (key_of c) 0 (omega (arith, x.place, r.sized.keys))

  ver_same : version_at b' i ≡ b.version + 1
  ver_same = get_or-set_same b.versions i (b.version + 1) 0 (omega (arith, x.place, r.sized.versions))

  module _ (j : ℕ) (d : i ≡ j → ⊥) where
    key_other : key_at b' j ≡ key_at b j
    key_other = get_or-set_other b.keys i j (key_of c) 0 (λ e. d (sym e))

    ver_other : version_at b' j ≡ version_at b j
    ver_other = get_or-set_other b.versions i j (b.version + 1) 0 (λ e. d (sym e))

  here_all : (j : ℕ) → j < places → Used b' j →
      (last (did c h) (key_at b' j) ≡ version_at b' j) × (held (did c h) (key_at b' j) ≡ path_in b' st' j)
  here_all j l z = ⊎_elim here_new here_old (same? i j)
    where
      here_new : i ≡ j → (last (did c h) (key_at b' j) ≡ version_at b' j) × (held (did c h) (key_at b' j) ≡ path_in b' st' j)
      here_new e =
          let k : key_at b' j ≡ key_of c = ap (key_at b') (sym e) ∙ key_same in (
            last_same c h (key_at b' j) (sym k) ∙ omega (arith, r.version_is, ap (version_at b') (sym e) ∙ ver_same),
            held_same c h (key_at b' j) (sym k) ∙ sym x.body ∙ ap (path_in b' st') e,
          )

      here_old : (i ≡ j → ⊥) → (last (did c h) (key_at b' j) ≡ version_at b' j) × (held (did c h) (key_at b' j) ≡ path_in b' st' j)
      here_old d =
          let a : key_of c ≡ key_at b j → ⊥ = λ y. x.alone j l d (sym y) in
          let g = r.here j l (λ y. z (key_other j d ∙ y)) in (
            ap (last (did c h)) (key_other j d) ∙ last_other c h (key_at b j) a ∙ g.0 ∙ sym (ver_other j d),
            ap (held (did c h)) (key_other j d) ∙ held_other c h (key_at b j) a ∙ g.1 ∙ sym (x.others j l d),
          )

  there_all : (k : ℕ) → 0 < last (did c h) k → ((j : ℕ) × (j < places) × (key_at b' j ≡ k)) ⊎ ((held (did c h) k ≡ none) × (last (did c h) k ≤ f))
  there_all k p = ⊎_elim
      (λ e. inl (i, x.place, key_same ∙ e))
      (λ d. ⊎_elim
      (λ y. ⊎_elim
      (λ e. let kk : key_at b i ≡ k = ap (key_at b) e ∙ y.2 in
      let u : Used b i = λ z. omega (arith, r.zero_not, last_other c h k d, ap (last h) (sym kk ∙ z)) in
      let g = r.here i x.place u in
      let o = x.dropped u (λ z. d (sym z ∙ kk)) in
      inr (held_other c h k d ∙ ap (held h) (sym kk) ∙ g.1 ∙ path_mark b st i o.0, omega (arith, last_other c h k d, ap (last h) kk, g.0, o.1)))
      (λ e. inl (y.0, y.1, key_other y.0 e ∙ y.2))
      (same? i y.0))
      (λ y. inr (held_other c h k d ∙ y.0, omega (arith, last_other c h k d, y.1, x.rises)))
      (r.there k (omega (arith, last_other c h k d))))
      (same? (key_of c) k)

  pub stands_changed : StandsFor (changed b i (bearing b (key_of c) n m) f) st' (did c h)
  stands_changed = record {
    proper = x.proper;
    sized = changed_sized b i (bearing b (key_of c) n m) f r.sized;
    enough = omega (arith, x.store, r.enough);
    ordered = r.ordered;
    version_is = omega (arith, r.version_is);
    zero_not = last_other c h 0 (λ z. omega (arith, x.low)) ∙ r.zero_not;
    here = here_all;
    there = there_all;
  }
