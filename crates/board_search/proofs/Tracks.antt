-- A search that keeps the best place so far ends at the place of the smallest version. On a board an empty place has version 0, so the test that reads no
-- key is that of the table. Assumes nothing.
use Prim.Native.Nat.{ℕ, zero, suc, ◌+◌, ◌<◌, ◌≤◌}
use native.Mathlib.Numerals.{add-one}
use native.Mathlib.Omega.{arith}
use mathlib.Core.Path.{◌≡◌, refl, sym, ◌∙◌}
use mathlib.Core.Bool.{Bool, true, false, not, cond, ◌&&◌}
use mathlib.Core.List.{List}
use mathlib.Core.Logic.{◌⊎◌, inl, inr}
use lib.ListN.{get_or}
use lib.Dec.{eqb, ltb, leb}
use borrow.Author.Tests.{eq-eqb, ne_eqb, eqb-true, eqb-false, lt-ltb, le-leb, lt-leb}
use Rattle.octets.proofs.Said.{and_false, and_holding}
use Rattle.board_record.specs.Sizes.{places}
use Rattle.board_record.specs.Table.{Table, table_of, removal_b, entry_at}
use Rattle.board_record.specs.Search.{least_where, oldest_of}
use Rattle.board_record.specs.Proper.{proper_b}
use Rattle.board_record.proofs.Proper.{Sound, proper_b_sound, proper_is}
use Rattle.board_search.specs.Oldest.{bare}

pub least_none : (t : ℕ → Bool) (v : ℕ → ℕ) → places ≡ least_where t v 0
unfolding least_where
least_none t v = refl

-- ---- a turn of the loop: number i fails, is the first to pass, has a smaller value than the best so far, or not
module _ (t : ℕ → Bool) (v : ℕ → ℕ) (i : ℕ) where
  pub least_skip : (m : ℕ) → t i ≡ false → m ≡ least_where t v i → m ≡ least_where t v (i + 1)
  unfolding least_where
  least_skip m f e = rw (add-one i, least_where, f) e

  pub least_first : t i ≡ true → places ≡ least_where t v i → i ≡ least_where t v (i + 1)
  unfolding least_where
  least_first f e = rw (add-one i, least_where, f, ← e) refl

  pub least_less : (p : ℕ) → t i ≡ true → p ≡ least_where t v i → p < places → v i < v p → i ≡ least_where t v (i + 1)
  unfolding least_where
  least_less p f e l h = rw (add-one i, least_where, f, ← e, lt-ltb p 128 l, lt-leb (v p) (v i) h) refl

  pub least_keep : (p : ℕ) → p ≡ least_where t v i → p < places → v p ≤ v i → p ≡ least_where t v (i + 1)
  unfolding least_where
  least_keep p e l h = rw (add-one i, least_where, ← e, lt-ltb p 128 l, le-leb (v p) (v i) h, and_false (t i)) refl

least_same : (t u : ℕ → Bool) (v : ℕ → ℕ) (n : ℕ) → ((i : ℕ) → i < n → t i ≡ u i) → least_where t v n ≡ least_where u v n
unfolding least_where
least_same t u v zero f = refl
least_same t u v (suc n) f = rw (least_same t u v n (λ i l. f i (omega arith)), f n (omega arith))

-- the test of a place
pub bare_no : (v l : ℕ) → ((l ≡ 0 → ⊥) ⊎ (v ≡ 0)) → bare v l ≡ false
unfolding bare
bare_no v l (inl d) = rw (ne_eqb l 0 d)
bare_no v l (inr e) = rw (eq-eqb v 0 e) (and_false (eqb l 0))

pub bare_yes : (v l : ℕ) → l ≡ 0 → (v ≡ 0 → ⊥) → bare v l ≡ true
unfolding bare
bare_yes v l e d = rw (eq-eqb l 0 e, ne_eqb v 0 d)

-- ---- what the tests say on a board
module _ (ks vs ls : List ℕ) (version floor : ℕ) (fs : List ℕ) (p : proper_b (table_of ks vs ls version floor fs) ≡ true) where
  abbrev table : Table
  table = table_of ks vs ls version floor fs

  bare_is : (i : ℕ) → i < places → bare (get_or vs i 0) (get_or ls i 0) ≡ removal_b table i
  unfolding bare removal_b
  bare_is i l = go (eqb (get_or ks i 0) 0) refl (eqb (get_or ls i 0) 0)
    where
      o : Sound (entry_at table i) version floor
      o = proper_b_sound table p i l

      go : (x : Bool) → eqb (get_or ks i 0) 0 ≡ x → (y : Bool) → y && not (eqb (get_or vs i 0) 0) ≡ not x && y
      go true e y = rw (eq-eqb (get_or vs i 0) 0 (o.none (eqb-true (get_or ks i 0) 0 e)).0) (and_false y)
      go false e y = rw (ne_eqb (get_or vs i 0) 0 (λ z. omega (arith, o.low (eqb-false (get_or ks i 0) 0 e)))) (and_holding y)

  -- the search ends
  pub oldest_done : (i m : ℕ) → m ≡ least_where (λ j. bare (get_or vs j 0) (get_or ls j 0)) (λ j. get_or vs j 0) i → i ≤ places → places ≤ i → m ≡ oldest_of table
  unfolding oldest_of
  oldest_done i m r h l =
      let q : i ≡ 128 = omega arith in rw q at r ∙ least_same (λ j. bare (get_or vs j 0) (get_or ls j 0)) (removal_b table) (λ j. get_or vs j 0) 128 bare_is
