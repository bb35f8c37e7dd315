-- The sweep of a compaction, place by place: so far the first i places are swept and the others as they were (`Sweeping`), a turn takes one place more,
-- and at the end both lists are those of the compacted table. Assumes nothing.
use Prim.Native.Nat.{ℕ, suc, ◌+◌, ◌<◌, ◌≤◌, max}
use native.Mathlib.Numerals.{add-one}
use native.Mathlib.Omega.{arith}
use mathlib.Core.Path.{◌≡◌, refl, ap, ◌∙◌}
use mathlib.Core.Bool.{Bool, true, false, not, cond, ◌&&◌}
use mathlib.Core.List.{List, [], ◌++◌, append-nil, append_assoc}
use lib.ListN.{length, get_or, set, drop, length-set, drop_of_length-le}
use lib.Seq.{drop-cons, set_at, get_or_at, set-get_or}
use lib.Dec.{eqb, leb}
use borrow.Author.Tests.{not-true, not-false}
use Rattle.board_record.specs.Table.{table_of, removal_b}
use Rattle.board_record.specs.Lists.{row}
use Rattle.board_record.proofs.Lists.{length_row}
use Rattle.board_rules.specs.Compact.{dropped, compacted}
use Rattle.board_sweep.specs.Sweep.{keys_kept, versions_kept}

-- the first i places are swept, the others as they were
unfoldable pub swept : (ℕ → ℕ) → List ℕ → ℕ → List ℕ
swept f xs i = row f i ++ drop i xs

swept_none : (f : ℕ → ℕ) (xs : List ℕ) → xs ≡ swept f xs 0
unfolding swept row
swept_none f xs = refl

swept_here : (f : ℕ → ℕ) (xs : List ℕ) (i : ℕ) → i < length xs → get_or (swept f xs i) i 0 ≡ get_or xs i 0
unfolding swept
swept_here f xs i l = rw (drop-cons xs i 0 l) (get_or_at (row f i) (get_or xs i 0) (drop (suc i) xs) 0 i (length_row f i))

swept_more : (f : ℕ → ℕ) (xs : List ℕ) (i x : ℕ) → i < length xs → x ≡ f i → set (swept f xs i) i x ≡ swept f xs (i + 1)
unfolding swept row
swept_more f xs i x l e =
    rw (drop-cons xs i 0 l, e)
    (set_at (row f i) (get_or xs i 0) (drop (suc i) xs) (f i) i (length_row f i) ∙ rw (add-one, row, append_assoc))

swept_done : (f : ℕ → ℕ) (xs : List ℕ) (i : ℕ) → length xs ≡ 128 → i ≤ 128 → 128 ≤ i → swept f xs i ≡ row f 128
unfolding swept
swept_done f xs i n h l =
    let q : i ≡ 128 = omega arith in
    let e : drop 128 xs ≡ [] = drop_of_length-le xs {i = 128} (omega arith) in
    rw (q, e, append-nil)

and_swap : (x y : Bool) → x && y ≡ y && x
and_swap true true = refl
and_swap true false = refl
and_swap false true = refl
and_swap false false = refl

-- ---- keys and versions together
abbrev key_left : List ℕ → List ℕ → List ℕ → ℕ → ℕ → ℕ
key_left ks vs ls m i = cond (dropped (table_of ks vs ls 0 0 []) m i) 0 (get_or ks i 0)

abbrev version_left : List ℕ → List ℕ → List ℕ → ℕ → ℕ → ℕ
version_left ks vs ls m i = cond (dropped (table_of ks vs ls 0 0 []) m i) 0 (get_or vs i 0)

pub record Sweeping (ks vs ls : List ℕ) (m i : ℕ) (xs ys : List ℕ) : Type 0 where
  pub keys_long : length xs ≡ 128
  pub versions_long : length ys ≡ 128
  pub keys : xs ≡ swept (key_left ks vs ls m) ks i
  pub versions : ys ≡ swept (version_left ks vs ls m) vs i

module _ (ks vs ls : List ℕ) (m : ℕ) (k : length ks ≡ 128) (v : length vs ≡ 128) where
  pub sweep_none : Sweeping ks vs ls m 0 ks vs
  sweep_none = record { keys_long = k; versions_long = v; keys = swept_none (key_left ks vs ls m) ks; versions = swept_none (version_left ks vs ls m) vs }

  sweep_more : (i : ℕ) (xs ys : List ℕ) (gone : Bool) (x y : ℕ) → Sweeping ks vs ls m i xs ys → i < 128
      → gone ≡ (eqb (get_or ls i 0) 0 && not (eqb (get_or xs i 0) 0) && leb (get_or ys i 0) m)
      → x ≡ cond gone 0 (get_or xs i 0)
      → y ≡ cond gone 0 (get_or ys i 0)
      → Sweeping ks vs ls m (i + 1) (set xs i x) (set ys i y)
  unfolding dropped removal_b
  sweep_more i xs ys gone x y r l g p q =
      let a : get_or xs i 0 ≡ get_or ks i 0 = ap (λ (z : List ℕ). get_or z i 0) r.keys ∙ swept_here (key_left ks vs ls m) ks i (omega arith) in
      let b : get_or ys i 0 ≡ get_or vs i 0 = ap (λ (z : List ℕ). get_or z i 0) r.versions ∙ swept_here (version_left ks vs ls m) vs i (omega arith) in
      let h : gone ≡ dropped (table_of ks vs ls 0 0 []) m i = rw (a, b) at g ∙ rw (and_swap (eqb (get_or ls i 0) 0) (not (eqb (get_or ks i 0) 0))) in
      record {
        keys_long = length-set xs i x ∙ r.keys_long;
        versions_long = length-set ys i y ∙ r.versions_long;
        keys = ap (λ (z : List ℕ). set z i x) r.keys ∙ swept_more (key_left ks vs ls m) ks i x (omega arith) (rw (h, a) at p);
        versions = ap (λ (z : List ℕ). set z i y) r.versions ∙ swept_more (version_left ks vs ls m) vs i y (omega arith) (rw (h, b) at q);
      }

  -- a place whose mark is dropped, and one that stays
  pub sweep_take : (i : ℕ) (xs ys : List ℕ) (gone : Bool) → Sweeping ks vs ls m i xs ys → i < 128
      → gone ≡ (eqb (get_or ls i 0) 0 && not (eqb (get_or xs i 0) 0) && leb (get_or ys i 0) m)
      → not gone ≡ false
      → Sweeping ks vs ls m (i + 1) (set xs i 0) (set ys i 0)
  sweep_take i xs ys gone r l g t = sweep_more i xs ys gone 0 0 r l g (rw (not-false gone t)) (rw (not-false gone t))

  pub sweep_skip : (i : ℕ) (xs ys : List ℕ) (gone : Bool) → Sweeping ks vs ls m i xs ys → i < 128
      → gone ≡ (eqb (get_or ls i 0) 0 && not (eqb (get_or xs i 0) 0) && leb (get_or ys i 0) m)
      → not gone ≡ true
      → Sweeping ks vs ls m (i + 1) xs ys
  sweep_skip i xs ys gone r l g t =
      rw (set-get_or xs i 0, set-get_or ys i 0) at (sweep_more i xs ys gone (get_or xs i 0) (get_or ys i 0) r l g (rw (not-true gone t)) (rw (not-true gone t)))

  pub sweep_keys : (i : ℕ) (xs ys : List ℕ) → Sweeping ks vs ls m i xs ys → i ≤ 128 → 128 ≤ i → xs ≡ keys_kept ks vs ls m 128
  unfolding keys_kept
  sweep_keys i xs ys r h l = r.keys ∙ swept_done (key_left ks vs ls m) ks i k h l

  pub sweep_versions : (i : ℕ) (xs ys : List ℕ) → Sweeping ks vs ls m i xs ys → i ≤ 128 → 128 ≤ i → ys ≡ versions_kept ks vs ls m 128
  unfolding versions_kept
  sweep_versions i xs ys r h l = r.versions ∙ swept_done (version_left ks vs ls m) vs i v h l

-- ---- the board that a compaction leaves
pub compacted_is : (ks vs ls : List ℕ) (version floor : ℕ) (fs : List ℕ) (m f : ℕ) (xs ys : List ℕ) → xs ≡ keys_kept ks vs ls m 128 → ys ≡ versions_kept ks vs ls m 128 → f ≡ max floor m
    → table_of xs ys ls version f fs ≡ compacted (table_of ks vs ls version floor fs) m
unfolding compacted keys_kept versions_kept dropped removal_b
compacted_is ks vs ls version floor fs m f xs ys p q r = rw (p, q, r)
