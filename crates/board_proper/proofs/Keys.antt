-- The keys so far: the buckets hold them all, and none is there twice (`Hashed`). Assumes nothing.
use Prim.Native.Nat.{ℕ, ◌+◌}
use mathlib.Core.Path.{◌≡◌, sym, ◌∙◌}
use mathlib.Core.Bool.{Bool, true, not, ◌&&◌}
use mathlib.Core.List.{List}
use lib.ListN.{get_or, replicate}
use lib.Dec.{eqb}
use Rattle.octets.proofs.Said.{both_true, or_true}
use Rattle.board_record.specs.Proper.{all_below, fresh_b, new_b}
use Rattle.board_record.proofs.All.{all_none, all_more}
use Rattle.board_order_numbers.specs.Buckets.{Heads, Links}
use Rattle.board_order_numbers.proofs.Laws.{no_heads, no_links}

pub record Hashed (xs hs ns : List ℕ) (i : ℕ) : Type 0 where
  pub heads : Heads xs hs i
  pub links : Links xs ns i
  pub fine : all_below (new_b xs) i ≡ true

pub hashed_none : (xs : List ℕ) → Hashed xs (replicate 1024 0) (replicate 128 0) 0
hashed_none xs = record { heads = no_heads xs; links = no_links xs; fine = all_none (new_b xs) }

-- one key more
new_fresh : (xs : List ℕ) (i k : ℕ) → k ≡ get_or xs i 0 → fresh_b xs i k ≡ true → new_b xs i ≡ true
unfolding new_b
new_fresh xs i k e t = rw (← e, t) (or_true (eqb k 0))

pub hashed_more : (xs hs ns : List ℕ) (i k : ℕ) (r : Bool) → all_below (new_b xs) i ≡ true → k ≡ get_or xs i 0 → r ≡ (not (eqb k 0) && fresh_b xs i k) → r ≡ true
    → (r ≡ true → Heads xs hs (i + 1) × Links xs ns (i + 1)) → Hashed xs hs ns (i + 1)
hashed_more xs hs ns i k r c e f t w =
    record {
      heads = (w t).0;
      links = (w t).1;
      fine = all_more (new_b xs) i c (new_fresh xs i k e (both_true (not (eqb k 0)) (fresh_b xs i k) (sym f ∙ t)).1);
    }
