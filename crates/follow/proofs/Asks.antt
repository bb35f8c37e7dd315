-- A follower touches itself only. Assumes nothing.
use Prim.Native.Nat.{ℕ}
use mathlib.Core.Path.{◌≡◌, refl, ap, ◌∙◌}
use mathlib.Core.Bool.{Bool}
use lib.Dec.{eqb}
use borrow.Author.Tests.{eq-eqb, ne_eqb}
use Rattle.octets.proofs.Said.{cond_yes, cond_no}
use Rattle.follow.specs.Follower.{Follower, fresh}
use Rattle.follow.specs.Heard.{Heard, refusal, change, level, does, cut_off}
use Rattle.follow.specs.Run.{World, begin, ask, ask_cut, answer_to, following, step}

-- the world, but for follower n, is as it was
pub record Untouched (x y : World) (n : ℕ) : Type 0 where
  pub table : y.table ≡ x.table
  pub store : y.store ≡ x.store
  pub story : y.story ≡ x.story
  pub others : (m : ℕ) → (m ≡ n → ⊥) → y.followers m ≡ x.followers m

untouched : (x : World) (n : ℕ) (f : Follower) → Untouched x (following x n f) n
untouched x n f = record { table = refl; store = refl; story = refl; others = λ m d. cond_no (eqb m n) f (x.followers m) (ne_eqb m n d) }

itself : (x : World) (n : ℕ) (f : Follower) → (following x n f).followers n ≡ f
itself x n f = cond_yes (eqb n n) f (x.followers n) (eq-eqb n n refl)

pub ask_untouched : (x : World) (n : ℕ) (updates : Bool) → Untouched x (step x (ask n updates)) n
unfolding step
ask_untouched x n updates = untouched x n (does (x.followers n) updates (answer_to x n))

pub cut_untouched : (x : World) (n : ℕ) → Untouched x (step x (ask_cut n)) n
unfolding step
cut_untouched x n = untouched x n (cut_off (x.followers n) (answer_to x n))

pub begin_untouched : (x : World) (n : ℕ) → Untouched x (step x (begin n)) n
unfolding step
begin_untouched x n = untouched x n (fresh x.table)

-- it begins fresh, at any moment
pub begin_fresh : (x : World) (n : ℕ) → (step x (begin n)).followers n ≡ fresh x.table
unfolding step
begin_fresh x n = itself x n (fresh x.table)

-- a refused ask changes nothing
pub refused_ask_changes_nothing : (x : World) (n : ℕ) (updates : Bool) (number : ℕ) → answer_to x n ≡ refusal number → (step x (ask n updates)).followers n ≡ x.followers n
unfolding step
refused_ask_changes_nothing x n updates number e = itself x n (does (x.followers n) updates (answer_to x n)) ∙ ap (does (x.followers n) updates) e

-- a follower that is cut off keeps its mark
pub cut_keeps_the_mark : (x : World) (n : ℕ) → (((step x (ask_cut n)).followers n).s ≡ (x.followers n).s) × (((step x (ask_cut n)).followers n).w ≡ (x.followers n).w)
unfolding step
cut_keeps_the_mark x n = rw (itself x n (cut_off (x.followers n) (answer_to x n))) (same (answer_to x n))
  where
    same : (a : Heard) → ((cut_off (x.followers n) a).s ≡ (x.followers n).s) × ((cut_off (x.followers n) a).w ≡ (x.followers n).w)
    same (refusal m) = (refl, refl)
    same (change c v) = (refl, refl)
    same (level v) = (refl, refl)
