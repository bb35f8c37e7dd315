-- The largest octet is 0 where each is.
use Rattle.std.proofs.Common.{rules, ◌≡◌, refl, ◌∙◌, max, fold, eqb, List, ℕ, [], ◌∷◌, ◌&&◌, Bool, true, false, arith}
use Rattle.std.proofs.lemmas.Iterator.{YieldsList-from_slice}
use Rattle.std.proofs.lemmas.Iterator.Consumers.{fold_from_yields_List}
use borrow.Author.Tests.{eq-eqb, ne_eqb, eqb-true, eqb-false}
use Rattle.writer_spare.specs.Spare.{zeros}
use Rattle.writer_spare.proofs.spare.each_blank.Goals as goal

both_zero : (m x : ℕ) → eqb (max m x) 0 ≡ (eqb m 0 && eqb x 0)
both_zero m x = go (eqb m 0) refl (eqb x 0) refl
  where
    go : (a : Bool) → eqb m 0 ≡ a → (b : Bool) → eqb x 0 ≡ b → eqb (max m x) 0 ≡ (a && b)
    go true p true q = eq-eqb (max m x) 0 (omega (arith, eqb-true m 0 p, eqb-true x 0 q))
    go false p b q = ne_eqb (max m x) 0 (λ (e : max m x ≡ 0). eqb-false m 0 p (omega arith))
    go true p false q = ne_eqb (max m x) 0 (λ (e : max m x ≡ 0). eqb-false x 0 q (omega arith))

all_zero : (m : ℕ) (s : List ℕ) → eqb (fold max m s) 0 ≡ (eqb m 0 && zeros s)
all_zero m [] = go (eqb m 0)
  where
    go : (a : Bool) → a ≡ (a && true)
    go true = refl
    go false = refl
all_zero m (x ∷ s) = all_zero (max m x) s ∙ rw (both_zero m x) (go (eqb m 0))
  where
    go : (a : Bool) → ((a && eqb x 0) && zeros s) ≡ (a && (eqb x 0 && zeros s))
    go true = refl
    go false = refl

pub returns : goal.returns
returns c =
    let e = fold_from_yields_List _ max 0 _ c.fold.ensures.ran (YieldsList-from_slice c.args.s.now cc) (λ a x b q k. search rules) in
    record { blank = rw e (all_zero 0 c.args.s.now) }
