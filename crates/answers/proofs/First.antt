-- Laws about rules in their order, each by induction along the list: the rule at its head is broken and answers, or is not and the rest answers. Assumes nothing.
use mathlib.Core.Path.{◌≡◌, refl}
use mathlib.Core.Bool.{Bool, true, false, cond}
use mathlib.Core.List.{List, [], ◌∷◌, ◌++◌}
use Rattle.answers.specs.First.{first_of}

-- What is said of one holds of each of a list.
abbrev pub EachOf : {R : Type 0} → (R → Type 0) → List R → Type 0
EachOf P [] = Unit {0}
EachOf P (r ∷ rs) = P r × EachOf P rs

pub each_append : {R : Type 0} (P : R → Type 0) (xs ys : List R) → EachOf P xs → EachOf P ys → EachOf P (xs ++ ys)
each_append P [] ys h k = k
each_append P (x ∷ xs) ys h k = (h.0, each_append P xs ys h.1 k)

pub each_split : {R : Type 0} (P : R → Type 0) (xs ys : List R) → EachOf P (xs ++ ys) → EachOf P xs × EachOf P ys
each_split P [] ys h = (tt, h)
each_split P (x ∷ xs) ys h = let r = each_split P xs ys h.1 in ((h.0, r.0), r.1)

-- No rule of the list is broken.
abbrev pub NoneOf : {R : Type 0} → (R → Bool) → List R → Type 0
NoneOf broken rs = EachOf (λ r. broken r ≡ false) rs

module _ {R A : Type 0} (broken : R → Bool) (refusal : R → A) where
  pub first_of_append : (xs ys : List R) (after : A) → first_of broken refusal (xs ++ ys) after ≡ first_of broken refusal xs (first_of broken refusal ys after)
  first_of_append [] ys after = refl
  first_of_append (x ∷ xs) ys after = rw (first_of_append xs ys after)

  pub none_first_of : (rs : List R) (after : A) → NoneOf broken rs → first_of broken refusal rs after ≡ after
  none_first_of [] after h = refl
  none_first_of (r ∷ rs) after h = rw h.0 (none_first_of rs after h.1)

  -- An answer of which something holds that holds of no refusal of the list: no rule was broken.
  pub first_of_none : (P : A → Type 0) (rs : List R) (after : A) → EachOf (λ r. P (refusal r) → ⊥) rs → P (first_of broken refusal rs after) → NoneOf broken rs
  first_of_none P [] after h e = tt
  first_of_none P (r ∷ rs) after h e = go (broken r) refl (λ q. first_of_none P rs after h.1 q) e
    where
      go : (b : Bool) → broken r ≡ b → (P (first_of broken refusal rs after) → NoneOf broken rs) → P (cond b (refusal r) (first_of broken refusal rs after)) → NoneOf broken (r ∷ rs)
      go true k rest q = absurd (h.0 q)
      go false k rest q = (k, rest q)

  -- What holds of every refusal and of an answer holds of the first broken one's, or that answer.
  pub first_of_keeps : (P : A → Type 0) → ((r : R) → P (refusal r)) → (rs : List R) {after : A} → P after → P (first_of broken refusal rs after)
  first_of_keeps P h [] x = x
  first_of_keeps P h (r ∷ rs) {after} x = go (broken r) (first_of_keeps P h rs x)
    where
      go : (b : Bool) → P (first_of broken refusal rs after) → P (cond b (refusal r) (first_of broken refusal rs after))
      go true y = h r
      go false y = y
