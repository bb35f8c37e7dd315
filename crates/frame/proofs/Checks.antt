-- Laws about checks in order: those of rules in order (answers/proofs/First) for a route's checks, and the same by rank, the place in the list (`first_answer`,
-- `answer_first`). Assumes nothing.
use Prim.Native.Nat.{ℕ, zero, suc, ◌<◌}
use mathlib.Core.Path.{◌≡◌, refl, sym, ◌∙◌, ap}
use mathlib.Core.List.{List, [], ◌∷◌, ◌++◌}
use mathlib.Core.Bool.{Bool, true, false}
use lib.ListN.{length, get_or}
use native.Mathlib.Omega.{arith}
use Rattle.answers.specs.declared.verdict.Verdict.{Verdict}
use Rattle.answers.specs.Verdicts.{refused_by}
use Rattle.answers.proofs.First.{EachOf, NoneOf, each_append, each_split, first_of_append, none_first_of, first_of_none, first_of_keeps}
use Rattle.forms.specs.declared.Form.{Form}
use Rattle.subobject.specs.declared.head.Head.{Head}
use Rattle.subobject.specs.Rules.{rule10, rules, subject_by}
use Rattle.subobject.proofs.Unbroken.{UnbrokenBy}
use Rattle.frame.specs.Checks.{Check, check, first_broken}
use Rattle.frame.specs.RuleChecks.{checks_by}

-- one after the other ------------------------------------------------------------------------------------------

pub first_append : (xs ys : List Check) (after : Verdict) → first_broken (xs ++ ys) after ≡ first_broken xs (first_broken ys after)
first_append xs ys after = first_of_append (λ (c : Check). c.broken) (λ (c : Check). refused_by c.number c.place) xs ys after

-- No check of the list is broken.
abbrev pub None : List Check → Type 0
None cs = NoneOf (λ c. c.broken) cs

-- Every check of the list has a number.
abbrev pub AllNumbered : List Check → Type 0
AllNumbered cs = EachOf (λ c. 0 < c.number) cs

pub none_first : (cs : List Check) (after : Verdict) → None cs → first_broken cs after ≡ after
none_first cs after h = none_first_of (λ (c : Check). c.broken) (λ (c : Check). refused_by c.number c.place) cs after h

pub none_append : (xs ys : List Check) → None xs → None ys → None (xs ++ ys)
none_append xs ys h k = each_append (λ (c : Check). c.broken ≡ false) xs ys h k

pub none_split : (xs ys : List Check) → None (xs ++ ys) → None xs × None ys
none_split xs ys h = each_split (λ (c : Check). c.broken ≡ false) xs ys h

pub numbered_append : (xs ys : List Check) → AllNumbered xs → AllNumbered ys → AllNumbered (xs ++ ys)
numbered_append xs ys h k = each_append (λ (c : Check). 0 < c.number) xs ys h k

-- An answer without a number: no check was broken.
pub first_none : (cs : List Check) (after : Verdict) → AllNumbered cs → (first_broken cs after).number ≡ 0 → None cs
first_none cs after h e =
    first_of_none (λ (c : Check). c.broken) (λ (c : Check). refused_by c.number c.place) (λ (v : Verdict). v.number ≡ 0) cs after (each cs h) e
  where
    each : (cs : List Check) → AllNumbered cs → EachOf (λ (c : Check). c.number ≡ 0 → ⊥) cs
    each [] h = tt
    each (c ∷ cs) h = ((λ z. omega (arith, h.0)), each cs h.1)

-- An answer with a number: what comes after plays no part.
pub first_some : (cs : List Check) (a b : Verdict) → a.number ≡ 0 → ((first_broken cs a).number ≡ 0 → ⊥) → first_broken cs a ≡ first_broken cs b
first_some [] a b z n = absurd (n z)
first_some (c ∷ cs) a b z n = go c.broken refl (λ r. first_some cs a b z r)
  where
    go : (x : Bool) → c.broken ≡ x → (((first_broken cs a).number ≡ 0 → ⊥) → first_broken cs a ≡ first_broken cs b) → first_broken (c ∷ cs) a ≡ first_broken (c ∷ cs) b
    go true k rest = rw k
    go false k rest = rw k (rest (λ e. n (rw k e)))

-- What holds of every refusal and of a verdict holds of the first broken check's, or that verdict.
pub first_keeps : (P : Verdict → Type 0) → ((n p : ℕ) → P (refused_by n p)) → (cs : List Check) {after : Verdict} → P after → P (first_broken cs after)
first_keeps P h cs x = first_of_keeps (λ (c : Check). c.broken) (λ (c : Check). refused_by c.number c.place) P (λ c. h c.number c.place) cs x

-- by rank ------------------------------------------------------------------------------------------------------

-- The check of a rank, from 0.
abbrev pub check_of : List Check → ℕ → Check
check_of cs i = get_or cs i (check 0 0 false)

-- The check of rank i is broken, and none of a lower rank is.
pub record First (cs : List Check) (i : ℕ) : Type 0 where
  pub within : i < length cs
  pub here : (check_of cs i).broken ≡ true
  pub before : (j : ℕ) → j < i → (check_of cs j).broken ≡ false

pub none_all : (cs : List Check) → None cs → (i : ℕ) → (check_of cs i).broken ≡ false
none_all [] h i = refl
none_all (c ∷ cs) h zero = h.0
none_all (c ∷ cs) h (suc i) = none_all cs h.1 i

pub all_none : (cs : List Check) → ((i : ℕ) → i < length cs → (check_of cs i).broken ≡ false) → None cs
all_none [] f = tt
all_none (c ∷ cs) f = (f 0 (omega arith), all_none cs (λ i h. f (suc i) (omega arith)))

pub first_answer : (cs : List Check) (after : Verdict) (i : ℕ) → First cs i
    → first_broken cs after ≡ refused_by (check_of cs i).number (check_of cs i).place
first_answer [] after i f = absurd (omega (arith, f.within))
first_answer (c ∷ cs) after zero f = rw f.here
first_answer (c ∷ cs) after (suc i) f =
    let w : suc i < suc (length cs) = f.within in
    rw (f.before 0 (omega arith))
    (first_answer cs after i (record { within = omega arith; here = f.here; before = λ j h. f.before (suc j) (omega arith) }))

-- The first broken check, with its number and place.
pub record Found (cs : List Check) (n p : ℕ) : Type 0 where
  pub rank : ℕ
  pub first : First cs rank
  pub number : (check_of cs rank).number ≡ n
  pub place : (check_of cs rank).place ≡ p

first_later : (c : Check) (cs : List Check) (i : ℕ) → c.broken ≡ false → First cs i → First (c ∷ cs) (suc i)
first_later c cs i k f = record { within = let w = f.within in omega arith; here = f.here; before = below }
  where
    below : (j : ℕ) → j < suc i → (check_of (c ∷ cs) j).broken ≡ false
    below zero h = k
    below (suc j) h = f.before j (omega arith)

-- A refusal is that of a first broken check.
pub answer_first : (cs : List Check) (after : Verdict) (n p : ℕ) → (after.number ≡ n → ⊥) → first_broken cs after ≡ refused_by n p → Found cs n p
answer_first [] after n p z e = absurd (z (ap (λ (v : Verdict). v.number) e))
answer_first (c ∷ cs) after n p z e = go c.broken refl (λ r. answer_first cs after n p z r)
  where
    go : (b : Bool) → c.broken ≡ b → (first_broken cs after ≡ refused_by n p → Found cs n p) → Found (c ∷ cs) n p
    go true k rest =
        let q : refused_by c.number c.place ≡ refused_by n p = rw k at e in
        record {
          rank = 0;
          first = record { within = omega arith; here = k; before = λ j h. absurd (omega arith) };
          number = ap (λ (v : Verdict). v.number) q;
          place = ap (λ (v : Verdict). v.place) q;
        }
    go false k rest =
        let r = rest (rw k at e) in
        record { rank = suc r.rank; first = first_later c cs r.rank k r.first; number = r.number; place = r.place }

-- answers by the first broken check ----------------------------------------------------------------------------

-- A verdict refuses with n at p exactly if a check of that number and place is broken and none before it is, and accepts exactly if none is broken.
pub record ByFirst (v : Verdict) (cs : List Check) (after : Verdict) : Type 0 where
  pub refused : (n p : ℕ) → 0 < n → v ≡ refused_by n p → Found cs n p
  pub first : (n p : ℕ) → Found cs n p → v ≡ refused_by n p
  pub accepted : v.number ≡ 0 → None cs
  pub unbroken : None cs → v ≡ after

pub by_first : (v : Verdict) (cs : List Check) (after : Verdict) → AllNumbered cs → after.number ≡ 0 → v ≡ first_broken cs after → ByFirst v cs after
by_first v cs after ns z e =
    record {
      refused = λ n p l q. answer_first cs after n p (λ y. omega (arith, l, z, y)) (sym e ∙ q);
      first = λ n p f. e ∙ first_answer cs after f.rank f.first ∙ named n p f;
      accepted = λ q. first_none cs after ns (ap (λ (x : Verdict). x.number) (sym e) ∙ q);
      unbroken = λ h. e ∙ none_first cs after h;
    }
  where
    named : (n p : ℕ) (f : Found cs n p) → refused_by (check_of cs f.rank).number (check_of cs f.rank).place ≡ refused_by n p
    named n p f =
        ap (λ (x : ℕ). refused_by x (check_of cs f.rank).place) f.number ∙ ap (refused_by n) f.place

-- of a subobject -----------------------------------------------------------------------------------------------

-- No check of a subobject is broken exactly if it is sound and keeps 10.
module _ {form : Form} {h : Head} (s : List ℕ) (ero n : Bool) (at : ℕ) where
  pub none_unbroken : None (checks_by rules (subject_by form h s ero n at) at) → UnbrokenBy form h s at
  none_unbroken c = record { r8 = c.0; r9 = c.1.0; r7 = c.1.1.0; r11 = c.1.1.1.1.0; r29 = c.1.1.1.1.1.0; r30 = c.1.1.1.1.1.1.0 }

  pub unbroken_none : UnbrokenBy form h s at → rule10 h ero n ≡ false → None (checks_by rules (subject_by form h s ero n at) at)
  unbroken_none u e = (u.r8, (u.r9, (u.r7, (e, (u.r11, (u.r29, (u.r30, tt)))))))
