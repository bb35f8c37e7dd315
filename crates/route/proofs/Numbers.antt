-- The numbers that judging a route answers are below 15, or 29 and 30: none of them is 28 or the board's. Assumes nothing.
use Prim.Native.Nat.{ℕ, ◌<◌}
use native.Mathlib.Omega.{arith}
use mathlib.Core.Bool.{Bool, true, false, cond}
use mathlib.Core.Logic.{◌⊎◌, inl, inr}
use mathlib.Core.List.{List, [], ◌∷◌, ◌++◌}
use Rattle.forms.specs.declared.Form.{Form}
use Rattle.answers.specs.declared.verdict.Verdict.{Verdict}
use Rattle.answers.specs.Numbers.{no_such_segment, not_usable}
use Rattle.answers.specs.Verdicts.{refused_by}
use Rattle.answers.proofs.First.{EachOf, each_append}
use Rattle.session.specs.declared.Session.{Session}
use Rattle.frame.specs.Checks.{Check, first_broken}
use Rattle.frame.specs.Frames.{places_of}
use Rattle.route_walk.specs.Walk.{subobject_checks}
use Rattle.route.specs.Routes.{last_checks, checks_of, count_of, acceptance_of, judge_as}

-- A number that neither 28's call nor a board answers on its own.
abbrev pub OtherNumber : ℕ → Type 0
OtherNumber n = (n < no_such_segment) ⊎ (not_usable < n)

abbrev Low : List Check → Type 0
Low cs = EachOf (λ c. OtherNumber c.number) cs

low_append : (xs ys : List Check) → Low xs → Low ys → Low (xs ++ ys)
low_append xs ys p q = each_append (λ (c : Check). OtherNumber c.number) xs ys p q

low_first : (cs : List Check) (after : Verdict) → Low cs → OtherNumber after.number → OtherNumber (first_broken cs after).number
low_first [] after p h = h
low_first (c ∷ cs) after p h = go c.broken (low_first cs after p.1 h)
  where
    go : (x : Bool) → OtherNumber (first_broken cs after).number → OtherNumber (cond x (refused_by c.number c.place) (first_broken cs after)).number
    go true q = p.0
    go false q = q

low_subobjects : (form : Form) (s : List ℕ) (ero n : Bool) (ps : List ℕ) → Low (subobject_checks form s ero n ps)
low_subobjects form s ero n [] = tt
low_subobjects form s ero n (p ∷ ps) = (
  inl (omega arith),
  (
    inl (omega arith),
    (
      inl (omega arith),
      (
        inl (omega arith),
        (inl (omega arith), (inr (omega arith), (inr (omega arith), low_subobjects form s ero n ps))),
      ),
    ),
  ),
)

low_all : (form : Form) (s : List ℕ) (ero : Bool) (session : Session) (pst : ℕ) → Low (checks_of form s ero session pst)
low_all form s ero session pst =
    let rest =
    low_append (subobject_checks form s ero session.n (places_of s)) (last_checks (places_of s) ero session.limit (count_of s))
    (low_subobjects form s ero session.n (places_of s)) (inl (omega arith), tt) in
    (inl (omega arith), (inl (omega arith), (inl (omega arith), (inl (omega arith), (inl (omega arith), rest)))))

pub judge_low : (form : Form) (s : List ℕ) (ero : Bool) (session : Session) (pst : ℕ) → OtherNumber (judge_as form s ero session pst).number
unfolding judge_as
judge_low form s ero session pst = low_first (checks_of form s ero session pst) (acceptance_of form s ero) (low_all form s ero session pst) (inl (omega arith))
