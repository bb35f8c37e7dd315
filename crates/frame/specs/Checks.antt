-- Checks in order, and the answer that the first broken one gives (document 01, "The route object": "checks .. in order").
use Rattle.std.specs.Prelude.{ℕ, Bool, List}
use Rattle.answers.specs.declared.verdict.Verdict.{Verdict}
use Rattle.answers.specs.Verdicts.{refused_by}
use Rattle.answers.specs.First.{first_of}

-- A rule's number, the place that its refusal names, and whether it is broken.
pub record Check : Type 0 where
  pub number : ℕ
  pub place : ℕ
  pub broken : Bool

abbrev pub check : ℕ → ℕ → Bool → Check
check n p b = record { number = n; place = p; broken = b }

-- The first broken check of a list, at its place; `after` if none is.
abbrev pub first_broken : List Check → Verdict → Verdict
first_broken cs after = first_of (λ c. c.broken) (λ c. refused_by c.number c.place) cs after
