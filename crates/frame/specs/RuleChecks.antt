-- The table of a subobject's rules as checks in its order (document 01, "The route object"). The table stands in subobject/specs/Rules.
use Rattle.std.specs.Prelude.{ℕ, cond, List, [], ◌∷◌, eqb}
use Rattle.subobject.specs.Rules.{Subject, RuleRow}
use Rattle.frame.specs.Checks.{Check, check}

-- The rows of a table as checks of one subobject. The place is "for 6 to 11 the octet of the subobject at fault, .. otherwise 0".
abbrev pub checks_by : List RuleRow → Subject → ℕ → List Check
checks_by [] x place = []
checks_by (r ∷ rs) x place = check r.number (cond r.placed place 0) (r.broken x) ∷ checks_by rs x place

-- A table without the rule of a number.
abbrev pub without : List RuleRow → ℕ → List RuleRow
without [] number = []
without (r ∷ rs) number = cond (eqb number r.number) (without rs number) (r ∷ without rs number)
