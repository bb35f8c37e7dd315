-- Rules in their order: the first broken one answers (document 01: "checks .. in order"; "Order: 1, 2, 3").
use Rattle.std.specs.Prelude.{Bool, cond, List, [], ◌∷◌}

-- The refusal of the first one of a list that is broken; `after` if none is. Of what the rules are, and what a refusal is, the list's kind says:
-- `first_broken` for a route and the board (frame/specs/Checks), `first_number` in writing (writer_rules/specs/Checks), `first_rule` for an OPEN object (open/specs/Open).
abbrev pub first_of : {R A : Type 0} → (R → Bool) → (R → A) → List R → A → A
first_of broken refusal [] after = after
first_of broken refusal (r ∷ rs) after = cond (broken r) (refusal r) (first_of broken refusal rs after)
