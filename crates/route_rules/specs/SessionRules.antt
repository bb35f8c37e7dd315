-- The rules of a whole route that hang on its session (document 01, "The route object").
use Rattle.std.specs.Prelude.{ℕ, List, [], ◌∷◌, Bool, false, not, ◌&&◌, get_or, eqb, ltb, Option, None, Some}
use Rattle.forms.specs.declared.Form.{Form}
use Rattle.answers.specs.Numbers.{too_many_segments}
use Rattle.frame.specs.Checks.{Check, check}

-- on the whole -------------------------------------------------------------------------------------------------

-- 13: "PST isn't 3 or SRv6 isn't agreed"; for MPLS 1 and MPLS.
unfoldable pub rule13 : Form → Bool → ℕ → Bool
rule13 form agreed pst = not (eqb pst form.setup && agreed)

-- last ---------------------------------------------------------------------------------------------------------

-- 12: "more segments than the limit"; in RRO not applied.
abbrev pub past : Option ℕ → ℕ → Bool
past None count = false
past (Some most) count = ltb most count

unfoldable pub rule12 : Bool → Option ℕ → ℕ → Bool
rule12 ero limit count = ero && past limit count

-- "For 12, that of the first segment too many."
abbrev pub rule12_place : List ℕ → Option ℕ → ℕ
rule12_place places None = 0
rule12_place places (Some most) = get_or places most 0

abbrev pub last_checks : List ℕ → Bool → Option ℕ → ℕ → List Check
last_checks places ero limit count = check too_many_segments (rule12_place places limit) (rule12 ero limit count) ∷ []
