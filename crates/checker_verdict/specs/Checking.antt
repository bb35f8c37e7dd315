-- What the checking program answers (document 01, the last paragraph of "Examples on either side"): "reads PCC OPEN, PCE OPEN and ERO .., each cut by
-- its own length field, PST 3, and prints the first refusal's or the ERO's answer; octets behind the ERO are ignored."
-- "checking program: 0 and 1, no addresses" (document 02, C-15).
use Rattle.std.specs.Prelude.{ℕ, true, cond, List, [], eqb}
use Rattle.objects.specs.Objects.{srv6_setup}
use Rattle.answers.specs.declared.verdict.Verdict.{Verdict}
use Rattle.answers.specs.Verdicts.{refused_by}
use Rattle.session.specs.Opened.{Opened}
use Rattle.session.specs.Sessions.{sessions_of}
use Rattle.flag_positions.specs.Positions.{first_two}
use Rattle.open.specs.Open.{open_of}
use Rattle.route_call.specs.Called.{judged_for}
use Rattle.cut_objects.specs.Cutting.{first_object, rest_objects}

-- The answer to the first object, and to the one behind it, as an OPEN.
abbrev pub pcc_of : List ℕ → Opened
pcc_of s = open_of first_two (first_object s)

abbrev pub pce_of : List ℕ → Opened
pce_of s = open_of first_two (first_object (rest_objects s))

-- The third object.
abbrev pub ero_of : List ℕ → List ℕ
ero_of s = first_object (rest_objects (rest_objects s))

-- A refused OPEN's answer, at place 0; else what comes next.
abbrev pub unless_refused : Opened → Verdict → Verdict
unless_refused o next = cond (eqb o.number 0) next (refused_by o.number 0)

unfoldable pub checked_of : List ℕ → Verdict
checked_of s = unless_refused (pcc_of s) (unless_refused (pce_of s) (judged_for (ero_of s) true (sessions_of (pcc_of s) (pce_of s)) srv6_setup []))
