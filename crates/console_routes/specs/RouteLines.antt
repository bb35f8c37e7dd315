-- The commands about OPENs and routes (console.md, the table's first rows).
use Rattle.std.specs.Prelude.{ℕ, Bool, List}
use Rattle.session.specs.Opened.{Opened}
use Rattle.session.specs.declared.Sessions.{Sessions}
use Rattle.forms.specs.declared.Form.{Form}
use Rattle.forms.specs.Forms.{form_of}
use Rattle.flag_positions.specs.declared.Positions.{Positions}
use Rattle.open.specs.Open.{open_of}
use Rattle.route_call.specs.Called.{judged_for, segment_for}
use Rattle.route.specs.Picked.{Picked}
use Rattle.command.specs.declared.Command.{Command}
use Rattle.console_fields.specs.Shown.{segment_line}
use Rattle.console_state.specs.Answers.{answer_line, count_line}
use Rattle.console_state.specs.Spelled.{octets_in}

-- `pcc OCTETS` · `pce OCTETS`: "reads an OPEN object", with A and R at "the two bit positions"
unfoldable pub open_in : Positions → List ℕ → Opened
open_in p line = open_of p (octets_in line 1)

-- `ero PST OCTETS` · `rro PST OCTETS`: "judges a route under the session", that of the form which the PST names; "a PST is any number"; `0 0 COUNT STRAY`.
-- The head end's addresses are those set by `addresses`.
unfoldable pub route_line : Command → List ℕ → Bool → Sessions → List ℕ → List ℕ
route_line c line ero sessions addresses = count_line (judged_for (octets_in line 2) ero sessions c.one addresses)

-- a segment of a form that was asked for, or the refusal
unfoldable pub picked_line : Form → Picked → List ℕ
picked_line form p = answer_line p.verdict (segment_line form p.segment p.strays)

-- `ero-segment PST I OCTETS` · `rro-segment PST I OCTETS`: "asks for segment I of a route"; `0 0 L V NT BEHAVIOUR SID NAI STRUCTURE M C FLAGS SFLAGS RESERVED`
unfoldable pub segment_answer : Command → List ℕ → Bool → Sessions → List ℕ → List ℕ
segment_answer c line ero sessions addresses = picked_line (form_of c.one) (segment_for (octets_in line 3) ero sessions c.one addresses c.two)
