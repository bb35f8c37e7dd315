-- What an OPEN carries and what a segment says, as lines (console.md, the table's last column).
use Rattle.std.specs.Prelude.{ℕ, ◌+◌, ◌*◌, Bool, cond, List, [], ◌∷◌, ◌++◌, eqb, get_or, take}
use Rattle.words.specs.Words.{comma, dash}
use Rattle.session.specs.Opened.{Opened}
use Rattle.subobject.specs.declared.segment.Segment.{Segment}
use Rattle.subobject_strays.specs.declared.Strays.{Strays}
use Rattle.forms.specs.declared.Form.{Form}
use Rattle.forms.specs.Forms.{nai_length}
use Rattle.printing.specs.Text.{decimal_of, octets_text, spaced, field_size}
use Rattle.subobject.specs.Layout.{sid_size, nai_size}
use Rattle.console_line_ends.specs.Ends.{bit, limit_text, flag_words, label_words}
use Rattle.console_lines.specs.Lines.{acceptance, open_refusal_line}

-- the octets that the line of an OPEN or of a segment takes at most
abbrev pub long : ℕ
long = 512

-- `0 0 SRV6 N LIMIT A R V M MPLS MN MLIMIT`
abbrev pub open_line : Opened → List ℕ
open_line o =
    acceptance (decimal_of (bit o.srv6) ∷ decimal_of (bit o.n) ∷ limit_text o.limit ∷ flag_words o)

-- An OPEN's answer, a refusal too: "a refusal is `NUMBER 0 FORM`".
abbrev pub opened_line : Opened → List ℕ
opened_line o = cond (eqb o.number 0) (open_line o) (open_refusal_line o.number o.form)

-- `40,24,16,48`, or `-` for none
abbrev pub structure_text : List ℕ → Bool → List ℕ
structure_text bits there =
    cond there
    (decimal_of (get_or bits 0 0) ++ (comma ∷ decimal_of (get_or bits 1 0) ++ (comma ∷ decimal_of (get_or bits 2 0) ++ (comma ∷ decimal_of (get_or bits 3 0)))))
    (dash ∷ [])

-- ` L V NT BEHAVIOUR`
abbrev pub head_text : Segment → List ℕ
head_text g = spaced (decimal_of (bit g.loose)) ++ (spaced (decimal_of (bit g.verify)) ++ (spaced (decimal_of g.nt) ++ spaced (decimal_of g.behaviour)))

-- ` SID NAI STRUCTURE`, and the octets that these take at most
abbrev pub parts_text : Form → Segment → List ℕ
parts_text form g =
    spaced (octets_text (take (cond g.hassid form.sid 0) g.sid)) ++ (spaced (octets_text (take (nai_length form g.nt) g.nai)) ++ spaced (structure_text g.structure g.structured))

abbrev pub parts_size : ℕ
parts_size = 2 * sid_size + 2 + (2 * nai_size + 2) + 4 * field_size

-- `0 0 L V NT BEHAVIOUR SID NAI STRUCTURE M C FLAGS SFLAGS RESERVED`, "SID and NAI as OCTETS of their own lengths, or `-`": the SID's is the form's
abbrev pub segment_line : Form → Segment → Strays → List ℕ
segment_line form g x =
    acceptance (decimal_of (bit g.loose) ∷ decimal_of (bit g.verify) ∷ decimal_of g.nt ∷ decimal_of g.behaviour
    ∷ octets_text (take (cond g.hassid form.sid 0) g.sid) ∷ octets_text (take (nai_length form g.nt) g.nai)
    ∷ structure_text g.structure g.structured ∷ label_words g.labelled g.complete x)
