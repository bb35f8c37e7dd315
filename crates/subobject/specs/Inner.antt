-- What inner functions ask for and hand on. No promise rests on it.
use Rattle.std.specs.Prelude.{ℕ, ◌+◌, ◌≤◌, ◌≡◌, Bool, false, List, length}
use Rattle.forms.specs.declared.Form.{Form}
use Rattle.subobject.specs.declared.head.Head.{Head}
use Rattle.subobject.specs.Layout.{expected_length, sid_place}
use Rattle.subobject.specs.Rules.{rule7, rule8, rule9, rule10, rule29, rule30, label_at, time_at}

-- More than a subobject with all its parts has.
abbrev pub longest : ℕ
longest = 773

-- A subobject at a place has the length that is expected of its head, and lies inside the octets.
abbrev pub OfLength : Form → Head → List ℕ → ℕ → Type 0
OfLength form h s at = (h.size ≡ expected_length form h.nt h.s h.t) × (at + h.size ≤ length s)

-- Its head breaks none of 8, 9, 7 and 10; its label neither 29 nor 30.
abbrev pub HeadSound : Form → Head → Bool → Bool → Type 0
HeadSound form h ero n = (rule8 form h ≡ false) × (rule9 h ≡ false) × (rule7 form h ≡ false) × (rule10 h ero n ≡ false)

abbrev pub LabelSound : Form → Head → List ℕ → ℕ → Type 0
LabelSound form h s at = (rule29 h (label_at s (sid_place form at)) ≡ false) × (rule30 h (time_at s (sid_place form at)) ≡ false)
