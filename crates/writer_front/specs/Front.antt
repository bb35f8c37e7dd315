-- The octets of a subobject before its NAI, looked at together with what has to be 0 or absent there. No promise rests on it: contracts of inner functions cite it,
-- and proofs turn it into writer_rules/specs/Refusals.
use Rattle.std.specs.Prelude.{ℕ, ◌+◌, Bool, cond, not, ◌&&◌, ◌||◌, List, drop}
use Rattle.forms.specs.declared.Form.{Form}
use Rattle.subobject.specs.declared.segment.Outline.{Outline}
use Rattle.subobject.specs.Rules.{malformed}
use Rattle.subobject.specs.Segments.{head_of_outline}
use Rattle.writer_spare.specs.Spare.{zeros}
use Rattle.writer_front.specs.Foreign.{foreign}

-- A structure without a SID, or octets behind a SID that are not 0.
unfoldable pub strayed : Form → Outline → List ℕ → Bool
strayed form o sid = (o.structured && not o.hassid) || not (zeros (drop (cond o.hassid form.sid 0) sid))

-- Such a one, what is foreign to the form, or malformed flags.
unfoldable pub barred : Form → Outline → List ℕ → Bool
barred form o sid = (foreign form o || malformed (head_of_outline form o)) || strayed form o sid

-- The fixed part, and a SID that is there.
abbrev pub lead : Form → Outline → ℕ
lead form o = form.fixed + cond o.hassid form.sid 0

-- 0 where the segment is barred.
unfoldable pub front_of : Form → Outline → List ℕ → ℕ
front_of form o sid = cond (barred form o sid) 0 (lead form o)
