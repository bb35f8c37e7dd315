-- A segment: what the octets of a subobject say, and the octets that a segment is written as
-- (document 01, "The route object", "Writing a route").
use Rattle.std.specs.Prelude.{ℕ, ◌+◌, ◌*◌, Bool, false, cond, not, List, [], ◌∷◌, ◌++◌, eqb, take, replicate}
use Rattle.octets.specs.Octets.{be16, hi, lo, part_of}
pub use Rattle.octets.specs.Octets.{bit}
use Rattle.forms.specs.declared.Form.{Form}
use Rattle.forms.specs.Forms.{no_nai, nai_length}
use Rattle.subobject.specs.declared.head.Head.{Head}
use Rattle.subobject.specs.declared.segment.Outline.{Outline}
use Rattle.subobject.specs.declared.segment.Segment.{Segment}
use Rattle.subobject.specs.Layout.{nai_size, behaviour_place, sid_size, sid_length, bit_lengths, expected_length, sid_place, nai_place, structure_place, head_at}
use Rattle.subobject.specs.Layout.{worth_l, worth_nt}
use Rattle.subobject.specs.Rules.{flag_f, has_structure, sum_at}

-- reading ------------------------------------------------------------------------------------------------------

-- What the octets at a place say, by the head found there. "Octets kept for a part that is absent or shorter are 0."
abbrev pub segment_by : Form → Head → List ℕ → ℕ → Segment
segment_by form h s at =
    record {
      loose = eqb h.l 1;
      verify = eqb h.v 1;
      nt = h.nt;
      behaviour = cond form.behaves (be16 s (at + behaviour_place)) 0;
      hassid = eqb h.s 0;
      sid = part_of s (sid_place form at) (sid_length form h.s) sid_size;
      nai = part_of s (nai_place form h.s at) (nai_length form h.nt) nai_size;
      structured = has_structure h;
      structure = part_of s (structure_place form h.nt at) (cond (has_structure h) bit_lengths 0) bit_lengths;
      labelled = eqb h.m 1;
      complete = eqb h.c 1;
    }

unfoldable pub segment_at : Form → List ℕ → Bool → ℕ → Segment
segment_at form s ero at = segment_by form (head_at form s ero at) s at

-- The segment that comes with a refusal.
abbrev pub no_segment : Segment
no_segment =
    record {
      loose = false;
      verify = false;
      nt = no_nai;
      behaviour = 0;
      hassid = false;
      sid = replicate sid_size 0;
      nai = replicate nai_size 0;
      structured = false;
      structure = replicate bit_lengths 0;
      labelled = false;
      complete = false;
    }

-- writing ------------------------------------------------------------------------------------------------------

-- What a segment names beside its octets.
abbrev pub outline_of : Segment → Outline
outline_of g =
    record {
      loose = g.loose;
      verify = g.verify;
      nt = g.nt;
      behaviour = g.behaviour;
      hassid = g.hassid;
      structured = g.structured;
      labelled = g.labelled;
      complete = g.complete;
    }

-- The segment of an outline, a SID, an NAI and four bit lengths.
abbrev pub segment_with : Outline → List ℕ → List ℕ → List ℕ → Segment
segment_with o sid nai structure =
    record {
      loose = o.loose;
      verify = o.verify;
      nt = o.nt;
      behaviour = o.behaviour;
      hassid = o.hassid;
      sid = sid;
      nai = nai;
      structured = o.structured;
      structure = structure;
      labelled = o.labelled;
      complete = o.complete;
    }

-- The head that a segment is written with: "F follows from NT"; the length is the expected one.
abbrev pub head_of_outline : Form → Outline → Head
head_of_outline form o =
    record {
      kind = form.kind;
      size = expected_length form o.nt (bit (not o.hassid)) (bit o.structured);
      nt = o.nt;
      s = bit (not o.hassid);
      f = flag_f o.nt;
      t = bit o.structured;
      v = bit o.verify;
      l = bit o.loose;
      c = bit o.complete;
      m = bit o.labelled;
    }

unfoldable pub head_of_segment : Form → Segment → Head
head_of_segment form g = head_of_outline form (outline_of g)

-- Octet 3: each flag at what it is worth.
unfoldable pub flags_octet : Form → Head → ℕ
flags_octet form h = h.v * form.v + h.t * form.t + h.f * form.f + h.s * form.s + h.c * form.c + h.m * form.m

-- The octets before the SID. "Padding, reserved octets and unassigned bits are written as 0."
unfoldable pub fixed_octets : Form → Head → ℕ → List ℕ
fixed_octets form h behaviour =
    (h.l * worth_l + h.kind)
    ∷ h.size
    ∷ (h.nt * worth_nt)
    ∷ flags_octet form h
    ∷ cond form.behaves (0 ∷ 0 ∷ hi behaviour ∷ lo behaviour ∷ []) []

-- "SID structure, 8: four bit lengths, 3 reserved, 1 flags."
abbrev pub structure_octets : List ℕ → List ℕ
structure_octets bits = take bit_lengths bits ++ 0 ∷ 0 ∷ 0 ∷ 0 ∷ []

-- The octets of a segment: SID "if S is 0", NAI, "SID structure, 8, if T is 1 and S is 0".
unfoldable pub subobject_of : Form → Segment → List ℕ
subobject_of form g =
    fixed_octets form (head_of_segment form g) g.behaviour
    ++ (take (sid_length form (head_of_segment form g).s) g.sid
    ++ (take (nai_length form g.nt) g.nai
    ++ cond (has_structure (head_of_segment form g)) (structure_octets g.structure) []))

-- The sum of a segment's four bit lengths.
unfoldable pub bits_of : Segment → ℕ
bits_of g = sum_at g.structure 0
