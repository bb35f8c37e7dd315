-- "A segment names L, V, NT, behaviour, SID or none, NAI, structure or none; octets kept for a part that is
-- absent or shorter are 0" (document 01, "Writing a route").
use Rattle.std.specs.Prelude.{ℕ, Bool, true, cond, ◌&&◌, List, [], ◌∷◌, eqb, drop}
use Rattle.forms.specs.declared.Form.{Form}
use Rattle.forms.specs.Forms.{nai_length}
use Rattle.subobject.specs.declared.segment.Segment.{Segment}
use Rattle.subobject.specs.Layout.{bit_lengths}

-- Octets that are all 0.
abbrev pub zeros : List ℕ → Bool
zeros [] = true
zeros (x ∷ xs) = eqb x 0 && zeros xs

-- The octets behind a SID, an NAI and four bit lengths that are there are 0. An MPLS SID is "kept in the first 4" octets.
unfoldable pub tidy_of : Form → Segment → Bool
tidy_of form g =
    zeros (drop (cond g.hassid form.sid 0) g.sid)
    && (zeros (drop (nai_length form g.nt) g.nai) && zeros (drop (cond g.structured bit_lengths 0) g.structure))
