-- A segment that is handed out and comes back is what it was.
use mathlib.Core.Path.{◌≡◌, refl}
use mathlib.Core.Bool.{Bool, true, false}
use Rattle.subobject.specs.declared.segment.Segment.{Segment}
use Rattle.subobject.specs.Segments.{segment_with}
use Rattle.border_records.proofs.Laws.{flag_back}
use Rattle.border_segment.specs.Segments.{labelled_in, complete_in, label_out, outline_in, outline_within, segment_out}

-- M and C come back out of their octet.
label_back : (m c : Bool) → (labelled_in (label_out m c) ≡ m) × (complete_in (label_out m c) ≡ c)
label_back true true = (refl, refl)
label_back true false = (refl, refl)
label_back false true = (refl, refl)
label_back false false = (refl, refl)

pub segment_back : (g : Segment)
    → segment_with (outline_in (outline_within (segment_out g))) (segment_out g).sid (segment_out g).nai (segment_out g).structure ≡ g
segment_back g =
    let q = label_back g.labelled g.complete in
    rw (flag_back g.loose, flag_back g.verify, flag_back g.hassid, flag_back g.structured, flag_back g.labelled, flag_back g.complete, q.0, q.1)
