-- The segment that is lent.
use Rattle.subobject.specs.declared.segment.Segment.{Segment}
use Rattle.subobject.specs.Segments.{segment_with}
use Rattle.writer_spare.specs.declared.lent.Lent.{Lent}

abbrev pub lent_of : Lent → Segment
lent_of x = segment_with x.outline x.sid.now x.nai.now x.structure.now
