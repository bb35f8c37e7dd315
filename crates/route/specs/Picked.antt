-- What asking for a segment answers: the verdict; with an acceptance the segment, and what is set in its octets that ought to be 0, else the segment of zeros and no
-- strays.
use Rattle.answers.specs.declared.verdict.Verdict.{Verdict}
use Rattle.subobject.specs.declared.segment.Segment.{Segment}
use Rattle.subobject_strays.specs.declared.Strays.{Strays}

pub record Picked : Type 0 where
  pub verdict : Verdict
  pub segment : Segment
  pub strays : Strays
