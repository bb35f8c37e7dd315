-- What a step answers: the verdict; with an acceptance the segment and the place behind it, else the segment of zeros and the place asked for.
use Rattle.std.specs.Prelude.{ℕ}
use Rattle.answers.specs.declared.verdict.Verdict.{Verdict}
use Rattle.subobject.specs.declared.segment.Segment.{Segment}

pub record Stepped : Type 0 where
  pub verdict : Verdict
  pub segment : Segment
  pub next : ℕ
