-- What a call of writing answers: the verdict, and the state for the next call.
use Rattle.answers.specs.declared.verdict.Verdict.{Verdict}
use Rattle.answers.specs.Verdicts.{passed_of}
use Rattle.writer_state.specs.declared.Writer.{Writer}
use Rattle.writer_state.specs.declared.Written as code

pub record Written : Type 0 where
  pub verdict : Verdict
  pub writer : Writer

-- a call's answer, with its result as a verdict
abbrev pub written_of : code.Written → Written
written_of w = record { verdict = passed_of w.answer; writer = w.writer }
