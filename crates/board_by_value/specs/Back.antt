-- What report, remove and compact answer: a verdict, and the record that is handed back, changed or after a refusal as it was.
use Rattle.std.specs.Prelude.{Result, Ok, Err}
use Rattle.answers.specs.declared.verdict.Verdict.{Verdict}
use Rattle.answers.specs.declared.refusal.Refusal.{Refusal}
use Rattle.answers.specs.Verdicts.{accepted_with, refusal_of}
use Rattle.board_record.specs.declared.record.Board.{Board}

pub record Answer : Type 0 where
  pub verdict : Verdict
  pub board : Board

-- a call's result, as that answer: a refusal hands no record back, so the caller's stays
abbrev pub back_of : Board → Result Board Refusal → Answer
back_of b (Ok d) = record { verdict = accepted_with 0; board = d }
back_of b (Err e) = record { verdict = refusal_of e; board = b }
