-- What report answers where the record of a board goes by value: as where its parts are lent, and it hands it back.
use Rattle.std.specs.Prelude.{ℕ, List, Result, Ok, Err}
use Rattle.answers.specs.declared.refusal.Refusal.{Refusal}
use Rattle.answers.specs.declared.refusal.Counts.{Counts}
use Rattle.answers.specs.Verdicts.{carrying_both, refusal_of}
use Rattle.session.specs.declared.Sessions.{Sessions}
use Rattle.board_record.specs.declared.record.Board.{Board}
use Rattle.board_report_call.specs.Reported as called
use Rattle.board_by_value.specs.Back.{Answer}
use Rattle.board_by_value.specs.ByValue.{answer_of}

unfoldable pub report_by_value : Board → List ℕ → ℕ → List ℕ → Sessions → ℕ → List ℕ → Answer
report_by_value b store k octets sessions pst addresses = answer_of (called.report_for_on b store k octets sessions pst addresses)

abbrev pub report_store_by_value : Board → List ℕ → ℕ → List ℕ → Sessions → ℕ → List ℕ → List ℕ
report_store_by_value b store k octets sessions pst addresses = called.report_store_for_on b store k octets sessions pst addresses

-- a call's result, as that answer: a refusal hands no record back, so the caller's stays
abbrev pub counted_back_of : Board → Result (Board × Counts) Refusal → Answer
counted_back_of b (Ok d) = record { verdict = carrying_both d.1.count d.1.stray; board = d.0 }
counted_back_of b (Err e) = record { verdict = refusal_of e; board = b }
