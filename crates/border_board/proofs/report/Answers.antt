use Rattle.session.specs.declared.Sessions.{Sessions}
use Rattle.board_entry.specs.Parts.{board_in}
use Rattle.board_report_call.specs.Reported.{report_for_on, report_store_for_on}
use Rattle.border_board.proofs.Laws.{told_under}
use Rattle.border_board.proofs.report.Goals as goal

pub returns : goal.returns
returns c =
    let told = c.report-answer.ensures in let args = c.args in
    let b = board_in args.b.now in record {
      parts = told.parts;
      answer = told_under (λ (s : Sessions). report_for_on b args.store.now args.key args.octets.now s args.pst args.addresses.now)
          (λ (s : Sessions). report_store_for_on b args.store.now args.key args.octets.now s args.pst args.addresses.now)
          _ args.session _ _ _ _ c.sessions_in-sessions.ensures.sessions told.answer.0 told.answer.1 c.answer_out.ensures.answer;
    }
