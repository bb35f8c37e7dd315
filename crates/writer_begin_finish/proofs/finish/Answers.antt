use mathlib.Core.Path.{sym}
use lib.ListN.{length, length-set}
use native.Mathlib.Omega.{arith}
use Rattle.answers.specs.Reasons.{number_of}
use Rattle.answers.proofs.Results.{numbered}
use Rattle.writer_rules.proofs.Laws.{done}
use Rattle.writer_begin_finish.specs.Ends.{finish_answer, finish_buffer}
use Rattle.writer_state.proofs.Laws.{answered_refused, answered_accepted, buffer_refused, buffer_accepted}
use Rattle.writer_begin_finish.proofs.Laws.{length_stored}
use Rattle.writer_begin_finish.proofs.finish.Goals as goal

pub returns-in-Err : goal.returns-in-Err
unfolding finish_answer finish_buffer
returns-in-Err c =
    let r = c.in-Err.reason in
    let e = c.in-Err.ensures.number in record {
      answer = answered_refused (number_of r) _ _ _ c.refuse.ensures.refused e (numbered r);
      buffer = buffer_refused (number_of r) _ _ _ e (numbered r);
    }

pub bounds-buf-2 : goal.bounds-buf-2
bounds-buf-2 c = let d = (done (length c.args.buf.now) c.args.writer.at (sym c.in-Ok.ensures.number)).place in omega arith

pub bounds-buf-3 : goal.bounds-buf-3
bounds-buf-3 c = let d = (done (length c.args.buf.now) c.args.writer.at (sym c.in-Ok.ensures.number)).place in simp length-set (omega arith)

pub returns-in-Ok : goal.returns-in-Ok
unfolding finish_answer finish_buffer
returns-in-Ok c =
    let e = sym c.in-Ok.ensures.number in
    let d = (done (length c.args.buf.now) c.args.writer.at e).place in
    record { answer = answered_accepted _ _ _ c.accept.ensures.accepted e; buffer = buffer_accepted _ _ _ (length_stored c.args.buf.now _ _ (omega arith)) e }
