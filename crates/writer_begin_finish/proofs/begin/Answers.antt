use Prim.Native.Nat.{ℕ}
use mathlib.Core.Path.{◌∙◌, ap}
use lib.ListN.{length-set}
use native.Mathlib.Omega.{arith}
use borrow.Author.Tests.{lt-ltb, le-ltb}
use Rattle.writer_state.specs.Answers.{accepted_as}
use Rattle.writer_begin_finish.specs.Ends.{begin_number, begin_answer, begin_buffer}
use Rattle.writer_begin_finish.proofs.Laws.{header_stored}
use Rattle.writer_begin_finish.proofs.begin.Goals as goal

pub returns-then-buf-lt-HEADER : goal.returns-then-buf-lt-HEADER
unfolding begin_number begin_answer begin_buffer
returns-then-buf-lt-HEADER c = record { answer = simp (lt-ltb _ _ c.if-buf-lt-HEADER.true) c.refuse.ensures.refused; buffer = simp (lt-ltb _ _ c.if-buf-lt-HEADER.true) }

pub bounds-buf-1 : goal.bounds-buf-1
bounds-buf-1 c = simp length-set (omega arith)

pub bounds-buf-2 : goal.bounds-buf-2
bounds-buf-2 c = simp length-set (omega arith)

pub returns : goal.returns
unfolding begin_number begin_answer begin_buffer
returns c =
    let a = c.args in record {
      answer = simp (le-ltb _ _ c.if-buf-lt-HEADER.false)
          (c.accept.ensures.accepted ∙ ap (λ (f : ℕ). accepted_as (record { ero = a.ero; at = 4; form = f })) c.kept_form.ensures.form);
      buffer = simp (le-ltb _ _ c.if-buf-lt-HEADER.false)
          (header_stored a.buf.now a.ero c.class.result c.class.ensures.class c.if-buf-lt-HEADER.false);
    }
