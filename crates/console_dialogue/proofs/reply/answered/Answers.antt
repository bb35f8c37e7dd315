-- A row's turn is the call's of its group (`proofs/Rows`): which verb was read is known from the row (`verb_in_lem`), the command and the sessions from `parse` and `agree`, and each arm's
-- return hands these and what its call ensures to the law of its group.
use Rattle.session.proofs.Laws.{agreed_results}
use Rattle.console_dialogue.proofs.TurnLaws.{does, composed_does}
use Rattle.console_dialogue.proofs.Rows.{verb_in_lem, asks_does, writes_row, changes_does, looks_does}
use Rattle.console_writer_rows.specs.Written.{written_turn}
use Rattle.writer_state.specs.declared.Writer.{Writer}
use Rattle.printing.proofs.Laws.{behind_none}
use Rattle.command_forms.specs.Forms.{most_size}
use Rattle.command_forms.specs.declared.verb.Verb.TheVariants as v
use Rattle.command_rows.specs.declared.Row.TheVariants as r
use Rattle.command_rows.specs.Rows.{written}
use Prim.Native.Nat.{ℕ}
use mathlib.Core.List.{List}
use lib.Seq.{length-take-le}
use mathlib.Core.Path.{refl, sym, ◌∙◌}
use native.Mathlib.Omega.{arith}
use borrow.Author.Rules.{rules}
use Rattle.console_dialogue.proofs.reply.answered.Goals as goal

pub set-requires : goal.set-requires
set-requires c = (c.parse-c.ensures.read, verb_in_lem (r.Sets c.in-Sets.x) c.row_of-row.ensures.row c.in-Sets.is, c.requires)

pub slice_bounds-written-end-in-Writes : goal.slice_bounds-written-end-in-Writes
slice_bounds-written-end-in-Writes c = sym (length-take-le most_size c.args.memory.now c.requires.buffer)

pub written-requires : goal.written-requires
written-requires c = (
  c.parse-c.ensures.read,
  verb_in_lem (r.Writes c.in-Writes.x) c.row_of-row.ensures.row c.in-Writes.is,
  length-take-le most_size c.args.memory.now c.requires.buffer,
  c.requires.spells,
  omega (arith, c.requires.lent),
)

pub returns-in-Skip : goal.returns-in-Skip
returns-in-Skip c =
    record {
      done = does v.Skip c.parse-c.ensures.read (verb_in_lem r.Skip c.row_of-row.ensures.row c.in-Skip.is) c.ended.ensures.ended (behind_none _ 0) refl refl;
    }

pub returns-in-Bad : goal.returns-in-Bad
returns-in-Bad c =
    record {
      done = does v.Bad c.parse-c.ensures.read (verb_in_lem r.Bad c.row_of-row.ensures.row c.in-Bad.is) c.ended-in-Bad.ensures.ended c.bad.ensures.told refl refl;
    }

pub returns-in-Asks : goal.returns-in-Asks
returns-in-Asks c =
    let parse = c.parse-c in
    let a = c.args in
    let x = c.in-Asks.x in
    record {
      done = asks_does x a.state parse.result a.store.now a.memory.now a.line.now a.n parse.ensures.read
          (verb_in_lem (r.Asks x) c.row_of-row.ensures.row c.in-Asks.is) c.ended-in-Asks.ensures.ended
          (agreed_results _ _ c.ok.ensures.value c.ok-2.ensures.value c.agree-s.ensures.sessions) c.asked.ensures.told;
    }

pub returns-in-Writes : goal.returns-in-Writes
returns-in-Writes c =
    let a = c.args in
    let m = a.memory.now in
    let parse = c.parse-c in
    let call = c.written in
    let x = c.in-Writes.x in
    let l = call.auto.memory ∙ length-take-le most_size m c.requires.buffer in
    record {
      done = composed_does (λ (w : Writer) (l : List ℕ). written_turn x w l parse.result a.line.now) (written x) a.state parse.result a.store.now m call.new.memory
          a.line.now a.n (λ k. writes_row x k parse.result a.line.now a.n) parse.ensures.read
          (verb_in_lem (r.Writes x) c.row_of-row.ensures.row c.in-Writes.is) c.composed.ensures.ended l call.ensures.writer call.ensures.lent call.ensures.told;
    }

pub returns-in-Changes : goal.returns-in-Changes
returns-in-Changes c =
    let parse = c.parse-c in
    let a = c.args in
    let call = c.changed in
    let x = c.in-Changes.x in
    record {
      done = changes_does x a.state parse.result a.store.now a.memory.now a.line.now a.n parse.ensures.read
          (verb_in_lem (r.Changes x) c.row_of-row.ensures.row c.in-Changes.is) c.boarded.ensures.ended
          (agreed_results _ _ c.ok.ensures.value c.ok-2.ensures.value c.agree-s.ensures.sessions)
          call.ensures.board call.ensures.store call.ensures.told;
    }

pub returns-in-Looks : goal.returns-in-Looks
returns-in-Looks c =
    let parse = c.parse-c in
    let a = c.args in
    let x = c.in-Looks.x in
    record {
      done = looks_does x a.state parse.result a.store.now a.memory.now a.line.now a.n parse.ensures.read
          (verb_in_lem (r.Looks x) c.row_of-row.ensures.row c.in-Looks.is) c.ended-in-Looks.ensures.ended c.looked.ensures.told;
    }
