-- What was read splits at its first newline. With one, the line before it is answered and the rest is heard next (`heard_line`, `said_line`); without
-- one, all of it is more of the line (`heard_part`, `said_part`).
use Rattle.console_dialogue.proofs.HearingLaws.{longer_made, heard_line, said_line, heard_part, said_part, text_within}
use Rattle.console_dialogue.specs.Input.{most_kept, heard_of}
use Rattle.words.specs.Words.{newline, until_mark}
use lib.ListN.{length, drop, take, length-take}
use Prim.Native.Nat.{◌≤◌}
use native.Mathlib.Omega.{arith}
use borrow.Author.Rules.{rules}
use Rattle.console_dialogue.proofs.onward.take_in.Goals as goal

pub overflow_add-result : goal.overflow_add-result
overflow_add-result c = omega arith

pub returns-then-end-read : goal.returns-then-end-read
returns-then-end-read c =
    let x = c.part-part.result.now in
    let a = c.args in
    let p = c.requires in
    let r = a.read.now in
    let g = heard_of a.h a.store.now a.memory.now a.line.now in
    let small : length g.line ≤ most_kept = omega (arith, length-take a.h.kept a.line.now, p.1.within, p.1.whole) in
    let s = c.part-part.ensures.part.0 in
    let inside = c.part-part.ensures.part.1 in
    let m = longer_made g x (until_mark (drop a.at r) newline) (take c.keep-kept.result c.keep-kept.new.line)
    (length a.line.now) s p.1.whole c.keep-kept.ensures.kept in
    let t = c.answer-said.ensures in
    record {
      heard = heard_line g small r a.at x s (omega (arith, inside)) _ m t.heard c.if-end-read.true;
      said = said_line g small r a.at x s (omega (arith, inside)) _ m t.heard t.told.text c.if-end-read.true;
      within = (omega (arith, inside), omega (arith, c.if-end-read.true, inside), omega (arith, t.begun), text_within t.told);
    }

pub returns : goal.returns
returns c =
    let x = c.part-part.result.now in
    let a = c.args in
    let p = c.requires in
    let r = a.read.now in
    let g = heard_of a.h a.store.now a.memory.now a.line.now in
    let small : length g.line ≤ most_kept = omega (arith, length-take a.h.kept a.line.now, p.1.within, p.1.whole) in
    let s = c.part-part.ensures.part.0 in
    let inside = c.part-part.ensures.part.1 in
    let m = longer_made g x (until_mark (drop a.at r) newline) (take c.keep-kept.result c.keep-kept.new.line)
    (length a.line.now) s p.1.whole c.keep-kept.ensures.kept in
    record {
      heard = heard_part g small r a.at x s (omega (arith, inside)) _ m c.if-end-read.false;
      said = said_part g small r a.at x s (omega (arith, inside)) _ m c.if-end-read.false;
      within = (p.0, omega (arith, inside), c.keep-kept.ensures.within, omega arith);
    }
