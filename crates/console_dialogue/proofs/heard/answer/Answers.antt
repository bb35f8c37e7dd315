use Rattle.console_dialogue.proofs.HearingLaws.{ended_made, turn_told}
use Rattle.console_dialogue.specs.Input.{heard_of, next_number}
use lib.Seq.{length-take-le}
use mathlib.Core.Path.{sym, refl}
use native.Mathlib.Omega.{arith}
use borrow.Author.Rules.{rules}
use Rattle.console_dialogue.proofs.heard.answer.Goals as goal

pub slice_bounds-answered-end : goal.slice_bounds-answered-end
slice_bounds-answered-end c = sym (length-take-le c.args.h.kept c.args.line.now c.requires.within)

pub answered-turn-requires : goal.answered-turn-requires
answered-turn-requires c =
    let p = c.requires in
    record {
      spells = omega (arith, length-take-le c.args.h.kept c.args.line.now p.within, p.within, p.rooms.spells);
      buffer = p.rooms.buffer;
      stored = p.rooms.stored;
      lent = p.rooms.lent;
      listed = omega (arith, length-take-le c.args.h.kept c.args.line.now p.within, p.within, p.rooms.listed);
    }

pub returns : goal.returns
unfolding next_number
returns c = let a = c.args in let g = heard_of a.h a.store.now a.memory.now a.line.now in let e = c.numbered-lines.ensures.number in
    record { heard = ended_made g e c.answered-turn.ensures.done.console; told = turn_told g e c.answered-turn.ensures.done.told; begun = refl }
