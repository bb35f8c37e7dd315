use Rattle.printing.specs.Text.{Behind, further_text}
use Rattle.std.proofs.Common.{◌≡◌, ◌+◌, ◌*◌, ◌≤◌, length, take}
use Rattle.printing.proofs.Text.further.Given as goal

abbrev pub invariant-loop-x : goal.invariant-loop-x
invariant-loop-x l = record {
  same_reference : l.self.out.ghost_name ≡ l.initial.self.out.ghost_name;
  ends : l.self.at ≤ l.initial.self.at + 21 * l.x-index;
  fits : l.initial.self.at + 21 * length l.s ≤ length l.initial.self.out.now;
  text : Behind l.initial.self.out.now l.self.out.now l.initial.self.at l.self.at (further_text (take l.x-index l.s));
}
