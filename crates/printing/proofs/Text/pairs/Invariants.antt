use Rattle.printing.specs.Text.{Behind, hex_of}
use Rattle.std.proofs.Common.{◌≡◌, ◌+◌, ◌*◌, ◌≤◌, length, take}
use Rattle.printing.proofs.Text.pairs.Given as goal

abbrev pub invariant-loop-x : goal.invariant-loop-x
invariant-loop-x l = record {
  same_reference : l.self.out.ghost_name ≡ l.initial.self.out.ghost_name;
  ends : l.self.at ≡ l.initial.self.at + 2 * l.x-index;
  fits : l.initial.self.at + 2 * length l.s ≤ length l.initial.self.out.now;
  text : Behind l.initial.self.out.now l.self.out.now l.initial.self.at l.self.at (hex_of (take l.x-index l.s));
}
