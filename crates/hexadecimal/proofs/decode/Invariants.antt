use Rattle.hexadecimal.specs.Hexadecimal.{octets_of}
use Rattle.octets.proofs.Laws.{copied}
use Rattle.std.proofs.Common.{◌≡◌, ◌≤◌, ◌*◌, length}
use Rattle.hexadecimal.proofs.decode.Given as goal

abbrev pub invariant-loop-n : goal.invariant-loop-n
invariant-loop-n l = record {
  room : length l.out ≡ length l.initial.out;
  fits : length l.word ≤ 2 * length l.initial.out;
  laid : l.out ≡ copied l.initial.out (octets_of l.word) l.n;
}
