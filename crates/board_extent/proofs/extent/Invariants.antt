use Rattle.board_extent.proofs.Reached.{Met}
use Rattle.board_extent.proofs.extent.Given as goal

abbrev pub invariant-loop-k : goal.invariant-loop-k
invariant-loop-k l = Met l.b.keys.now l.m l.key l.k

abbrev pub invariant-loop-v : goal.invariant-loop-v
invariant-loop-v l = Met l.b.versions.now l.m l.version l.v

abbrev pub invariant-loop-l : goal.invariant-loop-l
invariant-loop-l l = Met l.b.lengths.now l.m l.length l.l

abbrev pub invariant-loop-f : goal.invariant-loop-f
invariant-loop-f l = Met l.b.forms.now l.m l.form l.f
