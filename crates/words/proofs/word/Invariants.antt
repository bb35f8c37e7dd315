-- The word asked for is word `i - counter` of what is left of the line.
use Rattle.words.specs.Words.{word_of}
use Rattle.std.proofs.Common.{◌≡◌, ◌≤◌, ◌-◌, length}
use Rattle.words.proofs.word.Given as goal

abbrev pub invariant-loop : goal.invariant-loop
invariant-loop l = record {
  same : word_of l.rest l.mark (l.i - l.counter) ≡ word_of l.line l.mark l.i;
  shorter : length l.rest ≤ length l.line;
}
