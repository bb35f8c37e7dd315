use mathlib.Core.Path.{sym}
use lib.ListN.{get_or-eq_default}
use Rattle.octets.specs.Octets.{octet_of}
use borrow.Author.Rules.{rules}
use Rattle.octets.proofs.take.octet.Goals as goal

pub returns-then-at-s : goal.returns-then-at-s
unfolding octet_of
returns-then-at-s c = search rules

pub returns-else-at-s : goal.returns-else-at-s
unfolding octet_of
returns-else-at-s c = record { octet = (sym (get_or-eq_default c.args.s.now 0 c.if-at-s.false), search rules) }
