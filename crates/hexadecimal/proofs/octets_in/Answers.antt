use Rattle.hexadecimal.proofs.Laws.{length_octets}
use mathlib.Core.Path.{sym}
use Rattle.hexadecimal.proofs.octets_in.Goals as goal

pub returns : goal.returns
returns c = record { count = sym (length_octets _) }
