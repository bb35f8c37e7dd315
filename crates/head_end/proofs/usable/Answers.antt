use Rattle.head_end.specs.Addresses.{usable_list}
use mathlib.Core.Path.{refl}
use Rattle.head_end.proofs.usable.Goals as goal

pub returns : goal.returns
unfolding usable_list
returns c = record { usable = refl }
