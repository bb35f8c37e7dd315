use Rattle.octets.specs.Octets.{octet_of}
use Rattle.subobject.specs.Rules.{label_at}
use Rattle.subobject_sound.proofs.sound.label_in.Goals as goal

pub returns : goal.returns
unfolding label_at octet_of
returns c = record { label = cc }
