-- Four octets are read, and each part of the head is one of them, a quotient or a flag of it: the head is made of what the calls say of each.
use native.Mathlib.Omega.{arith}
use Rattle.octets.specs.Octets.{octet_of}
use Rattle.subobject.proofs.Laws.{head_made}
use Rattle.subobject.proofs.head.head_at.Goals as goal

pub returns : goal.returns
unfolding octet_of
returns c = record { read = search head_made; small = omega arith }
