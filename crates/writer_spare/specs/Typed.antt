-- A segment as the code holds it: each number in its type, each array of its length.
use Rattle.std.specs.Prelude.{◌<◌, ◌≡◌, length}
use Rattle.octets.specs.Octets.{end16}
use Rattle.subobject.specs.declared.segment.Segment.{Segment}
use Rattle.subobject.specs.Layout.{sid_size, nai_size, bit_lengths}

pub record Typed (g : Segment) : Type 0 where
  pub nt : g.nt < 256
  pub behaviour : g.behaviour < end16
  pub sid : length g.sid ≡ sid_size
  pub nai : length g.nai ≡ nai_size
  pub structure : length g.structure ≡ bit_lengths
