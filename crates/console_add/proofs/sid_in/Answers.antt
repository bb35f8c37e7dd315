use Rattle.console_add.specs.Added.{sid_in}
use Rattle.console_state.proofs.Laws.{spelled}
use Rattle.octets.specs.Octets.{over, part, part_of}
use lib.ListN.{replicate}
use Prim.Native.Nat.{ℕ}
use mathlib.Core.List.{List}
use mathlib.Core.Path.{◌∙◌, ap}
use Rattle.console_add.proofs.sid_in.Goals as goal

pub returns : goal.returns
unfolding part_of part sid_in
returns c =
    record {
      sid = c.part.ensures.part
          ∙ ap (λ (x : List ℕ). over x (replicate 16 0))
          (spelled _ _ c.octets_at-n.ensures.octets);
      room = c.octets_at-n.ensures.room;
    }
