use Rattle.setup_types.proofs.Laws.{any_has, listed_lent}
use mathlib.Core.Path.{◌∙◌}
use native.Mathlib.Omega.{arith}
use Prim.Native.Nat.{◌+◌, ◌-◌}
use Rattle.setup_types.proofs.lists.Goals as goal

pub returns : goal.returns
returns c = let n = c.octet-end.result in
    record { listed = listed_lent c.args.kind c.args.v.now (4 + n - 4) (c.has.ensures.found ∙ any_has _ c.args.kind) (omega (arith, c.octet-end.ensures.octet.0)) }
