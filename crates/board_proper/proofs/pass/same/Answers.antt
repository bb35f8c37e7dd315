use Rattle.std.proofs.Common.{rules}
use Rattle.board_proper.proofs.Tops.{rows_same}
use Rattle.board_proper.proofs.pass.same.Goals as goal

pub returns : goal.returns
returns c = record { same = rows_same c.args.seen.now c.args.tops.now _ c.told-seen c.told-tops (search rules) }
