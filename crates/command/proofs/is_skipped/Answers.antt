use Rattle.command.proofs.Laws.{skipped_empty, skipped_first}
use Rattle.std.proofs.Common.{◌≡◌, length, arith}
use Rattle.command.proofs.is_skipped.Goals as goal

pub returns-in-empty : goal.returns-in-empty
returns-in-empty c = record { skipped = skipped_empty _ (omega arith) }

pub returns-in-len1-up : goal.returns-in-len1-up
returns-in-len1-up c = record { skipped = skipped_first c.args.line.now (λ (e : length c.args.line.now ≡ 0). omega arith) }
