use Rattle.octets.proofs.Laws.{part_lent}
use Rattle.tlvs.proofs.span.Span.of.Goals as goal

pub returns : goal.returns
returns c = record { value = part_lent _ _ _ }
