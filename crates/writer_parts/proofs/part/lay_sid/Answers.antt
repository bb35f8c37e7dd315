use Rattle.writer_parts.proofs.Laws.{laid_absent}
use Rattle.writer_parts.proofs.part.lay_sid.Goals as goal

pub returns-else-there : goal.returns-else-there
returns-else-there g c = record { laid = search laid_absent }
