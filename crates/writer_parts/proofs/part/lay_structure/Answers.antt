use Rattle.writer_parts.proofs.Laws.{laid_there, laid_absent, room_there}
use Rattle.writer_parts.proofs.part.lay_structure.Goals as goal

pub lay-requires : goal.lay-requires
lay-requires c = search room_there

pub returns-then-there : goal.returns-then-there
returns-then-there c = record { laid = search laid_there }

pub returns-else-there : goal.returns-else-there
returns-else-there c = record { laid = search laid_absent }
