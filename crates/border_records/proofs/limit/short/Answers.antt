use Rattle.border_records.proofs.limit.short.Goals as goal

pub returns-in-Some : goal.returns-in-Some
returns-in-Some c = record { short = rw c.in-Some.is c.cut.ensures.cut }
