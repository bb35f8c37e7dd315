use Rattle.octets.proofs.Laws.{length_part}
use Rattle.open_carried.proofs.listed.Goals as goal

pub lists-requires : goal.lists-requires
lists-requires c =
    let h = rw c.in-Some.is at c.requires in
    rw (c.of.ensures.value, length_part c.args.s.now c.in-Some.list.from c.in-Some.list.len h.0) h.1
