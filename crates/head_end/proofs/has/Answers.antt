use Rattle.std.proofs.Common.{rules}
use Rattle.same_octets.specs.Same.{same_octets}
use Rattle.head_end.proofs.Laws.{searched, chunks_of}
use Rattle.head_end.proofs.has.Goals as goal

pub returns : goal.returns
unfolding same_octets
returns c =
    let r = c.any.ensures.runs in
    let chunks = rw (r.1, c.chunks_exact.ensures.size, c.chunks_exact.ensures.rest) at (c.chunks_exact.ensures.runs r.0 r.0.seen) in
    record { found = searched r.0 c.args.x.now c.args.addresses.now (chunks_of r.0 _ _ (chunks (search rules)) (search rules)) _ _ (λ y b f k. search rules) c.any.result r.2 }
