use Rattle.hexadecimal.proofs.Laws.{length_octets, octets_at, copied_all}
use Rattle.hexadecimal.specs.Hexadecimal.{octets_of}
use Rattle.octets.proofs.Laws.{copied_more}
use Rattle.std.proofs.Common.{◌≡◌, ◌∙◌, length, length-set, refl, arith}
use Rattle.hexadecimal.proofs.decode.Goals as goal

pub loop-n-init : goal.loop-n-init
loop-n-init c = record { room = refl; fits = omega arith; laid = refl }

pub loop-n-preserved : goal.loop-n-preserved
loop-n-preserved c =
    let args = c.args in record {
      room = simp length-set c.loop-n.invariant.room;
      fits = c.loop-n.invariant.fits;
      laid = rw (c.loop-n.invariant.laid, c.pair.ensures.pair, ← octets_at args.word.now c.loop-n.n (omega arith))
          (copied_more args.out.now (octets_of args.word.now) c.loop-n.n (omega arith)
          (omega (arith, length_octets args.word.now)));
    }

pub returns : goal.returns
returns c =
    let e : c.loop-n.n ≡ length (octets_of c.args.word.now) = omega (arith, length_octets c.args.word.now) in
    record { decoded = (c.octets_in.ensures.count, c.loop-n.invariant.laid ∙ copied_all c.args.out.now (octets_of c.args.word.now) c.loop-n.n e) }
