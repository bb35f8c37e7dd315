use Rattle.hexadecimal.proofs.Laws.{length_octets}
use Rattle.hexadecimal.specs.Hexadecimal.{octets_of}
use Rattle.octets.proofs.Laws.{length_over}
use Rattle.octets.specs.Octets.{over}
use lib.Seq.{length-take-le}
use lib.ListN.{length}
use mathlib.Core.List.{List}
use mathlib.Core.Path.{◌≡◌, sym, ◌∙◌, ap}
use Prim.Native.Nat.{ℕ, ◌≤◌}
use native.Mathlib.Omega.{arith}
use Rattle.command.proofs.octets_at.Goals as goal

pub returns : goal.returns
returns c =
    let decode = c.decode in let w = c.word.ensures.word.0 in let out = c.args.out.now in let l = length_octets c.word.result.now in let n : length (octets_of c.word.result.now) ≤ length out = omega
    (arith, c.word.ensures.word.1, c.requires) in let e : length decode.new.out ≡ length out = ap length decode.ensures.decoded.1
    ∙ length_over (octets_of c.word.result.now) out n in let k : decode.result ≤ length decode.new.out = omega (arith, decode.ensures.decoded.0) in record {
      octets = (
        decode.ensures.decoded.0 ∙ ap (λ (x : List ℕ). length (octets_of x)) w,
        decode.ensures.decoded.1 ∙ ap (λ (x : List ℕ). over (octets_of x) out) w,
      );
      within = (k, sym (length-take-le decode.result decode.new.out k));
      room = e;
    }
