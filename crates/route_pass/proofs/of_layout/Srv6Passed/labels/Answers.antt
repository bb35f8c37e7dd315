use native.Mathlib.Omega.{arith}
use Rattle.route_pass.proofs.of_layout.Srv6Passed.labels.Goals as goal

pub returns : goal.returns
returns c = record { labels = record { room = omega (arith, c.requires.0); alone = λ h. absurd (omega (arith, h)) } }
