use mathlib.Core.Path.{refl}
use Rattle.route_pass.proofs.of_layout.MplsPassed.labels.Goals as goal

pub returns : goal.returns
returns c = let a = c.labels.ensures.labels in record { labels = record { room = a.room; alone = λ h. (refl, a) } }
