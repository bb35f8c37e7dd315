use mathlib.Core.Path.{refl}
use Rattle.board_fits.proofs.Lengths.{body_fits}
use Rattle.board_fits.proofs.fits.Goals as goal

pub returns : goal.returns
returns c = record { fits = body_fits _ _ _ _ c.turned-t.ensures.turned refl }
