use Rattle.bmp_check.proofs.FitLemmas.{shape_fits}
use Rattle.bmp_check.proofs.laws.shape_gives_fits.Goals as goal

pub returns : goal.returns
returns c = shape_fits
