use Rattle.bmp_cover.proofs.TopCounts.{counts_are_dimensions}
use Rattle.bmp_cover.proofs.laws.counts_of_all_are_dimensions.Goals as goal

pub returns : goal.returns
returns c = counts_are_dimensions
