use Rattle.bmp_check.proofs.Soundness.{passed_counts_are_dimensions}
use Rattle.bmp_check.proofs.laws.passed_counts_are_dimensions.Goals as goal

pub returns : goal.returns
returns c = passed_counts_are_dimensions
