use Rattle.bmp_check.proofs.Soundness.{passed_generators_are_bounded}
use Rattle.bmp_check.proofs.laws.passed_generators_are_bounded.Goals as goal

pub returns : goal.returns
returns c = passed_generators_are_bounded
