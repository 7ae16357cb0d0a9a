use Rattle.bmp_interval.proofs.OneInterval.{one_interval_of}
use Rattle.bmp_interval.proofs.laws.interval_of_is_one.Goals as goal

pub returns : goal.returns
returns c = one_interval_of
