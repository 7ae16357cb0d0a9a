use Rattle.bmp_interval.proofs.OneInterval.{one_interval}
use Rattle.bmp_interval.proofs.laws.interval_is_one.Goals as goal

pub returns : goal.returns
returns c m roots others first second word list other = one_interval m word roots others first second list other
