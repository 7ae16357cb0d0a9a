use Rattle.bmp_interval.proofs.IntervalLemmas.{only_longest}
use Rattle.bmp_interval.proofs.laws.word_is_only_longest.Goals as goal

pub returns : goal.returns
returns c m roots system word letters = only_longest m roots system word letters
