use Rattle.bmp_weyl.proofs.ExchangeLemmas.{subsequence_shorter}
use Rattle.bmp_weyl.proofs.laws.subsequence_is_shorter.Goals as goal

pub returns : goal.returns
returns c m roots system u letters reduced choices long fewer =
    subsequence_shorter m roots system u letters reduced choices fewer
