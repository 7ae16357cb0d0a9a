use Rattle.bmp_weyl.proofs.ExchangeLemmas.{descent_negative, negative_descent}
use Rattle.bmp_weyl.proofs.laws.descent_is_negative_column.Goals as goal

pub returns : goal.returns
returns c m roots system u k letters l =
    (descent_negative m roots system u letters k l, negative_descent m roots system u letters k l)
