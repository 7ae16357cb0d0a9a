use Rattle.bmp_weyl.proofs.LoweredLemmas.{strong_exchange}
use Rattle.bmp_weyl.proofs.laws.strong_exchange.Goals as goal

pub returns : goal.returns
returns c m roots system choices u letters q is positive negative =
    strong_exchange system choices u letters q is positive negative
