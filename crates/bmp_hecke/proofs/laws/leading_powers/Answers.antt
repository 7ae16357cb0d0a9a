use Rattle.std.proofs.Common.{refl}
use Rattle.bmp_hecke.proofs.LeadingLemmas.{bar_powers}
use Rattle.bmp_hecke.proofs.WeylLemmas.{weyl_is_group}
use Rattle.bmp_hecke.proofs.laws.leading_powers.Goals as goal

pub returns : goal.returns
returns c m roots system x y in_x in_y d = (
  (bar_powers (weyl_is_group m roots system) _ y x in_y in_x refl).at d,
  (bar_powers (weyl_is_group m roots system) _ y x in_y in_x refl).off d,
)
