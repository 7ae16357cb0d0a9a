use Rattle.bmp_hecke.specs.WeylGroups.{weyl_group}
use Rattle.bmp_hecke.proofs.LeadingLemmas.{leading_size}
use Rattle.bmp_hecke.proofs.laws.leading_are_small.Goals as goal

pub returns : goal.returns
returns c m roots n y x j = leading_size (weyl_group m roots) n y x j
