use Rattle.bmp_stalk.proofs.AboveLemmas.{equations_stay}
use Rattle.bmp_stalk.proofs.ListLemmas.{equal_values_pass}
use Rattle.bmp_stalk.proofs.laws.equations_stay.Goals as goal

pub returns-clause-equations : goal.returns-clause-equations
returns-clause-equations c = equations_stay

pub returns-clause-values : goal.returns-clause-values
returns-clause-values c = equal_values_pass
