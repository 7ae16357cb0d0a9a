use Rattle.bmp_stalk.proofs.ChoiceLemmas.{chosen_columns_pass}
use Rattle.bmp_stalk.proofs.laws.chosen_columns_pass.Goals as goal

pub returns : goal.returns
returns c = chosen_columns_pass
