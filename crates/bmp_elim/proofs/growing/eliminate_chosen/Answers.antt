use Rattle.bmp_elim.proofs.ChosenLemmas.{chosen_reduced}
use Rattle.bmp_elim.proofs.growing.eliminate_chosen.Goals as goal

pub returns : goal.returns
returns g c = λ old grown. chosen_reduced grown c.in_ok-trace.ensures.same c.in_ok-pivots.ensures
