use Rattle.bmp_stalk.proofs.DraftLemmas.{built_degree_passes, built_degree_stays}
use Rattle.bmp_stalk.proofs.laws.built_degrees_pass.Goals as goal

pub returns-clause-passes : goal.returns-clause-passes
returns-clause-passes g c = λ s x d list b t at built. built_degree_passes at built

pub returns-clause-stay : goal.returns-clause-stay
returns-clause-stay g c = λ s x d list b t more at built longer. built_degree_stays at built more longer
