use Rattle.bmp_stalk.proofs.UnderLemmas.{stalks_on, tuples_on}
use Rattle.bmp_stalk.proofs.GrownLemmas.{grown_is_longer}
use Rattle.bmp_stalk.proofs.stalk.build_degree.Goals as goal

pub choose_generators-requires-clause-stalks : goal.choose_generators-requires-clause-stalks
choose_generators-requires-clause-stalks g c =
    stalks_on c.requires.drafted c.requires.degree c.in_ok-check_few.ensures

pub choose_generators-requires-clause-tuples : goal.choose_generators-requires-clause-tuples
choose_generators-requires-clause-tuples g c = tuples_on c.requires.drafted c.requires.tuples

pub next_draft-requires-clause-stalks : goal.next_draft-requires-clause-stalks
next_draft-requires-clause-stalks g c = stalks_on c.requires.drafted c.requires.degree c.in_ok-check_few.ensures

pub returns-clause-longer : goal.returns-clause-longer
returns-clause-longer g c = λ e lower. grown_is_longer c.in_ok-longer.ensures.grows e lower
