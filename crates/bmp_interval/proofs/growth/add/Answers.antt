use Rattle.bmp_interval.proofs.AddedLemmas.{elem_added}
use Rattle.bmp_interval.proofs.growth.add.Goals as goal

pub returns-in-Ok-clause-ok : goal.returns-in-Ok-clause-ok
returns-in-Ok-clause-ok c = elem_added c.args.set.now.keys c.insert_full.new.self.keys c.args.e c.in-Ok.ensures.keys
