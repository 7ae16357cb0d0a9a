use Rattle.std.proofs.Common.{arith}
use Rattle.bmp_roots.proofs.PairListLemmas.{same_pairs}
use Rattle.bmp_roots.proofs.pair_tests.is_same.Goals as goal

pub returns : goal.returns
returns c = same_pairs c.args.a.now c.args.b.now _ (omega arith) (omega arith) (omega arith) (omega arith)
    c.has_same_lists.ensures
