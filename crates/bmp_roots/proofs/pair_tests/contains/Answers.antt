use Rattle.std.proofs.Common.{rules}
use Rattle.bmp_roots.proofs.PairListLemmas.{not_yet, found_at, not_true}
use Rattle.bmp_roots.proofs.pair_tests.contains.Goals as goal

pub returns-then-is_same : goal.returns-then-is_same
returns-then-is_same c = (
  (λ t. found_at _ c.args.pairs.now c.loop-p.p-index _ c.loop-p-test.true (c.if-is_same.ensures.0 t)),
  (λ h. search rules),
)

pub loop-p-preserved : goal.loop-p-preserved
loop-p-preserved c =
    not_yet _ c.args.pairs.now c.loop-p.p-index _ c.loop-p-test.true c.loop-p.invariant
    (λ e. not_true c.is_same.result c.if-is_same.false (c.is_same.ensures.1 e))
