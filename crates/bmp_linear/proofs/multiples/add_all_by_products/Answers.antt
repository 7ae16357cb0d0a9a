use Rattle.std.proofs.Common.{ℕ, ◌<◌, ◌≤◌, slice_index, arith}
use Rattle.bmp_linear.proofs.MultipleLemmas.{below_none, below_more, run_kept}
use Rattle.bmp_linear.proofs.multiples.add_all_by_products.Goals as goal

some : (p : ℕ) → 2 ≤ p → 0 < p
some p two = omega arith

pub loop-i-init : goal.loop-i-init
loop-i-init g c = below_none _ c.args.run (slice_index c.args.factors.now) c.args.numbers.now

pub add_by_products-requires-clause-run : goal.add_by_products-requires-clause-run
add_by_products-requires-clause-run g c =
    run_kept _ c.args.run c.args.numbers.now c.requires.run _ (slice_index c.args.factors.now) _
    (some _ (g.met.F.Field.laws.at_least_two c.args.f.now)) c.loop-i.invariant

pub loop-i-preserved : goal.loop-i-preserved
loop-i-preserved g c =
    below_more _ c.args.run c.args.numbers.now c.requires.run _ (slice_index c.args.factors.now) _
    (some _ (g.met.F.Field.laws.at_least_two c.args.f.now)) c.loop-i.invariant _ c.loop-i-test.true
    c.add_by_products.ensures
