use Rattle.std.proofs.Common.{rules}
use Rattle.bmp_graph.specs.Graph.{IsAbove}
use Rattle.bmp_sections.proofs.UpperSetLemmas.{tested_more}
use Rattle.bmp_sections.proofs.upper_set.UpperSet.above.Goals as goal

pub loop-y-preserved : goal.loop-y-preserved
loop-y-preserved c = record {
  counted = search rules;
  tested = tested_more (λ z. IsAbove c.args.graph.now z c.args.x) c.loop-y.tests.items _ c.is_above.result c.loop-y.y
      c.loop-y.invariant.counted (search rules) c.is_above.ensures c.loop-y.invariant.tested;
}
