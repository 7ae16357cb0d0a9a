use Rattle.std.proofs.Common.{◌+◌, rules}
use Rattle.bmp_graph.specs.Graph.{IsParallel}
use Rattle.bmp_graph.specs.Faults.{IsParallelPair}
use Rattle.bmp_graph.proofs.GkmLemmas.{no_partner, searched_more, found_partner}
use Rattle.bmp_graph.proofs.graph.MomentGraph.parallel_after.Goals as goal

pub returns-then-has_parallel : goal.returns-then-has_parallel
returns-then-has_parallel c =
    let parallel : IsParallel c.args.self.now c.args.first c.in-Some.second = search rules in
    found_partner _ c.args.x c.args.first _ c.in-Some.second c.requires.edge c.loop-next.invariant c.in-Some.is parallel

pub loop-next-preserved : goal.loop-next-preserved
loop-next-preserved c =
    let apart : IsParallel c.args.self.now c.args.first c.in-Some.second → ⊥ = search rules in
    searched_more _ c.args.x (c.args.first + 1) (λ e. IsParallelPair c.args.self.now c.args.x c.args.first e → ⊥)
    (no_partner _ c.args.x c.args.first)
    _ _ c.in-Some.second c.loop-next.invariant c.in-Some.is (λ pair. apart pair.parallel) c.next_at-next-in-Some.ensures
