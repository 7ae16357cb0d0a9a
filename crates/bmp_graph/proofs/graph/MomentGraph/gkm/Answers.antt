use Rattle.std.proofs.Common.{ℕ, arith, below_more}
use Rattle.std.proofs.lemmas.Result.{err_from_is_err_and}
use Rattle.bmp_graph.specs.Faults.{HasNoPartner}
use Rattle.bmp_graph.proofs.GkmLemmas.{HasGkm-pairs, IsFirstParallelPair-at}
use Rattle.bmp_graph.proofs.graph.MomentGraph.gkm.Goals as goal

pub loop-x-preserved : goal.loop-x-preserved
loop-x-preserved c =
    below_more (λ w. (b : ℕ) → HasNoPartner c.args.self.now w b) c.loop-x.x c.loop-x.invariant
    c.in_ok-gkm_at.ensures.holds

pub returns-clause-holds : goal.returns-clause-holds
returns-clause-holds c =
    HasGkm-pairs _ c.vertices-x-end.ensures.graph
    (λ x h. c.loop-x.invariant x (omega (arith, c.vertices-x-end.ensures.count)))

pub returns-in_err-gkm_at-clause-fails : goal.returns-in_err-gkm_at-clause-fails
returns-in_err-gkm_at-clause-fails c =
    let p = err_from_is_err_and c.from_residual.result c.from_residual.ensures.1 in
    let fails = c.in_err-gkm_at.ensures.fails in
    rw (p.1, p.2) (IsFirstParallelPair-at _ c.loop-x.x _ _ _ fails.0 fails.1 c.loop-x.invariant)
