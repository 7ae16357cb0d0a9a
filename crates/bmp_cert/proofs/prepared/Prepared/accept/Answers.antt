use Rattle.bmp_graph.specs.Graph.{HasGkm}
use Rattle.bmp_cert.proofs.GraphLemmas.{kept_rules}
use Rattle.bmp_cert.proofs.prepared.Prepared.accept.Goals as goal

pub invariant_of-result-clause-keeps : goal.invariant_of-result-clause-keeps
invariant_of-result-clause-keeps c =
    let p = c.args.self in
    let gkm : HasGkm p.graph = c.in_ok-gkm.ensures.holds in
    kept_rules p.job p.interval p.graph p.keeps p.prepared gkm
