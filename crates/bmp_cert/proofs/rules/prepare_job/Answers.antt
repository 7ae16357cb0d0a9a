use Rattle.std.proofs.Common.{◌≡◌, sym, subst}
use Rattle.bmp_interval.specs.IntervalViews.{system_of, vertices_of}
use Rattle.bmp_cert.specs.declared.job.Job.{Job}
use Rattle.bmp_cert.specs.JobGraphs.{IsPrepared}
use Rattle.bmp_cert.specs.JobRules.{graph_rules, KeepsAll}
use Rattle.bmp_cert.proofs.rules.prepare_job.Goals as goal

pub invariant_of-result : goal.invariant_of-result
invariant_of-result c =
    let same : c.in_ok-copy.field-0 ≡ c.args.j.now = c.in_ok-copy.ensures in
    let prepared : IsPrepared c.args.j.now c.in_ok-interval.interval c.in_ok-graph.graph = record {
      system = c.in_ok-interval.ensures.system;
      word = c.in_ok-interval.ensures.word;
      interval_is = c.in_ok-interval.ensures.interval;
      bruhat = c.in_ok-graph.ensures.bruhat;
      graph = c.in_ok-graph.ensures.graph;
    } in
    record {
      prepared = ∣ subst (λ (j : Job). IsPrepared j c.in_ok-interval.interval c.in_ok-graph.graph) (sym same) prepared
          ∣₁;
      keeps = ∣ subst (λ (j : Job). KeepsAll graph_rules j) (sym same) c.in_ok-graph.ensures.kept ∣₁;
    }

pub returns-clause-graph : goal.returns-clause-graph
returns-clause-graph c = record {
  roots = system_of c.in_ok-interval.interval;
  vertices = vertices_of c.in_ok-interval.interval;
  system = c.in_ok-interval.ensures.system;
  interval = c.in_ok-interval.ensures.interval;
  bruhat = c.in_ok-graph.ensures.bruhat;
  graph = c.in_ok-graph.ensures.graph;
}
