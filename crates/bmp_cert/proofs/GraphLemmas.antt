-- The graph of a job is one: where two edges at a vertex are parallel, no graph of the job has the GKM condition.
-- And what a prepared job keeps, with the GKM condition, are all rules.
use Rattle.std.proofs.Common.{◌≡◌, ℕ, List, [], ◌∷◌, sym, ◌∙◌, subst, arith}
use Rattle.std.proofs.Math.Logic.{∥∥₁_elim, ∥∥₁_prop}
use Rattle.bmp_interval.specs.IntervalViews.{system_of, vertices_of}
use Rattle.bmp_interval.specs.declared.interval.Interval.{Interval}
use Rattle.bmp_bruhat.proofs.OneGraph.{graph_of_word}
use Rattle.bmp_graph.specs.Graph.{Graph, HasGkm}
use Rattle.bmp_graph.specs.Faults.{IsFirstParallelPair}
use Rattle.bmp_graph.specs.declared.fault.GkmPair.{GkmPair}
use Rattle.bmp_cert.specs.declared.job.Job.{Job}
use Rattle.bmp_cert.specs.declared.job_fault.JobFault.TheVariants.{Gkm}
use Rattle.bmp_cert.specs.JobGraphs.{form_of_job, IsJobGraph, IsPrepared}
use Rattle.bmp_cert.specs.JobRules.{HasGkmGraph, graph_rules, rules, KeepsAll, IsFirstFault}
use Rattle.bmp_cert.proofs.RuleLemmas.{keeps_both, fails_behind}

pub one_graph : (j : Job) (g h : Graph) → IsJobGraph j g → IsJobGraph j h → g ≡ h
one_graph j g h of_g of_h =
    graph_of_word of_g.roots of_h.roots (of_g.system.matrix ∙ sym of_h.system.matrix) j.word of_g.vertices of_h.vertices
    j.prime (form_of_job j) g h
    of_g.interval of_h.interval of_g.bruhat of_h.bruhat of_g.graph of_h.graph

pair_fails : (g : Graph) (x d e : ℕ) → IsFirstParallelPair g x d e → HasGkm g → ⊥
pair_fails g x d e first holds =
    let p = first.first_at.partner.pair in
    holds x d e p.first p.second (λ same. absurd (omega (arith, p.rising, same))) p.parallel

-- the first parallel pair of the graph is the first fault of a job that keeps the other rules
pub gkm_fault : (j : Job) (g : Graph) (p : GkmPair) → KeepsAll graph_rules j → IsJobGraph j g →
    IsFirstParallelPair g p.vertex p.first p.second → IsFirstFault j (Gkm p)
gkm_fault j g p kept of_g first = record {
  fails = fails_behind j graph_rules (HasGkmGraph ∷ []) 0 kept
      (λ (h, of_h, holds). pair_fails g p.vertex p.first p.second first
      (subst (λ (k : Graph). HasGkm k) (one_graph j h g of_h of_g) holds));
  values = (g, of_g, first);
}

-- ---- what is kept with a job

pub prepared_graph : (j : Job) (interval : Interval) (g : Graph) → IsPrepared j interval g → IsJobGraph j g
prepared_graph j interval g p = record {
  roots = system_of interval;
  vertices = vertices_of interval;
  system = p.system;
  interval = p.interval_is;
  bruhat = p.bruhat;
  graph = p.graph;
}

pub kept_rules : (j : Job) (interval : Interval) (g : Graph) → ∥ KeepsAll graph_rules j ∥₁ →
    ∥ IsPrepared j interval g ∥₁ → HasGkm g → ∥ KeepsAll rules j ∥₁
kept_rules j interval g kept prepared gkm = ∥∥₁_elim kept ∥∥₁_prop (λ k. ∥∥₁_elim prepared ∥∥₁_prop (λ p.
    ∣ keeps_both j graph_rules (HasGkmGraph ∷ []) k ((g, prepared_graph j interval g p, gkm), tt) ∣₁))
