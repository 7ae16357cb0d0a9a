use Rattle.std.proofs.Common.{ℕ, sym, subst}
use Rattle.bmp_graph.specs.Graph.{Graph}
use Rattle.bmp_cert.specs.Counts.{written_by}
use Rattle.bmp_cert.specs.JobGraphs.{IsPrepared}
use Rattle.bmp_cert.specs.JobRules.{rules, KeepsAll}
use Rattle.bmp_cert.specs.declared.job.Job.{Job}
use Rattle.bmp_check.specs.Accepted.{IsCheckable}
use Rattle.bmp_check.proofs.AcceptedLemmas.{job_is_checkable}
use Rattle.bmp_check.proofs.whole.check_with.Goals as goal

pub check_graph_with-requires-clause-checkable : goal.check_graph_with-requires-clause-checkable
check_graph_with-requires-clause-checkable g c = λ ks lives.
    let cert = c.args.c.now in
    let prepared = c.args.a.now.prepared in
    let same = sym c.requires.job in
    let on_job : IsCheckable prepared.graph cert.version (written_by cert) =
    job_is_checkable cert prepared.interval prepared.graph c.requires.formed
    (subst (λ (j : Job). ∥ IsPrepared j prepared.interval prepared.graph ∥₁) same prepared.prepared)
    (subst (λ (j : Job). ∥ KeepsAll rules j ∥₁) same c.args.a.now.keeps) in
    subst (λ (n : ℕ). IsCheckable c.graph.result.now cert.version (record { degree = n; parts = cert.vertices }))
    (sym c.from.ensures)
    (subst (λ (H : Graph). IsCheckable H cert.version (written_by cert)) (sym c.graph.ensures.value) on_job)
