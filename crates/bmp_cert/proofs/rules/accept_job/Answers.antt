use Rattle.std.proofs.Common.{[], ◌∷◌}
use Rattle.bmp_cert.specs.JobRules.{HasGkmGraph, graph_rules, rules, IsFirstFault}
use Rattle.bmp_cert.specs.JobViews.{prepared_of, graph_of}
use Rattle.bmp_cert.specs.declared.job_fault.JobFault.TheVariants.{Gkm}
use Rattle.bmp_cert.proofs.RuleLemmas.{keeps_both, not_kept}
use Rattle.bmp_cert.proofs.GraphLemmas.{gkm_fault}
use Rattle.bmp_cert.proofs.rules.accept_job.Goals as goal

pub returns-in-Err-clause-fault : goal.returns-in-Err-clause-fault
returns-in-Err-clause-fault c =
    gkm_fault c.args.j.now (graph_of c.in_ok-prepared.prepared) c.in-Err.pair c.in_ok-prepared.ensures.kept
    c.in_ok-prepared.ensures.graph c.in-Err.ensures.fails

pub returns-in-Err-clause-only : goal.returns-in-Err-clause-only
returns-in-Err-clause-only c = λ kept.
    let fault : IsFirstFault c.args.j.now (Gkm c.in-Err.pair) = returns-in-Err-clause-fault c in
    absurd (not_kept c.args.j.now rules 9 fault.fails kept)
