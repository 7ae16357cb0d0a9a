use Rattle.std.proofs.Common.{◌≡◌, ◌∙◌, sym, subst}
use Rattle.bmp_cert.specs.declared.job.Job.{Job}
use Rattle.bmp_cert.specs.Counts.{written_by, generator_count}
use Rattle.bmp_cert.specs.JobGrammar.{IsWellFormedJob}
use Rattle.bmp_cert.specs.JobRules.{rules, KeepsAll}
use Rattle.bmp_cert.specs.JobViews.{job_of, graph_of, prepared_of}
use Rattle.bmp_report.specs.SampleJobs.{sample_job}
use Rattle.bmp_report.specs.SummaryText.{summary_text}
use Rattle.bmp_report.proofs.SampleLemmas.{all_formed}
use Rattle.bmp_program.specs.Reports.{IsBuiltCert}
use Rattle.bmp_program.specs.Runs.{answer_view}
use Rattle.bmp_program.proofs.BuiltLemmas.{built_summary}
use Rattle.bmp_program.proofs.JobAnswerLemmas.{built_done}
use Rattle.bmp_program.proofs.built_answer.report_sample.Goals as goal

pub built-requires-clause-formed : goal.built-requires-clause-formed
built-requires-clause-formed g c = λ ks lives.
    subst (λ (j : Job). IsWellFormedJob j) (sym (c.in-Ok.ensures.job ∙ c.in_ok-job.ensures)) (all_formed c.args.seed)

pub returns-in-Ok : goal.returns-in-Ok
returns-in-Ok g c =
    let graph = graph_of (prepared_of c.in-Ok.accepted) in
    let cert = c.in_ok-cert-in-Ok.cert in
    let is : job_of (prepared_of c.in-Ok.accepted) ≡ sample_job c.args.seed =
    c.in-Ok.ensures.job ∙ c.in_ok-job.ensures in
    built_done (λ g k. summary_text c.args.seed k.job g (generator_count (written_by k))) (sample_job c.args.seed) graph
    cert c.in_ok-text-in-Ok.text.items (answer_view c.made.result)
    (subst (λ (j : Job). KeepsAll rules j) c.in_ok-job.ensures c.in-Ok.ensures.kept)
    (subst (λ (j : Job). IsBuiltCert j graph cert) is c.in_ok-cert-in-Ok.ensures)
    (c.in_ok-text-in-Ok.ensures ∙ built_summary c.args.seed (job_of (prepared_of c.in-Ok.accepted)) graph cert
    c.in_ok-ranks-in-Ok.ranks c.in_ok-cert-in-Ok.ensures c.in_ok-ranks-in-Ok.ensures)
    c.made.ensures
