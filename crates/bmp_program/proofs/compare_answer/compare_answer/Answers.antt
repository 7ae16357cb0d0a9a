use Rattle.std.proofs.Common.{subst}
use Rattle.bmp_interval.specs.IntervalViews.{system_of, vertices_of}
use Rattle.bmp_interval.specs.declared.interval.Interval.{Interval}
use Rattle.bmp_cert.specs.declared.job.Job.{Job}
use Rattle.bmp_cert.specs.JobViews.{job_of, interval_of, graph_of, prepared_of}
use Rattle.bmp_program.specs.Reports.{ComparedReport}
use Rattle.bmp_program.specs.Runs.{answer_view}
use Rattle.bmp_program.proofs.CompareAnswerLemmas.{compare_reported}
use Rattle.bmp_program.proofs.JobAnswerLemmas.{compare_fault}
use Rattle.bmp_program.proofs.compare_answer.compare_answer.Goals as goal

pub returns-in_ok-answer-in-Ok : goal.returns-in_ok-answer-in-Ok
returns-in_ok-answer-in-Ok g c =
    let a = answer_view c.in_ok-answer-in-Ok.answer in
    let p = prepared_of c.in-Ok.accepted in
    compare_reported c.args.j.now (interval_of p) (graph_of p) a.status a.text c.in-Ok.ensures.kept
    c.in-Ok.ensures.prepared
    (subst (λ (k : Job). ComparedReport k (system_of (interval_of p)) (vertices_of (interval_of p)) a.status a.text)
    c.in-Ok.ensures.job
    (subst (λ (i : Interval). ComparedReport (job_of p) (system_of i) (vertices_of i) a.status a.text)
    c.interval.ensures c.in_ok-answer-in-Ok.ensures))

pub returns-in_ok-answer-in-Err-Fault : goal.returns-in_ok-answer-in-Err-Fault
returns-in_ok-answer-in-Err-Fault g c =
    let a = answer_view c.in_ok-answer-in-Err-Fault.answer in
    compare_fault c.args.j.now a.status a.text c.in_ok-answer-in-Err-Fault.ensures.report
