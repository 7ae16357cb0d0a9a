use Rattle.std.proofs.Common.{subst}
use Rattle.bmp_interval.specs.IntervalViews.{system_of, vertices_of}
use Rattle.bmp_interval.specs.declared.interval.Interval.{Interval}
use Rattle.bmp_cert.specs.JobViews.{graph_of, interval_of}
use Rattle.bmp_program.specs.Reports.{TableReport}
use Rattle.bmp_program.specs.Runs.{answer_view}
use Rattle.bmp_program.proofs.JobAnswerLemmas.{kl_fault}
use Rattle.bmp_program.proofs.TableLemmas.{table_reported}
use Rattle.bmp_program.proofs.table_answer.kl_answer.Goals as goal

pub returns-in_ok-answer-in-Ok : goal.returns-in_ok-answer-in-Ok
returns-in_ok-answer-in-Ok c =
    let a = answer_view c.in_ok-answer-in-Ok.answer in
    table_reported c.args.j.now (interval_of c.in-Ok.prepared) (graph_of c.in-Ok.prepared) a.status a.text
    c.in-Ok.ensures.kept c.in-Ok.ensures.prepared
    (subst (λ (i : Interval). TableReport (system_of i) (vertices_of i) a.status a.text) c.interval.ensures
    c.in_ok-answer-in-Ok.ensures)

pub returns-in_ok-answer-in-Err-Fault : goal.returns-in_ok-answer-in-Err-Fault
returns-in_ok-answer-in-Err-Fault c =
    let a = answer_view c.in_ok-answer-in-Err-Fault.answer in
    kl_fault c.args.j.now a.status a.text (λ kept. let p = c.in-Err-Fault.ensures.only kept in cc)
    c.in_ok-answer-in-Err-Fault.ensures.report
