use Rattle.bmp_cert.specs.JobViews.{graph_of, interval_of}
use Rattle.bmp_program.specs.Runs.{answer_view}
use Rattle.bmp_program.proofs.JobAnswerLemmas.{graph_done, graph_fault}
use Rattle.bmp_program.proofs.job_answer.graph_answer.Goals as goal

pub returns-in_ok-text-in-Ok : goal.returns-in_ok-text-in-Ok
returns-in_ok-text-in-Ok c =
    graph_done c.args.j.now (interval_of c.in-Ok.prepared) (graph_of c.in-Ok.prepared) c.in_ok-text-in-Ok.text.items
    (answer_view c.made.result)
    c.in-Ok.ensures.kept c.in-Ok.ensures.prepared c.in_ok-text-in-Ok.ensures c.made.ensures

pub returns-in_ok-answer-in-Err-Fault : goal.returns-in_ok-answer-in-Err-Fault
returns-in_ok-answer-in-Err-Fault c =
    let a = answer_view c.in_ok-answer-in-Err-Fault.answer in
    graph_fault c.args.j.now a.status a.text (λ kept. let p = c.in-Err-Fault.ensures.only kept in cc)
    c.in_ok-answer-in-Err-Fault.ensures.report
