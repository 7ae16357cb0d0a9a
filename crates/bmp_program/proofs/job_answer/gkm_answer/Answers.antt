use Rattle.bmp_cert.specs.JobViews.{graph_of, prepared_of}
use Rattle.bmp_program.specs.Runs.{answer_view}
use Rattle.bmp_program.proofs.JobAnswerLemmas.{gkm_done, gkm_fault}
use Rattle.bmp_program.proofs.job_answer.gkm_answer.Goals as goal

pub returns-in_ok-text-in-Ok : goal.returns-in_ok-text-in-Ok
returns-in_ok-text-in-Ok c =
    gkm_done c.args.j.now (graph_of (prepared_of c.in-Ok.accepted)) c.in_ok-text-in-Ok.text.items
    (answer_view c.made.result)
    c.in-Ok.ensures.kept c.in-Ok.ensures.graph c.in_ok-text-in-Ok.ensures c.made.ensures

pub returns-in_ok-answer-in-Err-Fault : goal.returns-in_ok-answer-in-Err-Fault
returns-in_ok-answer-in-Err-Fault c =
    let a = answer_view c.in_ok-answer-in-Err-Fault.answer in
    gkm_fault c.args.j.now a.status a.text c.in_ok-answer-in-Err-Fault.ensures.report
