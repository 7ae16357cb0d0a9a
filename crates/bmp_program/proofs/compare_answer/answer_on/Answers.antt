use Rattle.bmp_cert.specs.JobViews.{job_of, graph_of, prepared_of}
use Rattle.bmp_program.specs.Runs.{answer_view}
use Rattle.bmp_program.proofs.CompareAnswerLemmas.{compared_done}
use Rattle.bmp_program.proofs.compare_answer.answer_on.Goals as goal

pub returns-in_ok-text-in-Ok : goal.returns-in_ok-text-in-Ok
returns-in_ok-text-in-Ok g c =
    compared_done (job_of (prepared_of c.args.accepted.now)) c.args.interval.now c.in-Ok.table
    (graph_of (prepared_of c.args.accepted.now)) c.in_ok-text-in-Ok.text.items (answer_view c.made.result)
    c.in-Ok.ensures.table c.in-Ok.ensures.within c.in_ok-text-in-Ok.ensures c.made.ensures
