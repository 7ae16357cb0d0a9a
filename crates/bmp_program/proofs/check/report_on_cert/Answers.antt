use Rattle.std.proofs.Common.{sym}
use Rattle.bmp_program.specs.Runs.{answer_view}
use Rattle.bmp_program.proofs.JobAnswerLemmas.{cert_fault}
use Rattle.bmp_program.proofs.check.report_on_cert.Goals as goal

pub verdict_on-requires-clause-job : goal.verdict_on-requires-clause-job
verdict_on-requires-clause-job g c = λ ks lives. sym c.in-Ok.ensures.job

pub returns-in_ok-answer-in-Err-Fault : goal.returns-in_ok-answer-in-Err-Fault
returns-in_ok-answer-in-Err-Fault g c =
    let a = answer_view c.in_ok-answer-in-Err-Fault.answer in
    cert_fault c.args.cert.now a.status a.text c.in_ok-answer-in-Err-Fault.ensures.report
