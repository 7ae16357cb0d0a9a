use Rattle.bmp_cert.proofs.JobPairs.{job_pair}
use Rattle.bmp_cert.specs.JobGrammar.{job, job_text, IsWellFormedJob}
use Rattle.bmp_cert.proofs.AnswerLemmas.{whole_found, whole_only}
use Rattle.bmp_cert.proofs.job_reader.read_job.Goals as goal

pub returns-clause-found : goal.returns-clause-found
returns-clause-found c =
    whole_found job job_text IsWellFormedJob job_pair (λ j. j) c.whole_job.result c.args.bytes.now c.whole_job.ensures

pub returns-clause-only : goal.returns-clause-only
returns-clause-only c =
    whole_only job job_text IsWellFormedJob job_pair (λ j. j) c.whole_job.result c.args.bytes.now c.whole_job.ensures
