use Rattle.bmp_cert.specs.JobGrammar.{job, job_text, IsWellFormedJob}
use Rattle.bmp_text.proofs.Pairs.{whole_same}
use Rattle.bmp_cert.proofs.JobPairs.{job_pair}
use Rattle.bmp_cert.proofs.laws.one_job.Goals as goal

pub returns : goal.returns
returns c = λ a b h k e. whole_same job job_text IsWellFormedJob job_pair a b h k e
