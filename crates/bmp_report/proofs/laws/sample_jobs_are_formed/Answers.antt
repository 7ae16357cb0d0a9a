use Rattle.bmp_report.proofs.SampleLemmas.{all_formed}
use Rattle.bmp_report.proofs.laws.sample_jobs_are_formed.Goals as goal

pub returns : goal.returns
returns c = all_formed
