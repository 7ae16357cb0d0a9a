use Rattle.bmp_cert.specs.JobGrammar.{job, job_text, IsWellFormedJob}
use Rattle.bmp_cert.specs.CertGrammar.{cert, cert_text, IsWellFormed}
use Rattle.bmp_cert.proofs.JobPairs.{job_pair}
use Rattle.bmp_cert.proofs.CertPairs.{cert_pair}
use Rattle.bmp_cert.proofs.EndLemmas.{none_begins, ends_once}
use Rattle.bmp_cert.proofs.GrammarEnds.{job_to_end, cert_to_end}
use Rattle.bmp_cert.proofs.laws.texts_end.Goals as goal

pub returns : goal.returns
returns c = record {
  one_job = none_begins job job_text IsWellFormedJob job_pair;
  one_cert = none_begins cert cert_text IsWellFormed cert_pair;
  job_ends = ends_once job job_text IsWellFormedJob job_pair job_to_end;
  cert_ends = ends_once cert cert_text IsWellFormed cert_pair cert_to_end;
}
