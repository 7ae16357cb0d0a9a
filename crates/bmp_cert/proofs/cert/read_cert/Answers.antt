use Rattle.bmp_cert.proofs.CertPairs.{cert_pair}
use Rattle.bmp_cert.specs.CertGrammar.{cert, cert_text, IsWellFormed}
use Rattle.bmp_cert.proofs.AnswerLemmas.{whole_found, whole_only}
use Rattle.bmp_cert.proofs.cert.read_cert.Goals as goal

pub returns-clause-found : goal.returns-clause-found
returns-clause-found c =
    whole_found cert cert_text IsWellFormed cert_pair (λ c. c) c.whole_cert.result c.args.bytes.now c.whole_cert.ensures

pub returns-clause-only : goal.returns-clause-only
returns-clause-only c =
    whole_only cert cert_text IsWellFormed cert_pair (λ c. c) c.whole_cert.result c.args.bytes.now c.whole_cert.ensures
