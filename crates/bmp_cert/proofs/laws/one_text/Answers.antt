use Rattle.bmp_cert.proofs.CertPairs.{cert_pair}
use Rattle.bmp_cert.specs.CertGrammar.{cert, cert_text, IsWellFormed}
use Rattle.bmp_text.proofs.Pairs.{whole_same}
use Rattle.bmp_cert.proofs.laws.one_text.Goals as goal

pub returns : goal.returns
returns c = λ a b h k e. whole_same cert cert_text IsWellFormed cert_pair a b h k e
