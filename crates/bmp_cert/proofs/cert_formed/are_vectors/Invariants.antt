use Rattle.bmp_text.specs.Readers.{same}
use Rattle.bmp_cert.specs.VectorGrammar.{IsVector, AreVectors}
use Rattle.bmp_cert.proofs.FormedLemmas.{Decides}
use Rattle.bmp_cert.proofs.cert_formed.are_vectors.Given as goal

abbrev pub invariant-vectors : goal.invariant-vectors
invariant-vectors l = Decides (AreVectors l.most l.count l.list) (λ (s : Unit {0}). IsVector l.most) same l.list l.i tt
