use Rattle.bmp_cert.specs.VectorGrammar.{IsEntry, IsVector, behind_place}
use Rattle.bmp_cert.proofs.FormedLemmas.{Decides}
use Rattle.bmp_cert.proofs.cert_formed.is_vector.Given as goal

abbrev pub invariant-entries : goal.invariant-entries
invariant-entries l = Decides (IsVector l.most l.v) (IsEntry l.most) behind_place l.v l.i l.next
