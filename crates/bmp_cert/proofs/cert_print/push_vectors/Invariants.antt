use Rattle.std.proofs.Common.{◌≡◌, ◌++◌, drop}
use Rattle.bmp_cert.specs.VectorGrammar.{vectors_text}
use Rattle.bmp_cert.proofs.cert_print.push_vectors.Given as goal

abbrev pub invariant-lines : goal.invariant-lines
invariant-lines l =
    l.out.items ++ vectors_text l.word (drop l.vector-index l.list) ≡ l.initial.out.items ++ vectors_text l.word l.list
