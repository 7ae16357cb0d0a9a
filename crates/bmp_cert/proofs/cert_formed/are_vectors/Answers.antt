use Rattle.std.proofs.Common.{◌<◌, [], length, arith}
use Rattle.bmp_text.specs.Readers.{same}
use Rattle.bmp_cert.specs.VectorGrammar.{IsVector, AreVectors}
use Rattle.bmp_cert.proofs.FormedLemmas.{fits_on, fits_stop, failed}
use Rattle.bmp_cert.proofs.cert_formed.are_vectors.Goals as goal

pub vectors-preserved : goal.vectors-preserved
vectors-preserved c =
    let within : c.vectors.i < length c.args.list.now = omega (arith, c.len-i-end.ensures, c.vectors-test.true) in
    fits_on (AreVectors c.args.most c.args.count c.args.list.now) (λ (s : Unit {0}). IsVector c.args.most) same
    c.args.list.now c.vectors.i tt c.at.result.now [] within c.at.ensures
    (c.is_vector.ensures.0 c.if-not-is_vector.false) c.vectors.invariant

pub returns-then-not-is_vector : goal.returns-then-not-is_vector
returns-then-not-is_vector c =
    let within : c.vectors.i < length c.args.list.now = omega (arith, c.len-i-end.ensures, c.vectors-test.true) in
    fits_stop (AreVectors c.args.most c.args.count c.args.list.now) (λ (s : Unit {0}). IsVector c.args.most) same
    c.args.list.now c.vectors.i tt c.at.result.now [] within c.at.ensures
    (failed c.is_vector.result c.is_vector.ensures c.if-not-is_vector.true) c.vectors.invariant
