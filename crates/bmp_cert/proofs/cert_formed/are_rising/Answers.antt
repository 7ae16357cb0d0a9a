use Rattle.std.proofs.Common.{ℕ, ◌+◌, ◌<◌, ◌≤◌, length, arith}
use Rattle.bmp_cert.specs.VectorGrammar.{MOST, AreRising}
use Rattle.bmp_cert.proofs.FormedLemmas.{fits_on}
use Rattle.bmp_cert.proofs.cert_formed.are_rising.Goals as goal

pub places-preserved : goal.places-preserved
places-preserved c =
    let within : c.places.i < length c.args.places.now = omega (arith, c.len-i-end.ensures, c.places-test.true) in
    rw c.from-place.ensures
    (fits_on (AreRising c.args.count c.args.places.now) (λ (low : ℕ) p. (low ≤ p) × (p ≤ MOST)) (λ p low. p + 1)
    c.args.places.now c.places.i c.places.low c.at.result 0 within c.at.ensures
    (omega arith, omega arith) c.places.invariant)
