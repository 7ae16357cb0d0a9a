use Rattle.std.proofs.Common.{ℕ, ◌<◌, ◌≤◌, length, arith}
use Rattle.bmp_cert.specs.CertGrammar.{from_degree, AreDegrees}
use Rattle.bmp_cert.proofs.FormedLemmas.{fits_on}
use Rattle.bmp_cert.proofs.cert_formed.are_degrees.Goals as goal

pub degrees-preserved : goal.degrees-preserved
degrees-preserved c =
    let within : c.degrees.i < length c.args.degrees.now = omega (arith, c.len-i-end.ensures, c.degrees-test.true) in
    fits_on (AreDegrees c.args.most c.args.degrees.now) (λ (low : ℕ) e. (low ≤ e) × (e ≤ c.args.most)) from_degree
    c.args.degrees.now c.degrees.i c.degrees.low c.at-degree.result 0 within c.at-degree.ensures
    (omega arith, omega arith) c.degrees.invariant
