use Rattle.std.proofs.Common.{ℕ, ◌≤◌}
use Rattle.bmp_cert.specs.CertGrammar.{from_degree, AreDegrees}
use Rattle.bmp_cert.proofs.FormedLemmas.{Decides}
use Rattle.bmp_cert.proofs.cert_formed.are_degrees.Given as goal

abbrev pub invariant-degrees : goal.invariant-degrees
invariant-degrees l =
    Decides (AreDegrees l.most l.degrees) (λ (low : ℕ) e. (low ≤ e) × (e ≤ l.most)) from_degree l.degrees l.i l.low
