use Rattle.std.proofs.Common.{ℕ, ◌+◌, ◌≤◌}
use Rattle.bmp_cert.specs.VectorGrammar.{MOST, AreRising}
use Rattle.bmp_cert.proofs.FormedLemmas.{Decides}
use Rattle.bmp_cert.proofs.cert_formed.are_rising.Given as goal

abbrev pub invariant-places : goal.invariant-places
invariant-places l =
    Decides (AreRising l.count l.places) (λ (low : ℕ) p. (low ≤ p) × (p ≤ MOST)) (λ p low. p + 1) l.places l.i l.low
