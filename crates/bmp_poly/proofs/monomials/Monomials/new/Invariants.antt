use Rattle.std.proofs.Common.{◌≡◌, ℕ, ◌<◌, [], length, get_or}
use Rattle.bmp_poly.specs.Exponents.{exponents}
use Rattle.bmp_poly.proofs.monomials.Monomials.new.Given as goal

abbrev pub invariant-loop-i : goal.invariant-loop-i
invariant-loop-i l = record {
  sized : length l.listing.items ≡ l.i;
  each : (j : ℕ) → j < l.i → get_or l.listing.items j [] ≡ exponents 6 l.rank l.degree j;
}
