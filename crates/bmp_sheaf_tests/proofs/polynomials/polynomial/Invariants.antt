use Rattle.std.proofs.Common.{◌≡◌, ◌<◌, length}
use Rattle.std.specs.List.{All}
use Rattle.bmp_field.specs.PrimeFields.{size_of}
use Rattle.bmp_sheaf_tests.proofs.polynomials.polynomial.Given as goal

abbrev pub invariant-loop-i : goal.invariant-loop-i
invariant-loop-i l = record {
  rank : l.a.rank ≡ l.rank;
  degree : l.a.degree ≡ l.degree;
  sized : length l.a.coefficients ≡ length l.initial.a.coefficients;
  values : All (λ c. c < size_of l.f) l.a.coefficients;
}
