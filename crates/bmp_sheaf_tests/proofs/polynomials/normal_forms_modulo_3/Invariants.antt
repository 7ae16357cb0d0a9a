use Rattle.std.proofs.Common.{◌≡◌}
use Rattle.bmp_field.specs.PrimeFields.{size_of}
use Rattle.bmp_sheaf_tests.proofs.polynomials.normal_forms_modulo_3.Given as goal

abbrev pub invariant-loop-coords : goal.invariant-loop-coords
invariant-loop-coords g l = size_of l.f ≡ 3
