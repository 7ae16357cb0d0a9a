use Rattle.std.proofs.Common.{ℕ, ◌≡◌, ◌+◌, ◌-◌, ◌*◌, ◌%◌, ◌<◌}
use Rattle.bmp_math.specs.Sums.{sum_below}
use Rattle.bmp_poly.specs.Exponents.{exponents}
use Rattle.bmp_poly.specs.Coefficients.{coefficient}
use Rattle.bmp_module.proofs.linear.add_multiples.Given as goal

abbrev pub invariant-loop-i : goal.invariant-loop-i
invariant-loop-i g l = record {
  element : g.N.GradedModule.is_element l.fn.into l.fn.f l.total;
  degree : g.N.GradedModule.degree l.fn.into l.total ≡ g.N.GradedModule.degree l.fn.into l.fn.total;
  added : (j : ℕ) → j < (g.N.GradedModule.graded l.fn.into).dim (g.N.GradedModule.degree l.fn.into l.fn.total) →
      g.N.GradedModule.coordinate l.fn.into l.fn.f l.total j
      ≡ (g.N.GradedModule.coordinate l.fn.into l.fn.f l.fn.total j + sum_below
      (λ i. coefficient (g.F.Field.num l.fn.f) l.fn.block i * (g.N.GradedModule.graded l.fn.into).act
      (exponents 6 l.fn.rank (g.N.GradedModule.degree l.fn.into l.fn.total - l.fn.generator) i) l.fn.generator
      (g.N.GradedModule.degree l.fn.into l.fn.total) (g.N.GradedModule.coordinate l.fn.into l.fn.f l.fn.image) j) l.i)
      % g.F.Field.size l.fn.f;
}
