use Rattle.std.proofs.Common.{◌-◌, ◌%◌}
use Rattle.bmp_poly.specs.Exponents.{exponents}
use Rattle.bmp_module.specs.Columns.{HasColumns}
use Rattle.bmp_module.proofs.columns.push_multiples.Given as goal

-- the columns of the monomials so far
abbrev pub invariant-loop-t : goal.invariant-loop-t
invariant-loop-t g l =
    HasColumns ((g.N.GradedModule.graded l.fn.over).dim l.fn.d) l.t
    (λ j i. (g.N.GradedModule.graded l.fn.over).act
    (exponents 6 l.fn.rank (l.fn.d - g.N.GradedModule.degree l.fn.over l.fn.image) j)
    (g.N.GradedModule.degree l.fn.over l.fn.image) l.fn.d (g.N.GradedModule.coordinate l.fn.over l.fn.f l.fn.image)
    i % g.F.Field.size l.fn.f)
    l.fn.columns.items l.columns.items
