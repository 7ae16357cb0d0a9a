use Rattle.std.proofs.Common.{[]}
use Rattle.bmp_graded.proofs.ComponentLemmas.{start_of}
use Rattle.bmp_module.specs.Columns.{HasColumns}
use Rattle.bmp_module.specs.Images.{image_coordinates}
use Rattle.bmp_module.proofs.ColumnLemmas.{entry}
use Rattle.bmp_module.proofs.linear.Linear.columns.Given as goal

-- the columns of the generators so far
abbrev pub invariant-loop-h : goal.invariant-loop-h
invariant-loop-h g l =
    HasColumns ((g.N.GradedModule.graded l.fn.self.into.now).dim l.fn.d)
    (start_of l.fn.self.from.now.rank l.fn.self.from.now.degrees.items l.fn.d l.h)
    (entry (g.F.Field.size l.fn.f) l.fn.self.from.now.rank l.fn.d (g.N.GradedModule.graded l.fn.self.into.now)
    l.fn.self.from.now.degrees.items
    (image_coordinates (g.N.GradedModule.coordinate l.fn.self.into.now l.fn.f) l.fn.self.images.now))
    [] l.columns.items
