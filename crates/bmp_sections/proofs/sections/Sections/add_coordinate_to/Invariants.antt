use Rattle.bmp_linear.proofs.RowSums.{IsAddedBelow}
use Rattle.bmp_sections.specs.TupleLists.{value_matrix}
use Rattle.bmp_sections.proofs.sections.Sections.add_coordinate_to.Given as goal

-- the coordinate is added at the tuples so far
abbrev pub invariant-loop-j : goal.invariant-loop-j
invariant-loop-j g l =
    IsAddedBelow (g.F.Field.size l.f) (value_matrix (g.Self.Sections.list l.self) l.y) l.c
    (g.F.Field.num l.f l.factor) l.j l.fn.sums l.sums
