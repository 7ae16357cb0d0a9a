use Rattle.std.proofs.Common.{◌≡◌, length}
use Rattle.bmp_linear.proofs.RowSums.{IsAddedBelow}
use Rattle.bmp_sections.proofs.ValueLemmas.{value_row}
use Rattle.bmp_sections.proofs.sections.Sections.add_value.Given as goal

-- the value is added at the coordinates so far
abbrev pub invariant-loop-c : goal.invariant-loop-c
invariant-loop-c g l = record {
  added : IsAddedBelow (g.F.Field.size l.f) (value_row (g.Self.Sections.list l.self) l.j l.y) 0
      (g.F.Field.num l.f l.factor) l.c l.fn.s.second l.s.second;
  first : l.s.first ≡ l.fn.s.first;
  room : length l.s.second ≡ length l.fn.s.second;
}
