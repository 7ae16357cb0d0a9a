use Rattle.std.proofs.Common.{◌≡◌}
use Rattle.bmp_elim.proofs.unit_rows.no_columns.Given as goal

-- as many rows as turns
abbrev pub invariant-loop : goal.invariant-loop
invariant-loop g l = record {
  rows : (g.A.Rows.matrix l.rows).rows ≡ l.counter;
  cols : (g.A.Rows.matrix l.rows).cols ≡ 0;
}
