use Rattle.std.proofs.Common.{◌≡◌, ◌+◌, ◌<◌, ap, arith, ◌∙◌}
use Rattle.bmp_linear.specs.SparseVectors.{number_at}
use Rattle.bmp_linear.specs.RowTables.{matrix_of_entries}
use Rattle.bmp_sheaf.specs.Coordinates.{edge_module_count}
use Rattle.bmp_sheaf.specs.States.{sheaf_of}
use Rattle.bmp_sheaf.specs.Boundaries.{lift_numbers}
use Rattle.bmp_sheaf.proofs.BoundaryWrites.{run_more, lift_by_rows}
use Rattle.bmp_sheaf.proofs.sheaf.Sheaf.write_lift.Goals as goal

pub loop-i-preserved : goal.loop-i-preserved
loop-i-preserved g c =
    let s = c.args.self.now in
    let inside : c.loop-i.i < edge_module_count s.graph (sheaf_of s) c.args.d c.args.e =
    omega (arith, c.loop-i-test.true, c.rows-i-end.ensures, c.lower_rows-rows.ensures.matrix.rows) in
    let prime : g.F.Field.size c.field-f.result.now ≡ s.graph.prime = ap g.F.Field.size c.field-f.ensures.field
    ∙ c.field-f.ensures.size in
    let number : c.num-number.result ≡ lift_numbers s.graph (sheaf_of s) c.args.d c.args.e (number_at c.args.u.now)
    c.loop-i.i =
    c.num-number.ensures ∙ c.value_at.ensures.number
    ∙ lift_by_rows s.graph c.lower_rows-rows.ensures.state.over (sheaf_of s) c.args.d c.args.e c.requires.edge
    (matrix_of_entries c.lower_rows-rows.result.now) c.lower_rows-rows.ensures.matrix
    (g.F.Field.size c.field-f.result.now) (number_at c.args.u.now) c.loop-i.i prime inside in
    run_more (lift_numbers s.graph (sheaf_of s) c.args.d c.args.e (number_at c.args.u.now)) c.args.start c.args.s.now
    c.loop-i.i (c.args.start + c.from.result) c.num-number.result c.loop-i.s c.set.new.self
    (ap (λ z. c.args.start + z) c.from.ensures) number (omega (arith, inside, c.requires.room)) c.set.ensures
    c.loop-i.invariant
