use Rattle.std.proofs.Common.{◌-◌, arith}
use Rattle.bmp_linear.specs.RowTables.{matrix_of_entries}
use Rattle.bmp_poly.specs.Coefficients.{coefficient}
use Rattle.bmp_graded.proofs.CopiesLemmas.{quotient_small}
use Rattle.bmp_module.specs.Images.{image_coordinates}
use Rattle.bmp_sheaf.proofs.EdgeColumns.{upper_made}
use Rattle.bmp_sheaf.proofs.edge_maps.upper_rows.Goals as goal

pub rows_of-requires-clause-small : goal.rows_of-requires-clause-small
rows_of-requires-clause-small g c =
    quotient_small (c.new-module.result.quotient.now.label.rank - 1) c.new-module.result.quotient.now.label.leading
    c.args.d _ c.new-module.result.quotient.now.free.degrees.items
    (omega (arith, c.new-module.result.quotient.now.label.leads.rank))
    (omega (arith, c.requires.degree, c.args.table.now.few)) c.new-module.result.quotient.now.free.few

pub returns : goal.returns
returns g c =
    upper_made (g.F.Field.size c.args.f.now) c.args.quotient.now c.args.table.now
    (g.met.F.Field.laws.at_least_two c.args.f.now) (g.met.F.Field.laws.inverse c.args.f.now) c.requires.prime
    c.requires.label c.args.quotient.now.free.rank c.args.d (matrix_of_entries c.in_ok-rows.rows)
    (image_coordinates (λ e. coefficient (g.F.Field.num c.args.f.now) e.numbers.items) c.args.images.now)
    c.args.quotient.now.agree c.requires.images.each c.new-module.result.quotient.now c.new-module.ensures
    (rw c.free-into.ensures at c.in_ok-rows.ensures)
