use Rattle.std.proofs.Common.{List, sym, subst}
use Rattle.bmp_linear.specs.declared.vector.Entry.{Entry}
use Rattle.bmp_linear.specs.RowTables.{matrix_of_entries}
use Rattle.bmp_linear.specs.RowVectors.{IsRowVector}
use Rattle.bmp_linear.proofs.FaultLemmas.{on_ok}
use Rattle.bmp_linear.proofs.SparseRowLemmas.{sparse_row}
use Rattle.bmp_linear.proofs.sparse.SparseRowsRows.read_row.Goals as goal

pub returns : goal.returns
returns g c =
    let p = g.F.Field.size c.args.f.now in
    let row = sparse_row p c.args.self.now c.self.inside.cols c.self.inside.rows.items c.args.i c.index-row.result.now
    c.as_slice.result.now c.self.view_is c.self.invariant.2 c.self.invariant.3 c.requires.row c.index-row.ensures
    c.as_slice.ensures c.requires.numbers in
    let made : List Entry → Type 0 = λ v. IsRowVector p (matrix_of_entries c.args.self.now) c.args.i v in
    on_ok c.set_entries.result _ _
    (λ same. subst made (sym same) (record { fits = row.fits; below = row.values; numbers = λ j l. row.same j }))
    c.set_entries.ensures.ok
