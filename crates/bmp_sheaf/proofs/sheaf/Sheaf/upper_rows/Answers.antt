use Rattle.std.proofs.Common.{◌≡◌, get_or}
use Rattle.bmp_linear.specs.RowTables.{matrix_of_entries}
use Rattle.bmp_sheaf.specs.States.{sheaf_of}
use Rattle.bmp_sheaf.proofs.StalkTableLemmas.{upper_kept, upper_kept_below}
use Rattle.bmp_sheaf.proofs.EdgeMatrices.{upper_of_map}
use Rattle.bmp_sheaf.proofs.sheaf.Sheaf.upper_rows.Goals as goal

pub returns-clause-matrix : goal.returns-clause-matrix
returns-clause-matrix g c =
    let read : c.index.result.now ≡ get_or c.upper.result.now.rows c.args.d c.index.result.now =
    rw (← c.behind-self.view_is) c.index.ensures in
    upper_kept c.args.self.now c.args.e c.requires.edge c.args.d c.requires.degree c.upper.result.now
    c.upper.ensures.upper.rows c.upper.ensures.upper.edge c.index.result.now read

pub returns-clause-map : goal.returns-clause-map
returns-clause-map g c =
    let s = c.args.self.now in
    let read : c.index.result.now ≡ get_or c.upper.result.now.rows c.args.d c.index.result.now =
    rw (← c.behind-self.view_is) c.index.ensures in
    upper_of_map s.graph c.upper.ensures.state.over (sheaf_of s) c.args.d c.args.e c.requires.edge
    (matrix_of_entries c.index.result.now)
    (upper_kept s c.args.e c.requires.edge c.args.d c.requires.degree c.upper.result.now c.upper.ensures.upper.rows
    c.upper.ensures.upper.edge c.index.result.now read)

pub returns-clause-numbers : goal.returns-clause-numbers
returns-clause-numbers g c =
    let read : c.index.result.now ≡ get_or c.upper.result.now.rows c.args.d c.index.result.now =
    rw (← c.behind-self.view_is) c.index.ensures in
    upper_kept_below c.args.self.now c.args.e c.requires.edge c.args.d c.requires.degree c.upper.result.now
    c.upper.ensures.upper.rows c.upper.ensures.upper.edge c.index.result.now read c.upper.ensures.state.over
