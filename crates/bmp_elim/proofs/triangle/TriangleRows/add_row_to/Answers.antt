use Rattle.bmp_elim.proofs.TriangleLemmas.{triangle_row_added}
use Rattle.bmp_elim.proofs.triangle.TriangleRows.add_row_to.Goals as goal

pub returns : goal.returns
returns g c =
    triangle_row_added c.args.self.now c.requires.sums c.requires.row c.row-row.ensures.width
    c.row-row.ensures.numbers c.add_multiple.ensures
