use Rattle.std.proofs.Common.{◌≡◌, get_or, ap, ◌∙◌}
use Rattle.bmp_graph.specs.Graph.{lower}
use Rattle.bmp_sheaf.proofs.StalkTableLemmas.{lower_kept, lower_kept_below}
use Rattle.bmp_linear.specs.RowTables.{matrix_of_entries}
use Rattle.bmp_sheaf.specs.States.{sheaf_of}
use Rattle.bmp_sheaf.proofs.EdgeMatrices.{lower_of_map}
use Rattle.bmp_sheaf.proofs.sheaf.Sheaf.lower_rows.Goals as goal

pub returns-clause-matrix : goal.returns-clause-matrix
returns-clause-matrix g c =
    let starts : c.edge.result.now.lower ≡ lower c.args.self.now.graph c.args.e =
    c.edge.ensures.lower ∙ ap (λ G. lower G c.args.e) c.graph.ensures.graph in
    let read : c.index.result.now ≡ get_or c.part-part.result.now.lower c.map_place.result c.index.result.now =
    rw (← c.part.view_is) c.index.ensures in
    lower_kept c.args.self.now c.edge.result.now.lower c.part-part.result.now c.part-part.ensures.table c.args.e
    c.requires.edge starts c.args.d c.map_place.result c.index.result.now c.requires.degree
    c.map_place.ensures.place read

pub returns-clause-map : goal.returns-clause-map
returns-clause-map g c =
    let starts : c.edge.result.now.lower ≡ lower c.args.self.now.graph c.args.e =
    c.edge.ensures.lower ∙ ap (λ G. lower G c.args.e) c.graph.ensures.graph in
    let read : c.index.result.now ≡ get_or c.part-part.result.now.lower c.map_place.result c.index.result.now =
    rw (← c.part.view_is) c.index.ensures in
    lower_of_map c.args.self.now.graph c.graph.ensures.state.over (sheaf_of c.args.self.now) c.args.d c.args.e
    c.requires.edge (matrix_of_entries c.index.result.now)
    (lower_kept c.args.self.now c.edge.result.now.lower c.part-part.result.now c.part-part.ensures.table c.args.e
    c.requires.edge starts c.args.d c.map_place.result c.index.result.now c.requires.degree
    c.map_place.ensures.place read)

pub returns-clause-numbers : goal.returns-clause-numbers
returns-clause-numbers g c =
    let starts : c.edge.result.now.lower ≡ lower c.args.self.now.graph c.args.e =
    c.edge.ensures.lower ∙ ap (λ G. lower G c.args.e) c.graph.ensures.graph in
    let read : c.index.result.now ≡ get_or c.part-part.result.now.lower c.map_place.result c.index.result.now =
    rw (← c.part.view_is) c.index.ensures in
    lower_kept_below c.args.self.now c.edge.result.now.lower c.part-part.result.now c.part-part.ensures.table c.args.e
    c.requires.edge starts c.args.d c.map_place.result c.index.result.now c.requires.degree
    c.map_place.ensures.place c.graph.ensures.state.over read
