use Rattle.std.proofs.Common.{◌∙◌, ap, arith}
use Rattle.bmp_graph.specs.Graph.{Graph, lower, upper}
use Rattle.bmp_sheaf.specs.Numbers.{lower_matrix, upper_matrix}
use Rattle.bmp_sheaf.specs.States.{sheaf_of}
use Rattle.bmp_sections.proofs.AboveLemmas.{upper_is_above}
use Rattle.bmp_sections.proofs.EquationParts.{table_row, parts_are}
use Rattle.bmp_sections.proofs.IndexLemmas.{place_of, start_at}
use Rattle.bmp_sections.proofs.equations.Equations.parts.Goals as goal

pub edge-edge-requires : goal.edge-edge-requires
edge-edge-requires g c =
    let row = c.args.self.now in
    let s = row.sheaf.now in
    let place = place_of s.graph (sheaf_of s) row.vertex row.degree row.index.now row.indexed.indexed c.args.i
    c.requires c.index-place.result.now c.index-place.ensures in
    rw c.graph-graph.ensures.graph place.edge

pub lower_rows-lower-requires-clause-edge : goal.lower_rows-lower-requires-clause-edge
lower_rows-lower-requires-clause-edge g c =
    let row = c.args.self.now in
    let s = row.sheaf.now in
    let place = place_of s.graph (sheaf_of s) row.vertex row.degree row.index.now row.indexed.indexed c.args.i
    c.requires c.index-place.result.now c.index-place.ensures in
    place.edge

pub lower_rows-lower-requires-clause-there : goal.lower_rows-lower-requires-clause-there
lower_rows-lower-requires-clause-there g c =
    let row = c.args.self.now in
    let s = row.sheaf.now in
    let place = place_of s.graph (sheaf_of s) row.vertex row.degree row.index.now row.indexed.indexed c.args.i
    c.requires c.index-place.result.now c.index-place.ensures in
    row.indexed.there (lower s.graph c.index-place.result.now.edge) place.low

pub upper_rows-upper-requires-clause-edge : goal.upper_rows-upper-requires-clause-edge
upper_rows-upper-requires-clause-edge g c =
    let row = c.args.self.now in
    let s = row.sheaf.now in
    let place = place_of s.graph (sheaf_of s) row.vertex row.degree row.index.now row.indexed.indexed c.args.i
    c.requires c.index-place.result.now c.index-place.ensures in
    place.edge

pub upper_rows-upper-requires-clause-there : goal.upper_rows-upper-requires-clause-there
upper_rows-upper-requires-clause-there g c =
    let row = c.args.self.now in
    let s = row.sheaf.now in
    let place = place_of s.graph (sheaf_of s) row.vertex row.degree row.index.now row.indexed.indexed c.args.i
    c.requires c.index-place.result.now c.index-place.ensures in
    row.indexed.there (lower s.graph c.index-place.result.now.edge) place.low

pub row-requires : goal.row-requires
row-requires g c =
    let row = c.args.self.now in
    let s = row.sheaf.now in
    let place = place_of s.graph (sheaf_of s) row.vertex row.degree row.index.now row.indexed.indexed c.args.i
    c.requires c.index-place.result.now c.index-place.ensures in
    omega (arith, place.inside, c.lower_rows-lower.ensures.matrix.rows)

pub row-requires-2 : goal.row-requires-2
row-requires-2 g c =
    let row = c.args.self.now in
    let s = row.sheaf.now in
    let place = place_of s.graph (sheaf_of s) row.vertex row.degree row.index.now row.indexed.indexed c.args.i
    c.requires c.index-place.result.now c.index-place.ensures in
    omega (arith, place.inside, c.upper_rows-upper.ensures.matrix.rows)

pub returns : goal.returns
returns g c =
    let row = c.args.self.now in
    let s = row.sheaf.now in
    let F = sheaf_of s in
    let place = place_of s.graph F row.vertex row.degree row.index.now row.indexed.indexed c.args.i c.requires
    c.index-place.result.now c.index-place.ensures in
    let e = c.index-place.result.now.edge in
    let i = c.index-place.result.now.coordinate in
    let over = c.graph-graph.ensures.state.over in
    let ends = over.is_graph.ends e place.edge in
    let high = upper_is_above s.graph over.is_graph row.vertex e place.edge place.low in
    let same = c.graph-graph.ensures.graph in
    parts_are s.graph F row.vertex row.degree over e i place.edge place.low place.inside c.row.result.now
    c.row-2.result.now
    (table_row s.graph.prime c.lower_rows-lower.result.now (lower_matrix s.graph F row.degree e) i c.row.result.now
    c.lower_rows-lower.ensures.matrix c.lower_rows-lower.ensures.numbers place.inside c.row.ensures.entries
    c.row.ensures.sparse c.row.ensures.fits)
    (table_row s.graph.prime c.upper_rows-upper.result.now (upper_matrix s.graph F row.degree e) i c.row-2.result.now
    c.upper_rows-upper.ensures.matrix c.upper_rows-upper.ensures.numbers place.inside c.row-2.ensures.entries
    c.row-2.ensures.sparse c.row-2.ensures.fits)
    c.args.i c.prime.result c.index.result.now c.index-2.result.now place.is
    (c.prime.ensures ∙ ap (λ (G : Graph). G.prime) same)
    (start_at s.graph F row.vertex row.degree row.index.now row.indexed.indexed (lower s.graph e)
    c.edge-edge.result.now.lower c.index.result.now (c.edge-edge.ensures.lower ∙ ap (λ G. lower G e) same) ends.0
    place.low c.index.ensures)
    (start_at s.graph F row.vertex row.degree row.index.now row.indexed.indexed (upper s.graph e)
    c.edge-edge.result.now.upper c.index-2.result.now (c.edge-edge.ensures.upper ∙ ap (λ G. upper G e) same) ends.1
    high c.index-2.ensures)
