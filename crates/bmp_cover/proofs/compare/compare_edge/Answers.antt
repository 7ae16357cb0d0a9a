use Rattle.std.proofs.Common.{◌+◌, ◌*◌, ◌%◌, ◌<◌, ◌∙◌, get_or, below_more, sym, ap, ap₂, subst, arith}
use Rattle.std.specs.Prelude.{slice_index}
use Rattle.std.specs.List.{sum_by}
use Rattle.bmp_linear.specs.SparseVectors.{ValuesBelow}
use Rattle.bmp_graph.specs.Graph.{upper}
use Rattle.bmp_sheaf.specs.Coordinates.{edge_module_count, element_of}
use Rattle.bmp_sheaf.specs.Numbers.{on_edge, upper_matrix}
use Rattle.bmp_sheaf.specs.States.{sheaf_of}
use Rattle.bmp_sections.proofs.EquationParts.{table_row}
use Rattle.bmp_cover.proofs.CompareLemmas.{edge_value}
use Rattle.bmp_cover.proofs.compare.compare_edge.Goals as goal

pub value_of-requires-clause-values : goal.value_of-requires-clause-values
value_of-requires-clause-values g c =
    let s = c.args.sheaf.now in
    let inside : c.loop-i.i < edge_module_count c.args.sheaf.now.graph (sheaf_of c.args.sheaf.now) c.args.d
    c.args.edge = omega (arith, c.loop-i-test.true, c.rows-i-end.ensures, c.upper_rows-rows.ensures.matrix.rows) in
    let row =
    table_row s.graph.prime c.upper_rows-rows.result.now (upper_matrix s.graph (sheaf_of s) c.args.d c.args.edge)
    c.loop-i.i c.row.result.now c.upper_rows-rows.ensures.matrix c.upper_rows-rows.ensures.numbers inside
    c.row.ensures.entries c.row.ensures.sparse c.row.ensures.fits in
    let size = ap g.F.Field.size c.field-f.ensures.field ∙ c.field-f.ensures.size in
    subst (λ p. ValuesBelow c.row.result.now p) (sym size) row.below

pub returns-then-left-right : goal.returns-then-left-right
returns-then-left-right g c =
    let s = c.args.sheaf.now in
    let inside : c.loop-i.i < edge_module_count c.args.sheaf.now.graph (sheaf_of c.args.sheaf.now) c.args.d
    c.args.edge = omega (arith, c.loop-i-test.true, c.rows-i-end.ensures, c.upper_rows-rows.ensures.matrix.rows) in
    let row =
    table_row s.graph.prime c.upper_rows-rows.result.now (upper_matrix s.graph (sheaf_of s) c.args.d c.args.edge)
    c.loop-i.i c.row.result.now c.upper_rows-rows.ensures.matrix c.upper_rows-rows.ensures.numbers inside
    c.row.ensures.entries c.row.ensures.sparse c.row.ensures.fits in
    let size = ap g.F.Field.size c.field-f.ensures.field ∙ c.field-f.ensures.size in
    let says =
    edge_value s.graph c.upper_rows-rows.ensures.state.over (sheaf_of s) c.args.d c.args.edge c.requires.edge c.loop-i.i
    c.row.result.now c.args.s.now.second c.num-right.result inside row
    (c.num-right.ensures ∙ c.value_of.ensures.number
    ∙ ap₂ (λ l p. sum_by (λ n. n.value * get_or l n.place 0) c.row.result.now % p) c.second.ensures size) in
    record {
      below = omega (arith, inside, c.from-place.ensures);
      left_is = c.from-left.ensures ∙ c.get.ensures;
      right_is =
          says
          ∙ ap (on_edge s.graph (sheaf_of s) c.args.d c.args.edge
          (element_of s.graph.rank ((sheaf_of s).degrees (upper s.graph c.args.edge)) c.args.d
          (slice_index c.args.s.now.second))) (sym c.from-place.ensures);
      differs = c.if-left-right.true;
      earlier = λ k l. c.loop-i.invariant k (subst (λ z. k < z) c.from-place.ensures l);
    }

pub loop-i-preserved : goal.loop-i-preserved
loop-i-preserved g c =
    let s = c.args.sheaf.now in
    let inside : c.loop-i.i < edge_module_count c.args.sheaf.now.graph (sheaf_of c.args.sheaf.now) c.args.d
    c.args.edge = omega (arith, c.loop-i-test.true, c.rows-i-end.ensures, c.upper_rows-rows.ensures.matrix.rows) in
    let row =
    table_row s.graph.prime c.upper_rows-rows.result.now (upper_matrix s.graph (sheaf_of s) c.args.d c.args.edge)
    c.loop-i.i c.row.result.now c.upper_rows-rows.ensures.matrix c.upper_rows-rows.ensures.numbers inside
    c.row.ensures.entries c.row.ensures.sparse c.row.ensures.fits in
    let size = ap g.F.Field.size c.field-f.ensures.field ∙ c.field-f.ensures.size in
    let says =
    edge_value s.graph c.upper_rows-rows.ensures.state.over (sheaf_of s) c.args.d c.args.edge c.requires.edge c.loop-i.i
    c.row.result.now c.args.s.now.second c.num-right.result inside row
    (c.num-right.ensures ∙ c.value_of.ensures.number
    ∙ ap₂ (λ l p. sum_by (λ n. n.value * get_or l n.place 0) c.row.result.now % p) c.second.ensures size) in
    below_more _ _ c.loop-i.invariant
    (ap (λ k. get_or c.args.s.now.first (c.args.start + k) 0) (sym c.from-place.ensures)
    ∙ sym (c.from-left.ensures ∙ c.get.ensures) ∙ c.if-left-right.false ∙ says)
