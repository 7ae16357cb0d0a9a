use Rattle.std.proofs.Common.{◌<◌, ◌∙◌, refl, sym, ap, below_more, arith}
use Rattle.bmp_math.specs.Matrices.{Matrix}
use Rattle.bmp_linear.specs.SparseVectors.{number_at}
use Rattle.bmp_sheaf.specs.States.{sheaf_of}
use Rattle.bmp_sections.specs.Positions.{equation_count}
use Rattle.bmp_sections.specs.Numbers.{is_above}
use Rattle.bmp_sections.proofs.IndexLemmas.{place_of}
use Rattle.bmp_sections.proofs.EdgeFaultLemmas.{matrix_is, matrix_below, row_says, first_fails}
use Rattle.bmp_sections.proofs.compatible.first_fault.Goals as goal

pub value_at_spread-requires-clause-numbers : goal.value_at_spread-requires-clause-numbers
value_at_spread-requires-clause-numbers g c =
    let s = c.args.sheaf.now in
    let rows = c.over-rows.result in
    let matrix = matrix_is rows.sheaf.now s rows.vertex c.args.x rows.degree c.args.d c.over-rows.ensures.sheaf
    c.over-rows.ensures.vertex c.over-rows.ensures.degree in
    let size = ap g.F.Field.size c.field-f.ensures.field ∙ c.field-f.ensures.size in
    matrix_below s.graph (sheaf_of s) c.args.x c.args.d c.graph.ensures.state.over _
    (g.F.Field.size c.field-f.result.now) matrix size

pub loop-k-preserved : goal.loop-k-preserved
loop-k-preserved g c =
    let s = c.args.sheaf.now in
    let rows = c.over-rows.result in
    let matrix = matrix_is rows.sheaf.now s rows.vertex c.args.x rows.degree c.args.d c.over-rows.ensures.sheaf
    c.over-rows.ensures.vertex c.over-rows.ensures.degree in
    let size = ap g.F.Field.size c.field-f.ensures.field ∙ c.field-f.ensures.size in
    let below : c.loop-k.k < equation_count c.args.sheaf.now.graph (sheaf_of c.args.sheaf.now)
    (is_above c.args.sheaf.now.graph c.args.x) c.args.d =
    omega (arith, c.loop-k-test.true, c.rows-k-end.ensures, ap (λ (m : Matrix). m.rows) matrix) in
    let says =
    row_says s.graph (sheaf_of s) c.args.x c.args.d c.graph.ensures.state.over _ (g.F.Field.size c.field-f.result.now)
    (number_at c.args.t.now) c.loop-k.k c.num-left.result matrix size below
    (c.num-left.ensures ∙ c.value_at_spread.ensures.number) in
    below_more _ _ c.loop-k.invariant (sym says ∙ c.if-left-ne0.false)

pub returns-then-left-ne0-clause-fault : goal.returns-then-left-ne0-clause-fault
returns-then-left-ne0-clause-fault g c =
    let s = c.args.sheaf.now in
    let rows = c.over-rows.result in
    let matrix = matrix_is rows.sheaf.now s rows.vertex c.args.x rows.degree c.args.d c.over-rows.ensures.sheaf
    c.over-rows.ensures.vertex c.over-rows.ensures.degree in
    let size = ap g.F.Field.size c.field-f.ensures.field ∙ c.field-f.ensures.size in
    let below : c.loop-k.k < equation_count c.args.sheaf.now.graph (sheaf_of c.args.sheaf.now)
    (is_above c.args.sheaf.now.graph c.args.x) c.args.d =
    omega (arith, c.loop-k-test.true, c.rows-k-end.ensures, ap (λ (m : Matrix). m.rows) matrix) in
    let says =
    row_says s.graph (sheaf_of s) c.args.x c.args.d c.graph.ensures.state.over _ (g.F.Field.size c.field-f.result.now)
    (number_at c.args.t.now) c.loop-k.k c.num-left.result matrix size below
    (c.num-left.ensures ∙ c.value_at_spread.ensures.number) in
    let indexed = c.requires.indexed.indexed in
    let at = place_of s.graph (sheaf_of s) c.args.x c.args.d c.args.index.now indexed c.loop-k.k
    (omega (arith, below, indexed.equations)) c.index-place.result.now c.index-place.ensures in
    first_fails s.graph (sheaf_of s) c.args.x c.args.d c.graph.ensures.state.over (number_at c.args.t.now) c.loop-k.k
    c.index-place.result.now _ at refl c.from.ensures refl says c.if-left-ne0.true c.loop-k.invariant
