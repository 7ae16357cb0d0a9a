use Rattle.std.proofs.Common.{◌≡◌, ◌<◌, ◌^◌, ◌∙◌, sym, arith}
use Rattle.bmp_linear.specs.SparseVectors.{FitsBelow}
use Rattle.bmp_graph.specs.Graph.{Graph}
use Rattle.bmp_sheaf.specs.Sheaves.{SheafData}
use Rattle.bmp_sheaf.specs.States.{sheaf_of}
use Rattle.bmp_sections.specs.Positions.{position_count}
use Rattle.bmp_sections.specs.Numbers.{is_above}
use Rattle.bmp_sections.proofs.UpperSetLemmas.{IsAboveSet, read_set, set_count_same, set_within}
use Rattle.bmp_check.specs.ShapedViews.{graph_in}
use Rattle.bmp_check.proofs.InputLemmas.{at_block, read_at, to_memory}
use Rattle.bmp_check_tests.proofs.BlockLemmas.{sizes_read, positions_are}
use Rattle.bmp_check_tests.proofs.sections.restricted.Goals as goal

pub restrict-requires-clause-within : goal.restrict-requires-clause-within
restrict-requires-clause-within c =
    let s = c.sheaf-sheaf.result.now in
    let is = c.graph-2.ensures.state.over.is_graph in
    let from : IsAboveSet c.sheaf-sheaf.result.now.graph 0 c.in_ok-from.from =
    read_set c.graph-2.ensures.graph c.in_ok-from.ensures.vertices c.in_ok-from.ensures.above in
    let to : IsAboveSet c.sheaf-sheaf.result.now.graph c.args.y c.in_ok-to.to =
    read_set c.graph-3.ensures.graph c.in_ok-to.ensures.vertices c.in_ok-to.ensures.above in
    set_within s.graph is 0 c.in_ok-from.from from c.args.y c.in_ok-to.to to (sym c.has.ensures ∙ c.if-not-has.false)

pub restrict-requires-clause-few : goal.restrict-requires-clause-few
restrict-requires-clause-few c =
    let s = c.sheaf-sheaf.result.now in
    let is = c.graph-2.ensures.state.over.is_graph in
    let at = read_at c.requires.method c.sheaf-sheaf.ensures
    (at_block c.requires.whole 0 c.args.d c.requires.block) in
    let from : IsAboveSet c.sheaf-sheaf.result.now.graph 0 c.in_ok-from.from =
    read_set c.graph-2.ensures.graph c.in_ok-from.ensures.vertices c.in_ok-from.ensures.above in
    let few = at.fits.few in
    let above = to_memory at (λ (H : Graph) (S : SheafData). position_count H S (is_above H 0) c.args.d < 2 ^ 32)
    (omega (arith, few)) in
    omega (arith, above, set_count_same s.graph is 0 c.in_ok-from.from from (sheaf_of s) c.args.d)

pub restrict-requires-clause-fits : goal.restrict-requires-clause-fits
restrict-requires-clause-fits c =
    let s = c.sheaf-sheaf.result.now in
    let is = c.graph-2.ensures.state.over.is_graph in
    let at = read_at c.requires.method c.sheaf-sheaf.ensures
    (at_block c.requires.whole 0 c.args.d c.requires.block) in
    let from : IsAboveSet c.sheaf-sheaf.result.now.graph 0 c.in_ok-from.from =
    read_set c.graph-2.ensures.graph c.in_ok-from.ensures.vertices c.in_ok-from.ensures.above in
    let holds : FitsBelow c.in_ok-tuple.tuple c.in_ok-try_from.field-0 = c.fits.ensures.0 c.if-not-fits.false in
    let same : c.block-sizes.result.columns ≡ position_count s.graph (sheaf_of s) (is_above s.graph 0) c.args.d =
    positions_are at c.block-sizes.result
    (sizes_read (graph_in c.args.s.now) c.graph.result.now c.args.s.now.given c.given.result.now c.graph.ensures
    c.given.ensures c.requires.method 0 c.args.d c.block-sizes.result c.block-sizes.ensures) in
    let counts = set_count_same s.graph is 0 c.in_ok-from.from from (sheaf_of s) c.args.d in
    λ k e below. let within = holds k e below in omega (arith, within, same, counts, c.in_ok-try_from.ensures)
