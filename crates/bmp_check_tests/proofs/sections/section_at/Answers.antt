use Rattle.std.proofs.Common.{◌≡◌, length, subst, arith}
use Rattle.bmp_linear.specs.SparseVectors.{FitsBelow}
use Rattle.bmp_sheaf.specs.States.{sheaf_of}
use Rattle.bmp_sections.specs.Positions.{position_count}
use Rattle.bmp_sections.specs.Numbers.{is_above}
use Rattle.bmp_check.specs.declared.method.Method.{Method}
use Rattle.bmp_check.specs.Shaped.{HasWidth, IsRoomFor}
use Rattle.bmp_check.specs.ShapedViews.{graph_in, cert_in}
use Rattle.bmp_check.proofs.InputLemmas.{at_block, read_at, has_room, has_stalks}
use Rattle.bmp_check.proofs.RoomLemmas.{table_of, top_of}
use Rattle.bmp_check_tests.proofs.BlockLemmas.{sizes_read, positions_are, positions_within}
use Rattle.bmp_check_tests.proofs.sections.section_at.Goals as goal

pub block-sizes-requires-clause-sizes : goal.block-sizes-requires-clause-sizes
block-sizes-requires-clause-sizes c = table_of c.graph.ensures c.given.ensures c.sizes.ensures c.requires.whole.sizes

pub block-sizes-requires-clause-top : goal.block-sizes-requires-clause-top
block-sizes-requires-clause-top c = top_of c.graph.ensures c.requires.whole.checkable.on.last_is_top

pub fill-requires-clause-there : goal.fill-requires-clause-there
fill-requires-clause-there c =
    let at = read_at c.requires.method c.sheaf-sheaf.ensures
    (at_block c.requires.whole c.args.x c.args.d c.requires.block) in
    (has_stalks at).above

pub fill-requires-clause-room : goal.fill-requires-clause-room
fill-requires-clause-room c =
    let at = read_at c.requires.method c.sheaf-sheaf.ensures
    (at_block c.requires.whole c.args.x c.args.d c.requires.block) in
    has_room at c.in_ok-scratch.scratch
    (subst (λ (m : Method). IsRoomFor (graph_in c.args.s.now) m (cert_in c.args.s.now) c.in_ok-scratch.scratch)
    c.requires.method c.in_ok-scratch.ensures)

pub compatible-requires-clause-fits : goal.compatible-requires-clause-fits
compatible-requires-clause-fits c =
    let at = read_at c.requires.method c.sheaf-sheaf.ensures
    (at_block c.requires.whole c.args.x c.args.d c.requires.block) in
    let s = c.sheaf-sheaf.result.now in
    let holds : FitsBelow c.in_ok-tuple.tuple c.in_ok-try_from.field-0 = c.fits.ensures.0 c.if-not-fits.false in
    let same : c.block-sizes.result.columns ≡ position_count s.graph (sheaf_of s) (is_above s.graph c.args.x) c.args.d =
    positions_are at c.block-sizes.result
    (sizes_read (graph_in c.args.s.now) c.graph.result.now c.args.s.now.given c.given.result.now c.graph.ensures
    c.given.ensures c.requires.method
    c.args.x c.args.d c.block-sizes.result c.block-sizes.ensures) in
    λ k e below. let within = holds k e below in omega (arith, within, same, c.in_ok-try_from.ensures)

pub compatible-requires-clause-room : goal.compatible-requires-clause-room
compatible-requires-clause-room c =
    let at = read_at c.requires.method c.sheaf-sheaf.ensures
    (at_block c.requires.whole c.args.x c.args.d c.requires.block) in
    let n = length c.in_ok-scratch.scratch.numbers.first in
    positions_within at n
    (subst (λ (m : Method). HasWidth (graph_in c.args.s.now) m (cert_in c.args.s.now) n) c.requires.method
    c.in_ok-scratch.ensures.width)
