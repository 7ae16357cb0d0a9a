use Rattle.std.proofs.Common.{◌↔◌, ◌∙◌, refl, sym, ap, subst}
use Rattle.std.proofs.lemmas.Result.{err_from_is_err_and, on_ok_weaker, MatchResult-weaker}
use Rattle.bmp_cover.specs.CoverChecks.{CoverCompares}
use Rattle.bmp_cover.specs.CoverInputs.{HasTuples}
use Rattle.bmp_field.specs.declared.prime.PrimeField.{PrimeField}
use Rattle.bmp_sheaf.specs.States.{SheafState, sheaf_of}
use Rattle.bmp_sections.specs.TupleLists.{TupleList, tuples_over}
use Rattle.bmp_check.specs.declared.method.Method.{Method}
use Rattle.bmp_check.specs.declared.scratch.BlockScratch.{BlockScratch}
use Rattle.bmp_check.specs.BlockData.{block_of, matrix_at, tuples_at}
use Rattle.bmp_check.specs.PartsSheaf.{parts_sheaf}
use Rattle.bmp_check.specs.Shaped.{IsRoomFor}
use Rattle.bmp_check.specs.ShapedViews.{graph_in, method_at, cert_in}
use Rattle.bmp_check.specs.Verdicts.{CoverComparesAt}
use Rattle.bmp_check.proofs.InputLemmas.{at_block, read_at, read_there, read_block, has_stalks, has_room, has_tuples, tuples_are, equations_are, equations_read, tuples_read}
use Rattle.bmp_check.proofs.RefusalLemmas.{kernel_first, cover_second}
use Rattle.bmp_check.proofs.RoomLemmas.{same_room}
use Rattle.bmp_check.proofs.block.check_by_spaces.Goals as goal

pub block_of-block-requires : goal.block_of-block-requires
block_of-block-requires c =
    read_there c.args.x c.args.d c.given.ensures c.part_of.ensures
    (at_block c.requires.whole c.args.x c.args.d c.requires.block).there

pub fill-requires-clause-there : goal.fill-requires-clause-there
fill-requires-clause-there c =
    let at = read_at c.requires.method c.sheaf-sheaf.ensures
    (at_block c.requires.whole c.args.x c.args.d c.requires.block) in
    (has_stalks at).above

pub fill-requires-clause-room : goal.fill-requires-clause-room
fill-requires-clause-room c =
    let at = read_at c.requires.method c.sheaf-sheaf.ensures
    (at_block c.requires.whole c.args.x c.args.d c.requires.block) in
    has_room at c.args.scratch.now
    (subst (λ (m : Method). IsRoomFor (graph_in c.args.s.now) m (cert_in c.args.s.now) c.args.scratch.now)
    c.requires.method c.requires.room)

pub check_kernel_at-requires-clause-matrix : goal.check_kernel_at-requires-clause-matrix
check_kernel_at-requires-clause-matrix c =
    let at = read_at c.requires.method c.sheaf-sheaf.ensures
    (at_block c.requires.whole c.args.x c.args.d c.requires.block) in
    let rows = c.over-equations.ensures in
    equations_are at (equations_read rows.sheaf rows.vertex rows.degree)
    ∙ ap (λ (m : Method). matrix_at (graph_in c.args.s.now) m (cert_in c.args.s.now) c.args.x c.args.d)
    (sym c.requires.method)

pub returns-in_err-check_kernel_at-clause-first : goal.returns-in_err-check_kernel_at-clause-first
returns-in_err-check_kernel_at-clause-first c =
    let p = err_from_is_err_and c.from_residual.result c.from_residual.ensures.1 in
    rw (p.1, p.2) (kernel_first (graph_in c.args.s.now) (cert_in c.args.s.now) c.args.x c.args.d
    c.in_err-check_kernel_at.field-0.0 c.requires.method c.in_err-check_kernel_at.ensures.first)

pub returns-in_err-check_kernel_at-clause-room : goal.returns-in_err-check_kernel_at-clause-room
returns-in_err-check_kernel_at-clause-room c =
    let scratch : BlockScratch =
    record { index = c.fill.new.self; numbers = c.check_kernel_at.new.numbers; sums = c.args.scratch.now.sums } in
    same_room c.args.scratch.now scratch c.fill.ensures.starts c.fill.ensures.places c.check_kernel_at.ensures.width
    refl c.requires.room

pub check_cover_at-requires-clause-tuples : goal.check_cover_at-requires-clause-tuples
check_cover_at-requires-clause-tuples c =
    let at = read_at c.requires.method c.sheaf-sheaf.ensures
    (at_block c.requires.whole c.args.x c.args.d c.requires.block) in
    let is = read_block c.args.x c.args.d c.given.ensures c.part_of.ensures c.block_of-block.ensures in
    let tuples = c.over-tuples.ensures in
    subst (λ (t : SheafState PrimeField). HasTuples t c.args.x c.args.d
    (tuples_over c.over-tuples.result.sheaf.now.graph (sheaf_of c.over-tuples.result.sheaf.now)
    c.over-tuples.result.vertex c.over-tuples.result.degree c.over-tuples.result.vectors.now)) c.sheaf-sheaf.ensures
    (has_tuples at is (tuples_read tuples.sheaf tuples.vertex tuples.degree tuples.vectors))

pub check_cover_at-requires-clause-count : goal.check_cover_at-requires-clause-count
check_cover_at-requires-clause-count c =
    let at = read_at c.requires.method c.sheaf-sheaf.ensures
    (at_block c.requires.whole c.args.x c.args.d c.requires.block) in
    let is = read_block c.args.x c.args.d c.given.ensures c.part_of.ensures c.block_of-block.ensures in
    let tuples = c.over-tuples.ensures in
    ap (λ (l : TupleList). l.count)
    (tuples_are at is (tuples_read tuples.sheaf tuples.vertex tuples.degree tuples.vectors)
    ∙ ap (λ (m : Method). tuples_at (graph_in c.args.s.now) m (cert_in c.args.s.now) c.args.x c.args.d)
    (sym c.requires.method))

pub check_cover_at-requires-clause-same : goal.check_cover_at-requires-clause-same
check_cover_at-requires-clause-same c =
    let G = graph_in c.args.s.now in
    let cert = cert_in c.args.s.now in
    let at = read_at c.requires.method c.sheaf-sheaf.ensures
    (at_block c.requires.whole c.args.x c.args.d c.requires.block) in
    let is = read_block c.args.x c.args.d c.given.ensures c.part_of.ensures c.block_of-block.ensures in
    let tuples = c.over-tuples.ensures in
    let same =
    tuples_are at is (tuples_read tuples.sheaf tuples.vertex tuples.degree tuples.vectors)
    ∙ ap (λ (m : Method). tuples_at G m cert c.args.x c.args.d) (sym c.requires.method) in
    λ r.
    subst (λ (l : TupleList). CoverCompares G (parts_sheaf G cert) c.args.x c.args.d l
    (block_of cert c.args.x c.args.d).cover r ↔ CoverComparesAt G (method_at c.args.s.now) cert c.args.x c.args.d r)
    (sym same) ((λ h. h), (λ h. h))

pub returns-clause-ok : goal.returns-clause-ok
returns-clause-ok c =
    on_ok_weaker c.check_cover_at.result (λ h. (c.in_ok-check_kernel_at.ensures.ok, h)) c.check_cover_at.ensures.ok

pub returns-clause-first : goal.returns-clause-first
returns-clause-first c =
    MatchResult-weaker c.check_cover_at.result c.check_cover_at.ensures.first (λ u h. h)
    (λ r h. cover_second (graph_in c.args.s.now) (cert_in c.args.s.now) c.args.x c.args.d r c.requires.method
    c.in_ok-check_kernel_at.ensures.ok h)

pub returns-clause-room : goal.returns-clause-room
returns-clause-room c =
    let scratch : BlockScratch =
    record { index = c.fill.new.self; numbers = c.check_cover_at.new.numbers; sums = c.args.scratch.now.sums } in
    same_room c.args.scratch.now scratch c.fill.ensures.starts c.fill.ensures.places
    (c.check_cover_at.ensures.width ∙ c.check_kernel_at.ensures.width) refl c.requires.room
