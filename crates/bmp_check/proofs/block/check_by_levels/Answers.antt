use Rattle.std.proofs.Common.{◌≡◌, ◌↔◌, ◌∙◌, sym, ap, subst}
use Rattle.std.proofs.lemmas.List.{length-take-le}
use Rattle.std.proofs.lemmas.Result.{err_from_is_err_and, on_ok_weaker, MatchResult-weaker}
use Rattle.bmp_field.specs.declared.prime.PrimeField.{PrimeField}
use Rattle.bmp_sheaf.specs.States.{SheafState, sheaf_of}
use Rattle.bmp_cover.specs.CoverInputs.{HasValues, HasTuples}
use Rattle.bmp_levels.specs.Agreement.{AgreesAt}
use Rattle.bmp_cover.specs.CoverChecks.{CoverCompares}
use Rattle.bmp_cover.specs.declared.fault.CoverFault.{CoverFault}
use Rattle.bmp_levels.specs.Lists.{first_members}
use Rattle.bmp_levels.specs.Runs.{list_of}
use Rattle.bmp_check.specs.declared.method.Method.{Method}
use Rattle.bmp_check.specs.BlockData.{block_of, matrix_at, tuples_at}
use Rattle.bmp_check.specs.PartsSheaf.{parts_sheaf}
use Rattle.bmp_check.specs.ShapedViews.{graph_in, cert_in}
use Rattle.bmp_check.specs.Verdicts.{CoverComparesAt}
use Rattle.bmp_check.proofs.FamilyLemmas.{members_room, members_there, members_same, members_own, members_known, member_tuples, same_comparisons}
use Rattle.bmp_check.proofs.InputLemmas.{at_block, read_at, read_there, read_block, has_stalks, boundaries_are, boundaries_read}
use Rattle.bmp_check.proofs.RefusalLemmas.{cover_first, kernel_second}
use Rattle.bmp_check.proofs.block.check_by_levels.Goals as goal

pub block_of-block-requires : goal.block_of-block-requires
block_of-block-requires c =
    read_there c.args.x c.args.d c.given.ensures c.part_of.ensures
    (at_block c.requires.whole c.args.x c.args.d c.requires.block).there

pub members-members-requires : goal.members-members-requires
members-members-requires c =
    let is = read_block c.args.x c.args.d c.given.ensures c.part_of.ensures c.block_of-block.ensures in
    members_there c.requires.whole c.requires.method c.args.x c.args.d c.requires.block is c.args.family.now
    c.requires.family c.len-count.ensures

pub slice_bounds-agree_at-end : goal.slice_bounds-agree_at-end
slice_bounds-agree_at-end c =
    let is = read_block c.args.x c.args.d c.given.ensures c.part_of.ensures c.block_of-block.ensures in
    members_room c.requires.whole c.requires.method c.args.x c.args.d c.requires.block is c.len-count.ensures
    c.requires.sums

pub slice_bounds-agree_at-end-2 : goal.slice_bounds-agree_at-end-2
slice_bounds-agree_at-end-2 c =
    let is = read_block c.args.x c.args.d c.given.ensures c.part_of.ensures c.block_of-block.ensures in
    let enough = members_room c.requires.whole c.requires.method c.args.x c.args.d c.requires.block is
    c.len-count.ensures
    c.requires.sums in
    sym (length-take-le c.len-count.result c.args.sums.now enough)

pub agree_at-known-requires-clause-sums : goal.agree_at-known-requires-clause-sums
agree_at-known-requires-clause-sums c =
    let is = read_block c.args.x c.args.d c.given.ensures c.part_of.ensures c.block_of-block.ensures in
    let enough = members_room c.requires.whole c.requires.method c.args.x c.args.d c.requires.block is
    c.len-count.ensures
    c.requires.sums in
    length-take-le c.len-count.result c.args.sums.now enough ∙ sym c.members-members.ensures.count

pub agree_at-known-requires-clause-stalks : goal.agree_at-known-requires-clause-stalks
agree_at-known-requires-clause-stalks c =
    has_stalks (read_at c.requires.method c.sheaf-sheaf.ensures
    (at_block c.requires.whole c.args.x c.args.d c.requires.block))

pub agree_at-known-requires-clause-above : goal.agree_at-known-requires-clause-above
agree_at-known-requires-clause-above c =
    let is = read_block c.args.x c.args.d c.given.ensures c.part_of.ensures c.block_of-block.ensures in
    let members = c.members-members.ensures in
    subst (λ (t : SheafState PrimeField). HasTuples t c.args.x c.args.d
    (first_members c.members-members.result.count (list_of c.members-members.result.family.now)))
    (sym c.sheaf-sheaf.ensures)
    (member_tuples c.requires.whole c.requires.method c.args.d c.requires.block.1 c.args.x
    (members_same c.requires.whole c.requires.method c.args.x c.args.d c.requires.block is c.args.family.now
    c.requires.family members.count members.family c.len-count.ensures))

pub agree_at-known-requires-clause-own : goal.agree_at-known-requires-clause-own
agree_at-known-requires-clause-own c =
    let is = read_block c.args.x c.args.d c.given.ensures c.part_of.ensures c.block_of-block.ensures in
    let members = c.members-members.ensures in
    subst (λ (t : SheafState PrimeField). HasValues t c.args.d
    (first_members c.members-members.result.count (list_of c.members-members.result.family.now)) c.args.x)
    (sym c.sheaf-sheaf.ensures)
    (members_own c.requires.whole c.requires.method c.args.x c.args.d c.requires.block is c.args.family.now
    c.requires.family members.count members.family c.len-count.ensures)

pub check_cover_at-requires-clause-known : goal.check_cover_at-requires-clause-known
check_cover_at-requires-clause-known c = λ known.
    let is = read_block c.args.x c.args.d c.given.ensures c.part_of.ensures c.block_of-block.ensures in
    let members = c.members-members.ensures in
    members_known c.requires.whole c.requires.method c.args.x c.args.d c.requires.block is c.args.family.now
    c.requires.family members.count members.family c.len-count.ensures
    (subst (λ (t : SheafState PrimeField). AgreesAt t.graph (sheaf_of t) c.args.x c.args.d
    (first_members c.members-members.result.count (list_of c.members-members.result.family.now)))
    c.sheaf-sheaf.ensures (c.agree_at-known.ensures.agree known))

pub check_cover_at-requires-clause-tuples : goal.check_cover_at-requires-clause-tuples
check_cover_at-requires-clause-tuples c =
    let is = read_block c.args.x c.args.d c.given.ensures c.part_of.ensures c.block_of-block.ensures in
    let members = c.members-members.ensures in
    member_tuples c.requires.whole c.requires.method c.args.d c.requires.block.1 c.args.x
    (members_same c.requires.whole c.requires.method c.args.x c.args.d c.requires.block is c.args.family.now
    c.requires.family members.count members.family c.len-count.ensures)

pub check_cover_at-requires-clause-count : goal.check_cover_at-requires-clause-count
check_cover_at-requires-clause-count c =
    let is = read_block c.args.x c.args.d c.given.ensures c.part_of.ensures c.block_of-block.ensures in
    let members = c.members-members.ensures in
    let same = members_same c.requires.whole c.requires.method c.args.x c.args.d c.requires.block is c.args.family.now
    c.requires.family members.count members.family c.len-count.ensures in
    subst (λ (m : Method). c.members-members.result.count
    ≡ (tuples_at (graph_in c.args.s.now) m (cert_in c.args.s.now) c.args.x c.args.d).count) (sym c.requires.method)
    same.count

pub check_cover_at-requires-clause-same : goal.check_cover_at-requires-clause-same
check_cover_at-requires-clause-same c =
    let is = read_block c.args.x c.args.d c.given.ensures c.part_of.ensures c.block_of-block.ensures in
    let members = c.members-members.ensures in
    let same = members_same c.requires.whole c.requires.method c.args.x c.args.d c.requires.block is c.args.family.now
    c.requires.family members.count members.family c.len-count.ensures in
    subst (λ (m : Method). (r : CoverFault) →
    CoverCompares (graph_in c.args.s.now) (parts_sheaf (graph_in c.args.s.now) (cert_in c.args.s.now)) c.args.x
    c.args.d (first_members c.members-members.result.count (list_of c.members-members.result.family.now))
    (block_of (cert_in c.args.s.now) c.args.x c.args.d).cover r
    ↔ CoverComparesAt (graph_in c.args.s.now) m (cert_in c.args.s.now) c.args.x c.args.d r) (sym c.requires.method)
    (same_comparisons c.requires.whole c.requires.method c.args.d c.requires.block.1 c.args.x same)

pub returns-in_err-check_cover_at-clause-first : goal.returns-in_err-check_cover_at-clause-first
returns-in_err-check_cover_at-clause-first c =
    let p = err_from_is_err_and c.from_residual.result c.from_residual.ensures.1 in
    rw (p.1, p.2) (cover_first (graph_in c.args.s.now) (cert_in c.args.s.now) c.args.x c.args.d
    c.in_err-check_cover_at.field-0.0 c.requires.method c.in_err-check_cover_at.ensures.first)

pub of-boundary-requires-clause-vertex : goal.of-boundary-requires-clause-vertex
of-boundary-requires-clause-vertex c =
    let at = read_at c.requires.method c.sheaf-sheaf.ensures
    (at_block c.requires.whole c.args.x c.args.d c.requires.block) in
    (has_stalks at).there

pub of-boundary-requires-clause-degree : goal.of-boundary-requires-clause-degree
of-boundary-requires-clause-degree c =
    let at = read_at c.requires.method c.sheaf-sheaf.ensures
    (at_block c.requires.whole c.args.x c.args.d c.requires.block) in
    (has_stalks at).degree

pub of-boundary-requires-clause-few_rows : goal.of-boundary-requires-clause-few_rows
of-boundary-requires-clause-few_rows c =
    let at = read_at c.requires.method c.sheaf-sheaf.ensures
    (at_block c.requires.whole c.args.x c.args.d c.requires.block) in
    (has_stalks at).few_on_boundary

pub of-boundary-requires-clause-few_cols : goal.of-boundary-requires-clause-few_cols
of-boundary-requires-clause-few_cols c =
    let at = read_at c.requires.method c.sheaf-sheaf.ensures
    (at_block c.requires.whole c.args.x c.args.d c.requires.block) in
    (has_stalks at).few

pub check_kernel_at-requires-clause-matrix : goal.check_kernel_at-requires-clause-matrix
check_kernel_at-requires-clause-matrix c =
    let at = read_at c.requires.method c.sheaf-sheaf.ensures
    (at_block c.requires.whole c.args.x c.args.d c.requires.block) in
    let rows = c.of-boundary.ensures in
    boundaries_are at (boundaries_read rows.sheaf rows.vertex rows.degree)
    ∙ ap (λ (m : Method). matrix_at (graph_in c.args.s.now) m (cert_in c.args.s.now) c.args.x c.args.d)
    (sym c.requires.method)

pub returns-clause-ok : goal.returns-clause-ok
returns-clause-ok c =
    on_ok_weaker c.check_kernel_at.result (λ h. (h, c.in_ok-check_cover_at.ensures.ok)) c.check_kernel_at.ensures.ok

pub returns-clause-first : goal.returns-clause-first
returns-clause-first c =
    MatchResult-weaker c.check_kernel_at.result c.check_kernel_at.ensures.first (λ u h. h)
    (λ r h. kernel_second (graph_in c.args.s.now) (cert_in c.args.s.now) c.args.x c.args.d r c.requires.method
    c.in_ok-check_cover_at.ensures.ok h)
