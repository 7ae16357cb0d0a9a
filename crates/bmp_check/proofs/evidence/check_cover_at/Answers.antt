use Rattle.std.proofs.Common.{length, sym, ap, subst, ◌∙◌}
use Rattle.bmp_field.specs.declared.prime.PrimeField.{PrimeField}
use Rattle.bmp_sheaf.specs.States.{SheafState, sheaf_of, IsRoom}
use Rattle.bmp_linear.specs.declared.blocks.DegreeBlock.{DegreeBlock}
use Rattle.bmp_cover.specs.CoverChecks.{ComparesCover, CoverPasses}
use Rattle.bmp_cover.specs.CoverInputs.{HasStalks, HasTuples, CoverFits}
use Rattle.bmp_check.specs.declared.refusal.Refusal.{Refusal}
use Rattle.bmp_check.specs.ShapedViews.{sheaf_in}
use Rattle.bmp_check.proofs.InputLemmas.{at_block, read_there, read_block, has_stalks, cover_fits, cover_room, cover_passes, cover_first}
use Rattle.bmp_check.proofs.evidence.check_cover_at.Goals as goal

pub block_of-block-requires : goal.block_of-block-requires
block_of-block-requires g c =
    read_there c.args.x c.args.d c.given.ensures c.part_of.ensures
    (at_block c.requires.whole c.args.x c.args.d c.requires.block).there

pub check_cover_known-requires-clause-stalks : goal.check_cover_known-requires-clause-stalks
check_cover_known-requires-clause-stalks g c =
    subst (λ (t : SheafState PrimeField). HasStalks t c.args.x c.args.d) (sym c.sheaf.ensures)
    (has_stalks (at_block c.requires.whole c.args.x c.args.d c.requires.block))

pub check_cover_known-requires-clause-tuples : goal.check_cover_known-requires-clause-tuples
check_cover_known-requires-clause-tuples g c =
    subst (λ (t : SheafState PrimeField). HasTuples t c.args.x c.args.d (g.T.Sections.list c.args.tuples.now))
    (sym c.sheaf.ensures) c.requires.tuples

pub check_cover_known-requires-clause-fits : goal.check_cover_known-requires-clause-fits
check_cover_known-requires-clause-fits g c =
    let at = at_block c.requires.whole c.args.x c.args.d c.requires.block in
    let is = read_block c.args.x c.args.d c.given.ensures c.part_of.ensures c.block_of-block.ensures in
    subst (λ (t : SheafState PrimeField). CoverFits t c.args.x c.args.d (g.T.Sections.list c.args.tuples.now).count
    c.block_of-block.result.now.cover) (sym c.sheaf.ensures)
    (cover_fits at is c.requires.count)

pub check_cover_known-requires-clause-room : goal.check_cover_known-requires-clause-room
check_cover_known-requires-clause-room g c =
    subst (λ (t : SheafState PrimeField). IsRoom t c.args.d (length c.args.numbers.now.first)) (sym c.sheaf.ensures)
    (cover_room (at_block c.requires.whole c.args.x c.args.d c.requires.block) _ c.requires.width)

pub returns-in-Ok-clause-ok : goal.returns-in-Ok-clause-ok
returns-in-Ok-clause-ok g c =
    let at = at_block c.requires.whole c.args.x c.args.d c.requires.block in
    let is = read_block c.args.x c.args.d c.given.ensures c.part_of.ensures c.block_of-block.ensures in
    cover_passes at is c.sheaf.ensures c.requires.same c.in-Ok.ensures.ok

pub returns-in-Err-clause-first : goal.returns-in-Err-clause-first
returns-in-Err-clause-first g c =
    let at = at_block c.requires.whole c.args.x c.args.d c.requires.block in
    let is = read_block c.args.x c.args.d c.given.ensures c.part_of.ensures c.block_of-block.ensures in (
      c.in-Err.fault,
      cover_first at is c.sheaf.ensures c.requires.same c.in-Err.fault c.in-Err.ensures.fault,
      c.cover_refusal.ensures,
    )

pub returns-in-Err-clause-differ : goal.returns-in-Err-clause-differ
returns-in-Err-clause-differ g c =
    let refusal = c.cover_refusal.ensures in
    λ same. c.in-Err.ensures.fault.differs (sym (ap (λ (r : Refusal). r.left) refusal) ∙ same
    ∙ ap (λ (r : Refusal). r.right) refusal)

pub check_cover_known-requires-clause-known : goal.check_cover_known-requires-clause-known
check_cover_known-requires-clause-known g c = λ known.
    let is = read_block c.args.x c.args.d c.given.ensures c.part_of.ensures c.block_of-block.ensures in
    subst (λ (t : SheafState PrimeField). CoverPasses (ComparesCover t.graph (sheaf_of t) c.args.x c.args.d
    (g.T.Sections.list c.args.tuples.now) c.block_of-block.result.now.cover)) (sym c.sheaf.ensures)
    (subst (λ (b : DegreeBlock). CoverPasses (ComparesCover (sheaf_in c.args.s.now).graph
    (sheaf_of (sheaf_in c.args.s.now)) c.args.x c.args.d (g.T.Sections.list c.args.tuples.now) b.cover)) (sym is)
    (c.requires.known known))
