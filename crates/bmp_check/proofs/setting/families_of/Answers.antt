use Rattle.std.proofs.Common.{refl, ap, sym, subst, arith}
use Rattle.bmp_field.specs.declared.prime.PrimeField.{PrimeField}
use Rattle.bmp_levels.specs.Extensions.{HasTop, AllFit}
use Rattle.bmp_sheaf.specs.States.{SheafState}
use Rattle.bmp_check.specs.declared.degree_blocks.DegreeBlocks.{DegreeBlocks}
use Rattle.bmp_check.specs.declared.given.Given.{Given}
use Rattle.bmp_check.specs.DegreeBlocks.{has_block, block_at}
use Rattle.bmp_check.specs.ShapedViews.{written_in, graph_in, cert_in}
use Rattle.bmp_check.proofs.FamilyLemmas.{has_top, blocks_fit, families_written, families_more}
use Rattle.bmp_check.proofs.setting.families_of.Goals as goal

pub of_blocks-requires-clause-top : goal.of_blocks-requires-clause-top
of_blocks-requires-clause-top c =
    subst (λ (t : SheafState PrimeField). HasTop t) (sym c.sheaf.ensures)
    (has_top c.requires.whole c.requires.levels c.requires.top)

pub of_blocks-requires-clause-blocks : goal.of_blocks-requires-clause-blocks
of_blocks-requires-clause-blocks c =
    let blocks : DegreeBlocks = record { given = c.given-given.result.now; degree = c.degrees.degree } in
    let is = ap (λ (g : Given). written_in g) c.given-given.ensures in
    let bound = ap (λ (g : Given). g.degree) c.given-given.ensures in
    subst (λ (t : SheafState PrimeField). AllFit t c.degrees.degree (has_block blocks) (block_at blocks))
    (sym c.sheaf.ensures)
    (blocks_fit c.requires.whole c.requires.levels c.degrees.degree (omega (arith, c.degrees-test.true, bound)) blocks
    is refl)

pub degrees-preserved : goal.degrees-preserved
degrees-preserved c =
    let blocks : DegreeBlocks = record { given = c.given-given.result.now; degree = c.degrees.degree } in
    let is = ap (λ (g : Given). written_in g) c.given-given.ensures in
    let family = c.in_ok-of_blocks.field-0 in
    families_more (graph_in c.args.s.now) (cert_in c.args.s.now) c.degrees.degree c.degrees.families.items family
    c.in_ok-push.ensures.items
    c.degrees.invariant
    (families_written c.requires.whole blocks family is c.sheaf.ensures c.in_ok-of_blocks.ensures.families)
