use Rattle.std.proofs.Common.{◌≡◌, ℕ, ap, ◌∙◌, arith, below_more}
use Rattle.bmp_check.specs.declared.given.Given.{Given}
use Rattle.bmp_check.specs.declared.shaped.Shaped.{Shaped}
use Rattle.bmp_check.specs.FirstRefusals.{piece_of, IsOwn}
use Rattle.bmp_check.specs.NumberedBlocks.{PassesAt}
use Rattle.bmp_check.specs.Settings.{shaped_in}
use Rattle.bmp_check.specs.ShapedViews.{cert_in}
use Rattle.bmp_check.proofs.NumberLemmas.{counted_blocks}
use Rattle.bmp_check.proofs.kept.first_refused.Goals as goal

pub each-preserved-then-block-degree : goal.each-preserved-then-block-degree
each-preserved-then-block-degree c =
    let s = shaped_in c.args.s.now in
    let degree : c.given.result.now.degree ≡ (cert_in (shaped_in c.args.s.now)).degree =
    ap (λ (g : Given). g.degree) c.given.ensures ∙ ap (λ (u : Shaped). (cert_in u).degree) c.shaped-shaped.ensures in
    record {
      passed = below_more (λ k. IsOwn s c.args.workers c.args.number k → PassesAt s k) c.each.block
          c.each.invariant.passed
          (λ own. absurd (c.if-block-degree.true
          (ap (λ (D : ℕ). piece_of D c.args.workers c.each.block) degree ∙ own)));
      room = c.each.invariant.room;
    }

pub each-preserved : goal.each-preserved
each-preserved c =
    let s = shaped_in c.args.s.now in
    record {
      passed = below_more (λ k. IsOwn s c.args.workers c.args.number k → PassesAt s k) c.each.block
          c.each.invariant.passed (λ own. c.in_default.ensures.ok);
      room = c.check_block.ensures.room;
    }

pub returns-clause-first : goal.returns-clause-first
returns-clause-first c = λ i numbered own.
    let count =
    counted_blocks c.shaped-shaped.ensures c.graph.ensures c.given.ensures c.vertices-vertices.ensures.count
    c.block_count-block-end.ensures.count in
    c.each.invariant.passed i (omega (arith, numbered, c.each-test.false, count)) own
