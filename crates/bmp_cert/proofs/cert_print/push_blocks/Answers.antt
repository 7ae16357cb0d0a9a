use Rattle.std.proofs.Common.{arith}
use Rattle.bmp_text.proofs.PrintingLoops.{states_on, states_end}
use Rattle.bmp_cert.specs.BlockGrammar.{block_text}
use Rattle.bmp_cert.specs.CertGrammar.{step_up}
use Rattle.bmp_cert.proofs.cert_print.push_blocks.Goals as goal

pub each-preserved : goal.each-preserved
each-preserved c = (
  omega arith,
  rw c.in_ok-push_block.ensures
      (states_on (block_text c.args.version) step_up c.each.out.items _ c.as_slice-list.result.now c.each.block-index _
      c.each.degree c.each-test.true c.block-item.is c.each.invariant.1),
)

pub returns : goal.returns
returns c = rw⁻¹ c.as_slice-list.ensures.items
    (states_end (block_text c.args.version) step_up c.each.out.items _ c.as_slice-list.result.now c.each.block-index
    c.each.degree c.each-test.false c.each.invariant.1)
