use Rattle.bmp_text.proofs.PrintingLoops.{states_on, states_end}
use Rattle.bmp_cert.specs.CertGrammar.{part_at_text, step_down}
use Rattle.bmp_cert.proofs.cert_print.push_vertices.Goals as goal

pub each-preserved : goal.each-preserved
each-preserved c =
    rw (c.in_ok-push_part_at.ensures, c.saturating_sub-number.ensures)
    (states_on (part_at_text c.args.version c.args.last) step_down c.each.out.items _ c.args.parts.now
    c.each.vertex-index _ c.each.number c.each-test.true c.vertex-item.is c.each.invariant)

pub returns : goal.returns
returns c = states_end (part_at_text c.args.version c.args.last) step_down c.each.out.items _ c.args.parts.now
    c.each.vertex-index c.each.number c.each-test.false c.each.invariant
