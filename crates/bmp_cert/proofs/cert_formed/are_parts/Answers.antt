use Rattle.std.proofs.Common.{◌≡◌, ◌<◌, length, get_or, sym, arith}
use Rattle.std.proofs.lemmas.Option.{get_or_from_slice_get}
use Rattle.bmp_text.specs.Printing.{ChainFits}
use Rattle.bmp_cert.specs.CertGrammar.{step_down, IsPartAt}
use Rattle.bmp_cert.proofs.FormedLemmas.{fits_on, fits_stop, failed}
use Rattle.bmp_cert.proofs.cert_formed.are_parts.Goals as goal

pub each-preserved : goal.each-preserved
each-preserved c =
    let within : c.each.i < length c.args.parts.now = omega (arith, c.len-i-end.ensures, c.each-test.true) in
    let is : c.at.result.now ≡ get_or c.args.parts.now c.each.i c.at.result.now =
    sym (get_or_from_slice_get c.args.parts.now c.each.i c.at.result.now c.at.result.now c.at.ensures) in
    rw c.saturating_sub-number.ensures
    (fits_on (ChainFits (IsPartAt c.args.version c.args.last c.args.most c.args.degree) step_down c.args.last
    c.args.parts.now) (IsPartAt c.args.version c.args.last c.args.most c.args.degree) step_down c.args.parts.now
    c.each.i c.each.number c.at.result.now c.at.result.now within is
    (c.is_part_at.ensures.0 c.if-not-is_part_at.false) c.each.invariant)

pub returns-then-not-is_part_at : goal.returns-then-not-is_part_at
returns-then-not-is_part_at c =
    let within : c.each.i < length c.args.parts.now = omega (arith, c.len-i-end.ensures, c.each-test.true) in
    let is : c.at.result.now ≡ get_or c.args.parts.now c.each.i c.at.result.now =
    sym (get_or_from_slice_get c.args.parts.now c.each.i c.at.result.now c.at.result.now c.at.ensures) in
    fits_stop (ChainFits (IsPartAt c.args.version c.args.last c.args.most c.args.degree) step_down c.args.last
    c.args.parts.now) (IsPartAt c.args.version c.args.last c.args.most c.args.degree) step_down c.args.parts.now
    c.each.i c.each.number c.at.result.now c.at.result.now within is
    (failed c.is_part_at.result c.is_part_at.ensures c.if-not-is_part_at.true) c.each.invariant
