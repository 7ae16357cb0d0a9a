use Rattle.std.proofs.Common.{◌≡◌, ◌↔◌, ◌<◌, ◌==◌, count_by, length, get_or, IsTrue, sym, arith}
use Rattle.std.proofs.lemmas.Option.{get_or_from_slice_get}
use Rattle.bmp_text.specs.Printing.{ChainFits}
use Rattle.bmp_cert.specs.BlockGrammar.{IsBlock}
use Rattle.bmp_cert.specs.CertGrammar.{step_up}
use Rattle.bmp_cert.proofs.FormedLemmas.{fits_on, fits_stop, failed}
use Rattle.bmp_cert.proofs.cert_formed.are_blocks.Goals as goal

pub each-preserved : goal.each-preserved
each-preserved c =
    let within : c.each.i < length c.args.blocks.now = omega (arith, c.len-i-end.ensures, c.each-test.true) in
    let is : c.at.result.now ≡ get_or c.args.blocks.now c.each.i c.at.result.now =
    sym (get_or_from_slice_get c.args.blocks.now c.each.i c.at.result.now c.at.result.now c.at.ensures) in
    let tried : IsTrue c.is_block.result ↔
    IsBlock c.args.version c.args.most (λ d. count_by (λ e. e == d) c.args.degrees.now) c.each.i c.at.result.now =
    rw c.from-in-each.ensures at c.is_block.ensures in
    fits_on ((length c.args.blocks.now ≡ c.args.count) ×
    ChainFits (IsBlock c.args.version c.args.most (λ d. count_by (λ e. e == d) c.args.degrees.now)) step_up 0
    c.args.blocks.now)
    (IsBlock c.args.version c.args.most (λ d. count_by (λ e. e == d) c.args.degrees.now)) step_up c.args.blocks.now
    c.each.i c.each.i c.at.result.now c.at.result.now within is
    (tried.0 c.if-not-is_block.false) c.each.invariant

pub returns-then-not-is_block : goal.returns-then-not-is_block
returns-then-not-is_block c =
    let within : c.each.i < length c.args.blocks.now = omega (arith, c.len-i-end.ensures, c.each-test.true) in
    let is : c.at.result.now ≡ get_or c.args.blocks.now c.each.i c.at.result.now =
    sym (get_or_from_slice_get c.args.blocks.now c.each.i c.at.result.now c.at.result.now c.at.ensures) in
    let tried : IsTrue c.is_block.result ↔
    IsBlock c.args.version c.args.most (λ d. count_by (λ e. e == d) c.args.degrees.now) c.each.i c.at.result.now =
    rw c.from-in-each.ensures at c.is_block.ensures in
    fits_stop ((length c.args.blocks.now ≡ c.args.count) ×
    ChainFits (IsBlock c.args.version c.args.most (λ d. count_by (λ e. e == d) c.args.degrees.now)) step_up 0
    c.args.blocks.now)
    (IsBlock c.args.version c.args.most (λ d. count_by (λ e. e == d) c.args.degrees.now)) step_up c.args.blocks.now
    c.each.i c.each.i c.at.result.now c.at.result.now within is
    (failed c.is_block.result tried c.if-not-is_block.true) c.each.invariant
