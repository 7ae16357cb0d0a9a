use Rattle.std.proofs.Common.{◌≡◌, length, rules, arith}
use Rattle.bmp_module.proofs.Dividing.{divided_fails, divided_end}
use Rattle.bmp_module.proofs.blocks.divided.Goals as goal

pub returns-then-rest-k : goal.returns-then-rest-k
returns-then-rest-k c =
    let long_e : length c.args.e.now ≡ 6 = search rules in
    let long_m : length c.args.m.now ≡ 6 = search rules in
    divided_fails c.args.e.now c.args.m.now c.loop-k.rest c.loop-k.k long_e long_m c.loop-k-test.true c.if-rest-k.true
    c.loop-k.invariant

pub returns : goal.returns
returns c =
    let long_e : length c.args.e.now ≡ 6 = search rules in
    let long_m : length c.args.m.now ≡ 6 = search rules in
    let all : c.loop-k.k ≡ 6 = omega (arith, c.loop-k.auto.k-end, c.loop-k-test.false) in
    divided_end c.args.e.now c.args.m.now c.loop-k.rest long_e long_m (rw all at c.loop-k.invariant)
