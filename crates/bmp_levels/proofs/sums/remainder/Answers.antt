use Rattle.std.proofs.Common.{◌≡◌, ◌-◌, ◌*◌, ◌/◌, ◌<◌, ◌≤◌, refl, arith}
use Rattle.bmp_levels.proofs.RemainderLemmas.{quotient_fits, remainder_low, remainder_high}
use Rattle.bmp_levels.proofs.sums.remainder.Goals as goal

pub overflow_sub-rest : goal.overflow_sub-rest
overflow_sub-rest c =
    let small : c.from-number.result < 65536 = omega (arith, c.from-number.ensures) in
    rw (c.requires.reciprocal, c.from.ensures) (quotient_fits c.args.p c.from-number.result c.requires.prime small)

pub returns-then-rest-from : goal.returns-then-rest-from
returns-then-rest-from c =
    let n = c.args.sum in
    let p = c.args.p in
    let is : c.from-number.result - c.from-number.result * c.args.reciprocal / 65536 * c.from.result
    ≡ c.args.sum - c.args.sum * (65536 / c.args.p) / 65536 * c.args.p =
    rw (c.from-number.ensures, c.requires.reciprocal, c.from.ensures) refl in
    remainder_low p n c.requires.prime c.ranges.sum.fits _ is (omega (arith, c.if-rest-from.true, c.from-2.ensures))

pub returns-else-rest-from : goal.returns-else-rest-from
returns-else-rest-from c =
    let n = c.args.sum in
    let p = c.args.p in
    let is : c.from-number.result - c.from-number.result * c.args.reciprocal / 65536 * c.from.result
    ≡ c.args.sum - c.args.sum * (65536 / c.args.p) / 65536 * c.args.p =
    rw (c.from-number.ensures, c.requires.reciprocal, c.from.ensures) refl in
    let high : c.args.p ≤ c.from-number.result - c.from-number.result * c.args.reciprocal / 65536 * c.from.result =
    omega (arith, c.if-rest-from.false, c.from-2.ensures) in
    rw c.from-else-rest-from.ensures (remainder_high p n c.requires.prime c.ranges.sum.fits _ is high)
