use Rattle.std.proofs.Common.{arith, ◌+◌}
use Rattle.bmp_text.proofs.DigitLemmas.{digit_in, value_more, front_le}
use Rattle.bmp_text.proofs.number.digits_value.Goals as goal

pub returns-in_err-checked_mul : goal.returns-in_err-checked_mul
returns-in_err-checked_mul c =
    let ds = c.args.digits.now in let i = c.loop-digit.digit-index in
    rw c.from_residual.ensures
    (omega (
      arith,
      c.loop-digit.invariant,
      value_more ds i c.requires c.loop-digit-test.true,
      (digit_in ds i c.requires c.loop-digit-test.true).0,
      front_le ds (i + 1),
      c.in_err-checked_mul.ensures,
    ))

pub returns-in_err-n : goal.returns-in_err-n
returns-in_err-n c =
    let ds = c.args.digits.now in let i = c.loop-digit.digit-index in
    rw c.from_residual-in_err-n.ensures
    (omega (
      arith,
      c.loop-digit.invariant,
      value_more ds i c.requires c.loop-digit-test.true,
      (digit_in ds i c.requires c.loop-digit-test.true).0,
      front_le ds (i + 1),
      c.from.ensures,
      c.in_ok-checked_mul.ensures,
      c.in_err-n.ensures,
    ))

pub loop-digit-preserved : goal.loop-digit-preserved
loop-digit-preserved c =
    let ds = c.args.digits.now in let i = c.loop-digit.digit-index in
    omega (
      arith,
      c.loop-digit.invariant,
      value_more ds i c.requires c.loop-digit-test.true,
      (digit_in ds i c.requires c.loop-digit-test.true).0,
      c.from.ensures,
      c.in_ok-checked_mul.ensures,
      c.in_ok-n.ensures,
    )
