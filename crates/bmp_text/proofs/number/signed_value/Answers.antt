use Rattle.std.proofs.Common.{rules, arith, ◌≡◌, true}
use Rattle.bmp_text.proofs.DigitLemmas.{nonzero_value}
use Rattle.bmp_text.specs.Numerals.{is_positive_numeral}
use Rattle.bmp_text.proofs.number.signed_value.Goals as goal

pub negative-requires : goal.negative-requires
negative-requires c = let h : is_positive_numeral c.args.digits.now ≡ true = search rules in
    omega (arith, c.in-Some.ensures, nonzero_value c.args.digits.now h)
