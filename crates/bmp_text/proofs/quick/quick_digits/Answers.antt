use Rattle.std.proofs.Common.{◌≡◌, ℕ, ◌+◌, ◌*◌, ◌<◌, ◌≤◌, length, get_or, ap, sym, ◌∙◌, ◌++◌, arith, rules}
use Rattle.std.specs.Fmt.{decimal}
use Rattle.std.specs.Int.{IsInRange}
use Rattle.std.proofs.lemmas.Int.Digits.{digits_value_more}
use Rattle.std.proofs.lemmas.Str.{digit_value_digit}
use Rattle.bmp_text.proofs.QuickLemmas.{digits_on, digits_first}
use Rattle.bmp_text.proofs.quick.quick_digits.Goals.{then-size-gt1, else-size-gt1}
use Rattle.bmp_text.proofs.quick.quick_digits.Goals as goal

pub digits-preserved : goal.digits-preserved
digits-preserved c =
    let v = c.digits.invariant in
    let bs = c.args.bytes.now in
    let i = c.digits.size in
    let lt : i < length bs = c.digits-test.true in
    let one : IsInRange 48 57 (get_or bs i 0) = search rules in
    record {
      digits = digits_on bs i lt v.digits one;
      value = omega (
        arith,
        digits_value_more 10 bs i lt,
        c.from.ensures,
        v.value,
        digit_value_digit (get_or bs i 0) one,
      );
      small = omega (arith, c.from.ensures);
      within = omega arith;
    }

pub returns-clause-digits : goal.returns-clause-digits
returns-clause-digits c =
    let v = c.digits.invariant in
    let bs = c.args.bytes.now in
    let i = c.digits.size in
    let some : 0 < i = omega arith in
    let lead : get_or bs 0 0 ≡ 48 → i ≤ 1 = λ e. elim c.if-size-gt1.branch [
      | then-size-gt1 w ↦ absurd (search (rules, w.value-is))
      | else-size-gt1 w ↦ omega (arith, w.if-size-gt1.false)
    ] in
    digits_first bs i c.digits.n some v.within v.digits v.value v.small lead
    ∙ ap (λ t. decimal c.digits.n ++ t) (sym c.split_at.ensures.back)
