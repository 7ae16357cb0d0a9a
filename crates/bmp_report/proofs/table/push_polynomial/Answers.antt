use Rattle.std.proofs.Common.{◌≡◌, ◌+◌, ◌-◌, ◌++◌, ℤ, pos, ap, ◌∙◌, w32, w64, FitsSigned, rules, arith}
use Rattle.std.proofs.lemmas.Int.{to_z-of_z}
use Rattle.bmp_text.specs.Printing.{spaced_words}
use Rattle.bmp_kl.specs.KlTables.{coefficient_of}
use Rattle.bmp_report.specs.TableText.{coefficient_words}
use Rattle.bmp_report.proofs.MatrixLemmas.{range_lists_on, range_lists_end}
use Rattle.bmp_report.proofs.table.push_polynomial.Goals as goal

pub exponents-preserved : goal.exponents-preserved
exponents-preserved c =
    let fits : FitsSigned w32 c.signed.result = search rules in
    let fits_again : FitsSigned w64 c.coefficient-coefficient.result = search rules in
    let is : c.coefficient-coefficient.result ≡ coefficient_of c.args.table.now c.args.x (pos c.exponents.e) =
    c.coefficient-coefficient.ensures
    ∙ ap (λ (e : ℤ). coefficient_of c.args.table.now c.args.x e) (to_z-of_z w32 c.signed.result fits
    ∙ c.signed.ensures) in
    let printed : c.push_coefficient.new.out.items ≡ c.exponents.out.items ++ spaced_words
    (coefficient_words c.exponents.e (coefficient_of c.args.table.now c.args.x (pos c.exponents.e))) =
    c.in_ok-push_coefficient.ensures
    ∙ ap (λ (z : ℤ). c.exponents.out.items ++ spaced_words (coefficient_words c.exponents.e z))
    (to_z-of_z w64 c.coefficient-coefficient.result fits_again ∙ is) in
    rw printed
    (range_lists_on (λ e. coefficient_words e (coefficient_of c.args.table.now c.args.x (pos e))) c.exponents.out.items
    _
    c.exponents.e (37 - c.exponents.e) (37 - (c.exponents.e + 1)) (omega arith) c.exponents.invariant)

pub returns : goal.returns
returns c =
    range_lists_end (λ e. coefficient_words e (coefficient_of c.args.table.now c.args.x (pos e))) c.exponents.out.items
    _
    c.exponents.e (37 - c.exponents.e) (omega (arith, c.exponents-test.false)) c.exponents.invariant
