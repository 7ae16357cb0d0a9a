use Rattle.std.proofs.Common.{◌≡◌, ◌++◌, ◌-◌, pos}
use Rattle.bmp_text.specs.Printing.{spaced_words, range_text}
use Rattle.bmp_kl.specs.KlTables.{coefficient_of}
use Rattle.bmp_report.specs.TableText.{coefficient_words, polynomial_words}
use Rattle.bmp_report.proofs.table.push_polynomial.Given as goal

abbrev pub invariant-exponents : goal.invariant-exponents
invariant-exponents l =
    l.out.items ++ spaced_words
    (range_text (λ e. coefficient_words e (coefficient_of l.table l.x (pos e))) l.e (37 - l.e))
    ≡ l.initial.out.items ++ spaced_words (polynomial_words (coefficient_of l.table l.x))
