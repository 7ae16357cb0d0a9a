use Rattle.std.proofs.Common.{sym, ap, ◌∙◌}
use Rattle.bmp_text.specs.Numerals.{numeral_value}
use Rattle.bmp_text.proofs.NumeralLemmas.{spelled_takes, spelled_again}
use Rattle.bmp_text.proofs.laws.one_form.Goals as goal

pub returns : goal.returns
returns c = λ w z fits. (λ e. sym (spelled_takes w z e fits), λ e. ap numeral_value e ∙ spelled_again z fits)
