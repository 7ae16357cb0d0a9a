use Rattle.bmp_report.proofs.CompareLemmas.{agrees_is_agreement}
use Rattle.bmp_report.proofs.laws.agrees_is_agreement.Goals as goal

pub returns : goal.returns
returns c = agrees_is_agreement
