use Rattle.bmp_report.proofs.SummaryLemmas.{of_ranks}
use Rattle.bmp_report.proofs.laws.summary_of_ranks.Goals as goal

pub returns : goal.returns
returns c = of_ranks
