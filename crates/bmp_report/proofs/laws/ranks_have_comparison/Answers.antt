use Rattle.bmp_report.proofs.CompareLemmas.{ranks_comparison}
use Rattle.bmp_report.proofs.laws.ranks_have_comparison.Goals as goal

pub returns : goal.returns
returns c = ranks_comparison
