use Rattle.bmp_report.proofs.RankLemmas.{ranks_lines}
use Rattle.bmp_report.proofs.laws.ranks_have_lines.Goals as goal

pub returns : goal.returns
returns c = ranks_lines
