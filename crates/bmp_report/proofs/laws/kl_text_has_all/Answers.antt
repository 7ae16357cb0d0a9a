use Rattle.bmp_report.proofs.TableLemmas.{has_all}
use Rattle.bmp_report.proofs.laws.kl_text_has_all.Goals as goal

pub returns : goal.returns
returns c = has_all
