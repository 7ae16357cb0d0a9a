use Rattle.bmp_program.proofs.StatusLemmas.{one_status}
use Rattle.bmp_program.proofs.laws.one_status.Goals as goal

pub returns : goal.returns
returns c = one_status
