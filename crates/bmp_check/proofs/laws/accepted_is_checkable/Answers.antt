use Rattle.bmp_check.proofs.AcceptedLemmas.{accepted_is_checkable}
use Rattle.bmp_check.proofs.laws.accepted_is_checkable.Goals as goal

pub returns : goal.returns
returns c = accepted_is_checkable
