use Rattle.bmp_check.proofs.Soundness.{passed_is_braden_macpherson}
use Rattle.bmp_check.proofs.laws.passed_is_braden_macpherson.Goals as goal

pub returns : goal.returns
returns c = passed_is_braden_macpherson
