use Rattle.bmp_weyl.proofs.ReflectionLemmas.{reflection_changes_length}
use Rattle.bmp_weyl.proofs.laws.reflection_changes_length.Goals as goal

pub returns : goal.returns
returns c m roots system q is u w first second same =
    reflection_changes_length m roots system q is u w first second same
