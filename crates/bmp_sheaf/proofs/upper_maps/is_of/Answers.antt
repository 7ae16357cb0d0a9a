use Rattle.std.proofs.Common.{rules}
use Rattle.bmp_sheaf.proofs.upper_maps.is_of.Goals as goal

pub returns-then-same_label : goal.returns-then-same_label
returns-then-same_label c = search rules
