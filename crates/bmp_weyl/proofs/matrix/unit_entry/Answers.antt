use Rattle.std.proofs.Common.{◌∙◌, ap, sym}
use Rattle.bmp_math.specs.IntegerSums.{integer_unit}
use Rattle.bmp_math.proofs.IntegerSumLemmas.{unit_at, unit_off}
use Rattle.bmp_weyl.proofs.matrix.unit_entry.Goals as goal

pub returns-then-i-j-clause-value : goal.returns-then-i-j-clause-value
returns-then-i-j-clause-value c = sym (ap (integer_unit c.args.j) c.if-i-j.true ∙ unit_at c.args.j)

pub returns-else-i-j-clause-value : goal.returns-else-i-j-clause-value
returns-else-i-j-clause-value c = sym (unit_off c.args.j c.args.i c.if-i-j.false)
