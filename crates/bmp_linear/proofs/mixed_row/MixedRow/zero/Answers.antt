use Rattle.std.proofs.Common.{ap}
use Rattle.bmp_linear.specs.KeptRows.{spread_numbers}
use Rattle.bmp_linear.proofs.mixed_row.MixedRow.zero.Goals as goal

pub returns : goal.returns
returns c = ap (spread_numbers c.args.cols) c.new.ensures.items
