use Rattle.std.proofs.Common.{arith}
use Rattle.bmp_cover.proofs.ExampleLemmas.{line}
use Rattle.bmp_cover.proofs.TopCounts.{counts_are_dimensions}
use Rattle.bmp_cover.specs.Examples.{unit_sheaf}
use Rattle.bmp_cover.proofs.examples.line_counts_are_dimensions.Goals as goal

pub returns : goal.returns
returns c G most is =
    counts_are_dimensions G unit_sheaf most 1 (omega (arith, is.prime)) (omega (arith, is.rank)) (line G is most)
