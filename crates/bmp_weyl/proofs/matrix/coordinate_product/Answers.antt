use Rattle.std.proofs.Common.{arith}
use Rattle.std.proofs.lemmas.Int.{to_z-of_z}
use Rattle.bmp_math.proofs.IntegerLemmas.{product_within}
use Rattle.bmp_weyl.proofs.matrix.coordinate_product.Goals as goal

pub returns-clause-within : goal.returns-clause-within
returns-clause-within c = grind (arith, to_z-of_z, product_within 32 32 c.args.a c.args.b c.requires.a c.requires.b)
