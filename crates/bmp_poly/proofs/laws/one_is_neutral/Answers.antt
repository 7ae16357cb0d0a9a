use Rattle.bmp_poly.proofs.ProductLemmas.{product-one}
use Rattle.bmp_poly.proofs.laws.one_is_neutral.Goals as goal

pub returns : goal.returns
returns c = product-one
