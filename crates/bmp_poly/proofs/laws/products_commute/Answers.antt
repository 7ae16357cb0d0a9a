use Rattle.bmp_poly.proofs.ProductLemmas.{product-comm}
use Rattle.bmp_poly.proofs.laws.products_commute.Goals as goal

pub returns : goal.returns
returns c = product-comm
