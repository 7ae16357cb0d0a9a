use Rattle.bmp_poly.proofs.ProductLemmas.{product-assoc}
use Rattle.bmp_poly.proofs.laws.products_associate.Goals as goal

pub returns : goal.returns
returns c = product-assoc
