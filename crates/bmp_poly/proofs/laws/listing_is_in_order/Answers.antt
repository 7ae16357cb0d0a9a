use Rattle.bmp_poly.proofs.ListingLemmas.{listed_in_order}
use Rattle.bmp_poly.proofs.laws.listing_is_in_order.Goals as goal

pub returns : goal.returns
returns c = listed_in_order
