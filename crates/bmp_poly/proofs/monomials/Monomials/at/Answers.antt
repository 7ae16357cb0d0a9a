use Rattle.bmp_poly.proofs.MonomialsLemmas.{listed_stands}
use Rattle.bmp_poly.proofs.monomials.Monomials.at.Goals as goal

pub returns : goal.returns
returns c =
    let stands = listed_stands c.args.self.now.rank c.args.self.now.degree c.args.i c.args.self.now.listing.items
    c.index.result.now c.args.self.now.listed c.requires c.index.ensures in
    record { monomial = stands.monomial; place = stands.place_is }
