use Rattle.std.proofs.Common.{refl}
use Rattle.bmp_weyl.proofs.ElementLemmas.{product_is, small_cells, product_fits, element_step}
use Rattle.bmp_weyl.proofs.elem.Elem.mul.Goals as goal

pub product_entries-requires-clause-x : goal.product_entries-requires-clause-x
product_entries-requires-clause-x c = small_cells c.requires.matrix c.requires.finite c.args.self.now c.requires.first

pub product_entries-requires-clause-y : goal.product_entries-requires-clause-y
product_entries-requires-clause-y c = small_cells c.requires.matrix c.requires.finite c.args.other.now c.requires.second

pub product_entries-requires-clause-fits : goal.product_entries-requires-clause-fits
product_entries-requires-clause-fits c = product_fits c.args.self.now c.args.other.now c.requires

pub returns-clause-product : goal.returns-clause-product
returns-clause-product c m u w form first second =
    product_is m form u w c.args.self.now c.args.other.now _ first second refl c.product_entries.ensures.places
    c.product_entries.ensures.cells

pub returns-clause-one_letter : goal.returns-clause-one_letter
returns-clause-one_letter c m roots k system element letter =
    element_step m roots system element.0 k c.args.self.now c.args.other.now _ element.1 letter
    (product_is m system.form element.0 _ c.args.self.now c.args.other.now _ element.1 letter refl
    c.product_entries.ensures.places c.product_entries.ensures.cells)
