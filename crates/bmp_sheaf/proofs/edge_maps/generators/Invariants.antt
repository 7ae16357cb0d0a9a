use Rattle.std.proofs.Common.{◌-◌, get_or}
use Rattle.bmp_poly.specs.Coefficients.{coefficient}
use Rattle.bmp_graded.specs.Quotients.{quotient}
use Rattle.bmp_module.specs.Elements.{IsElement}
use Rattle.bmp_sheaf.specs.Units.{unit_element}
use Rattle.bmp_sheaf.specs.Coordinates.{stalk_count}
use Rattle.bmp_sheaf.specs.Numbers.{edge_number}
use Rattle.bmp_sheaf.proofs.EdgeImages.{AreImagesBelow}
use Rattle.bmp_sheaf.proofs.edge_maps.generators.Given as goal

-- the images so far
abbrev pub invariant-loop-g : goal.invariant-loop-g
invariant-loop-g g l =
    AreImagesBelow
    (λ e. IsElement (g.F.Field.is_value l.fn.f)
    (quotient l.fn.quotient.label.prime (l.fn.quotient.label.rank - 1) l.fn.quotient.label.leading
    (λ k. get_or l.fn.quotient.label.coords k 0) l.fn.quotient.free.degrees.items) e.degree e.numbers.items)
    (λ e. e.degree) (λ e. coefficient (g.F.Field.num l.fn.f) e.numbers.items)
    (edge_number l.fn.quotient.label.prime l.fn.quotient.label.rank (λ k. get_or l.fn.quotient.label.coords k 0)
    l.fn.quotient.label.leading l.fn.quotient.free.degrees.items)
    (stalk_count (l.fn.quotient.label.rank - 1) l.fn.quotient.free.degrees.items) l.fn.quotient.free.degrees.items
    unit_element l.g l.images.items
