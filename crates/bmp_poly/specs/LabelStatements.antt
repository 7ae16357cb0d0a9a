-- The law of labels, as a statement.
--   LabelsOfOneForm    two labels with the same prime, rank and coordinates are equal
use Rattle.std.specs.Prelude.{◌≡◌}
use Rattle.bmp_poly.specs.Labels.{prime_of, rank_of, coordinates_of}
use Rattle.bmp_poly.specs.declared.label.Label.{Label}

abbrev pub LabelsOfOneForm : Type 0
LabelsOfOneForm = (x y : Label) → prime_of x ≡ prime_of y → rank_of x ≡ rank_of y →
    coordinates_of x ≡ coordinates_of y → x ≡ y
