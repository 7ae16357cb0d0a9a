-- An edge module, as it is worked in.
--   lower_map_on t s d from lifts     the map from the lower stalk, with generators of the degrees `from`, to the
--                                     module s modulo the label of the table t, in degree d
--   AreImagesOf is_element degree coordinate numbers rows gs u es
--                                     the elements es, one for each of the degrees gs, have the numbers of the elements
--                                     u
use Rattle.std.specs.Prelude.{◌≡◌, ℕ, ◌<◌, List, length, slice_index}
use Rattle.bmp_math.specs.Matrices.{Matrix}
use Rattle.bmp_linear.specs.declared.vector.Entry.{Entry}
use Rattle.bmp_poly.specs.Labels.{prime_of, leading_of, coordinate_of}
use Rattle.bmp_module.specs.declared.free.Free.{Free}
use Rattle.bmp_module.specs.FreeModules.{rank_of, degrees_of}
use Rattle.bmp_module.specs.Images.{AreImages, image_coordinates}
use Rattle.bmp_module.specs.declared.normal_table.NormalTable.{NormalTable}
use Rattle.bmp_sheaf.specs.Elements.{Element}
use Rattle.bmp_sheaf.specs.EdgeMaps.{lower_map}
use Rattle.bmp_module.specs.NormalTables.{label_of}

module _ (t : NormalTable) (s : Free) (d : ℕ) where
  abbrev pub lower_map_on : List ℕ → List (List Entry) → Matrix
  lower_map_on from lifts =
      lower_map (prime_of (label_of t)) (rank_of s) (coordinate_of (label_of t)) (leading_of (label_of t)) from
      (degrees_of s) lifts d

pub record AreImagesOf {E : Type 0} (is_element : E → Type 0) (degree : E → ℕ) (coordinate : E → ℕ → ℕ)
    (numbers : ℕ → Element → ℕ → ℕ) (rows : ℕ → ℕ) (gs : List ℕ) (u : ℕ → Element) (es : List E) : Type 0 where
  pub images : AreImages is_element degree gs es
  pub each : (h i : ℕ) → h < length gs → i < rows (slice_index gs h) → image_coordinates coordinate es h i
      ≡ numbers (slice_index gs h) (u h) i
