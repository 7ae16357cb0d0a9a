-- Tuples whose combinations stand for all sections over the vertices above x, in degree d. In the order to read:
--   combined_tuple c t n         the combination of the first n tuples of t, with the numbers c
--   CatchAll G F x d t n         each section over the vertices above x has the boundary of a combination of the tuples
--   AreSections G F x d t n      the tuples are sections over the vertices above x
--   AreCovers G F x d t n u      the element u j has the boundary of the tuple t j
--   HaveSources G F x d t n      each generator of degree d has the boundary of a combination of the tuples
--   generator_place G F x d g    the coordinate of the generator g, of degree d, among those of the stalk
--   HaveDuals G F x d            each generator of degree d has a form that is 1 on its own boundary, and 0 on those of
--                                the stalk's other units
-- Tuples and elements are read at the numbers below n.
use Rattle.std.specs.Prelude.{◌≡◌, ℕ, ◌*◌, ◌%◌, ◌<◌, length, slice_index}
use Rattle.bmp_math.specs.Sums.{sum_below}
use Rattle.bmp_math.specs.Vectors.{unit}
use Rattle.bmp_math.specs.Matrices.{combination}
use Rattle.bmp_poly.specs.Exponents.{zeros}
use Rattle.bmp_graph.specs.Graph.{Graph}
use Rattle.bmp_sheaf.specs.Elements.{Element}
use Rattle.bmp_sheaf.specs.Units.{unit_element}
use Rattle.bmp_sheaf.specs.Sheaves.{SheafData, Tuple, boundary_of_element, boundary_of_tuple, SameBoundary}
use Rattle.bmp_sheaf.specs.Coordinates.{stalk_count, stalk_place}
use Rattle.bmp_sheaf.specs.Numbers.{boundary_matrix}
use Rattle.bmp_sections.specs.Sections.{IsSection, above}

abbrev pub combined_tuple : (ℕ → ℕ) → (ℕ → Tuple) → ℕ → Tuple
combined_tuple c t n y g m = sum_below (λ j. c j * t j y g m) n

module _ (G : Graph) (F : SheafData) (x d : ℕ) (t : ℕ → Tuple) (n : ℕ) where
  abbrev pub CatchAll : Type 0
  CatchAll =
      (s : Tuple) → IsSection G F (above G x) d s →
      (c : ℕ → ℕ) × SameBoundary G F x d (boundary_of_tuple G s) (boundary_of_tuple G (combined_tuple c t n))

  abbrev pub AreSections : Type 0
  AreSections = (j : ℕ) → j < n → IsSection G F (above G x) d (t j)

  abbrev pub AreCovers : (ℕ → Element) → Type 0
  AreCovers u = (j : ℕ) → j < n → SameBoundary G F x d (boundary_of_element G F d (u j)) (boundary_of_tuple G (t j))

  abbrev pub HaveSources : Type 0
  HaveSources =
      (g : ℕ) → g < length (F.degrees x) → slice_index (F.degrees x) g ≡ d →
      (a : ℕ → ℕ) × SameBoundary G F x d (boundary_of_element G F d (unit_element g))
      (boundary_of_tuple G (combined_tuple a t n))

module _ (G : Graph) (F : SheafData) (x d : ℕ) where
  -- that of the constant
  abbrev pub generator_place : ℕ → ℕ
  generator_place g = stalk_place G.rank (F.degrees x) d g (zeros 6)

  -- the columns of the boundary matrix are the boundaries of the stalk's units
  abbrev pub HaveDuals : Type 0
  HaveDuals =
      (g : ℕ) → g < length (F.degrees x) → slice_index (F.degrees x) g ≡ d →
      (form : ℕ → ℕ)
      × ((j : ℕ) → j < stalk_count G.rank (F.degrees x) d →
      combination form (boundary_matrix G F x d).entry (boundary_matrix G F x d).rows j
      % G.prime ≡ unit (generator_place g) j)
