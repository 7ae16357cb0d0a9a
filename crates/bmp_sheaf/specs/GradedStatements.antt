-- Laws between the elements here and graded modules by coordinates, as statements.
--   StalksAreFreeModules         a stalk's coordinates are those of the free module: as many, and with the same
--                                polynomials
--   EdgeModulesAreQuotients      an edge has as many coordinates as the free module modulo the label
--   CongruentIsSameModulo        congruent by a label is equal modulo it
--   EdgeNumbersAreProjections    the numbers on an edge are the coordinates of the projection, modulo the prime
--   EdgeMapsAreModuleMaps        the maps from the stalks at both ends of an edge to its module are module maps
--   EdgeMatricesAreOfModuleMaps  the two matrices of an edge are the matrices of these module maps
use Rattle.std.specs.Prelude.{◌≡◌, ◌↔◌, ℕ, ◌-◌, ◌%◌, ◌<◌, List, length}
use Rattle.bmp_math.specs.Matrices.{SameMatrix}
use Rattle.bmp_graded.specs.Graded.{IsModuleMap}
use Rattle.bmp_graded.specs.Modules.{free}
use Rattle.bmp_graded.specs.Quotients.{quotient}
use Rattle.bmp_graded.specs.Maps.{projection}
use Rattle.bmp_graded.specs.Components.{component, IsSameModulo}
use Rattle.bmp_module.specs.Columns.{matrix_of_map}
use Rattle.bmp_graph.specs.Graph.{Graph, edge_count, lower, upper}
use Rattle.bmp_sheaf.specs.Fields.{IsOverField}
use Rattle.bmp_sheaf.specs.Elements.{CongruentElement}
use Rattle.bmp_sheaf.specs.Sheaves.{SheafData}
use Rattle.bmp_sheaf.specs.Coordinates.{stalk_count, element_of}
use Rattle.bmp_sheaf.specs.Numbers.{edge_number, lower_matrix, upper_matrix}
use Rattle.bmp_sheaf.specs.ModuleMaps.{stalk_module, edge_module, from_lower, from_upper}

abbrev pub StalksAreFreeModules : Type 0
StalksAreFreeModules =
    (r d : ℕ) (degrees : List ℕ) → ((free r degrees).dim d ≡ stalk_count r degrees d)
    × ((g : ℕ) (u : ℕ → ℕ) → g < length degrees → component r degrees g d u ≡ element_of r degrees d u g)

abbrev pub EdgeModulesAreQuotients : Type 0
EdgeModulesAreQuotients = (p r l d : ℕ) (c : ℕ → ℕ) (degrees : List ℕ) →
    (quotient p (r - 1) l c degrees).dim d ≡ stalk_count (r - 1) degrees d

abbrev pub CongruentIsSameModulo : Type 0
CongruentIsSameModulo =
    (p r d : ℕ) (c : ℕ → ℕ) (degrees : List ℕ) (u v : ℕ → ℕ) →
    IsSameModulo p r c degrees d u v ↔
    CongruentElement p r degrees c d (element_of r degrees d u) (element_of r degrees d v)

abbrev pub EdgeNumbersAreProjections : Type 0
EdgeNumbersAreProjections =
    (p r l d i : ℕ) (c : ℕ → ℕ) (degrees : List ℕ) (u : ℕ → ℕ) → 0 < r → i < stalk_count (r - 1) degrees d →
    edge_number p r c l degrees d (element_of r degrees d u) i ≡ projection p (r - 1) l c degrees d u i % p

pub record AreModuleMaps (G : Graph) (F : SheafData) (e : ℕ) : Type 0 where
  pub lower_one : IsModuleMap G.prime G.rank (stalk_module G F (lower G e)) (edge_module G F e) (from_lower G F e)
  pub upper_one : IsModuleMap G.prime G.rank (stalk_module G F (upper G e)) (edge_module G F e) (from_upper G F e)

abbrev pub EdgeMapsAreModuleMaps : Type 0
EdgeMapsAreModuleMaps = (G : Graph) (F : SheafData) (e : ℕ) → IsOverField G → e < edge_count G → AreModuleMaps G F e

pub record AreMatricesOfMaps (G : Graph) (F : SheafData) (d e : ℕ) : Type 0 where
  pub lower_one : SameMatrix (lower_matrix G F d e)
      (matrix_of_map G.prime (stalk_module G F (lower G e)) (edge_module G F e) (from_lower G F e) d)
  pub upper_one : SameMatrix (upper_matrix G F d e)
      (matrix_of_map G.prime (stalk_module G F (upper G e)) (edge_module G F e) (from_upper G F e) d)

abbrev pub EdgeMatricesAreOfModuleMaps : Type 0
EdgeMatricesAreOfModuleMaps = (G : Graph) (F : SheafData) (d e : ℕ) → IsOverField G → e < edge_count G →
    AreMatricesOfMaps G F d e
