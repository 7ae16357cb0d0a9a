-- Where positions and equations over the vertices above x stand, in memory. In the order to read:
--   EquationPlace (declared)       an edge, and a coordinate of its edge module
--   SectionIndex (declared)        how many positions and equations there are; by vertex a start, and by equation a
--                                  place
--   AboveIsThere s x               the stalks at the vertices above x are there
--   HasRoom G F x d index          there is room for the vertices and for the equations, of which there are fewer than
--                                  2^32, as of positions
--   IsIndexed G F x d index        it has their numbers, at each vertex above x the start of its positions, and at each
--                                  equation its place
--   IsIndexedBelow G F x d n index the same of the vertices below n, and of the edges that go up from them
--   IsIndexFor s x d index         what is known where it is filled for x and d, of a sheaf in memory
use Rattle.std.specs.Prelude.{◌≡◌, ℕ, ◌+◌, ◌^◌, ◌<◌, ◌≤◌, IsTrue, length, slice_index, slice_get, Some}
use Rattle.bmp_graph.specs.Graph.{Graph, vertex_count, edge_count, lower}
use Rattle.bmp_sheaf.specs.Sheaves.{SheafData}
use Rattle.bmp_sheaf.specs.Coordinates.{edge_module_count}
use Rattle.bmp_sheaf.specs.Written.{first_edge}
use Rattle.bmp_sheaf.specs.States.{SheafState, IsThere, sheaf_of}
use Rattle.bmp_sections.specs.Positions.{position_start, position_count, equation_start, equation_count}
use Rattle.bmp_sections.specs.Numbers.{is_above}
use Rattle.bmp_sections.specs.declared.index.SectionIndex.{SectionIndex}

abbrev pub AboveIsThere : {A : Type 0} → SheafState A → ℕ → Type 0
AboveIsThere s x = (y : ℕ) → IsTrue (is_above s.graph x y) → IsThere s y

module _ (G : Graph) (F : SheafData) (x d : ℕ) where
  pub record HasRoom (index : SectionIndex) : Type 0 where
    pub vertices : vertex_count G ≤ length index.starts.items
    pub equations : equation_count G F (is_above G x) d ≤ length index.places.items
    pub few_positions : position_count G F (is_above G x) d < 2 ^ 32
    pub few_equations : equation_count G F (is_above G x) d < 2 ^ 32

  abbrev pub HasStart : SectionIndex → ℕ → Type 0
  HasStart index y = slice_index index.starts.items y ≡ position_start G F (is_above G x) d y

  abbrev pub HasPlace : SectionIndex → ℕ → ℕ → Type 0
  HasPlace index e i = slice_get index.places.items (equation_start G F (is_above G x) d e + i)
      ≡ Some (record { edge = e; coordinate = i })

  pub record IsIndexed (index : SectionIndex) : Type 0 where
    pub positions : index.positions ≡ position_count G F (is_above G x) d
    pub equations : index.equations ≡ equation_count G F (is_above G x) d
    pub few_positions : position_count G F (is_above G x) d < 2 ^ 32
    pub vertices_within : vertex_count G ≤ length index.starts.items
    pub equations_within : equation_count G F (is_above G x) d ≤ length index.places.items
    pub starts : (y : ℕ) → y < vertex_count G → IsTrue (is_above G x y) → HasStart index y
    pub places : (e i : ℕ) → e < edge_count G → IsTrue (is_above G x (lower G e)) → i < edge_module_count G F d e →
        HasPlace index e i

  -- while it is filled: the edges go up from the vertices below n
  pub record IsIndexedBelow (n : ℕ) (index : SectionIndex) : Type 0 where
    pub positions : index.positions ≡ position_start G F (is_above G x) d n
    pub equations : index.equations ≡ equation_start G F (is_above G x) d (first_edge G n)
    pub starts : (y : ℕ) → y < n → IsTrue (is_above G x y) → HasStart index y
    pub places : (e i : ℕ) → e < edge_count G → lower G e < n → IsTrue (is_above G x (lower G e)) →
        i < edge_module_count G F d e → HasPlace index e i

pub record IsIndexFor {A : Type 0} (s : SheafState A) (x d : ℕ) (index : SectionIndex) : Type 0 where
  pub vertex : x < vertex_count s.graph
  pub there : AboveIsThere s x
  pub degree : d ≤ s.degree
  pub indexed : IsIndexed s.graph (sheaf_of s) x d index
