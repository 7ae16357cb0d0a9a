-- The restriction of a tuple to fewer vertices, by the numbers at positions. In the order to read:
--   in_set tests y             the vertex y is in the set that has these tests
--   IsWithin small large       each vertex of the small set is in the large one
--   AreThere s tests           the stalks at the vertices of the set are there
--   set_count s tests d        how many positions there are over the set
--   IsRestriction ..           at each vertex of `to`, v has the numbers over `to` that t has over `from`
--   IsSameTuple ..             the two tuples have the same element of the stalk there
--   StaysSection ..            where the tuple over `from` is a section, that over `to` is one
use Rattle.std.specs.Prelude.{◌≡◌, ℕ, ◌+◌, ◌<◌, Bool, false, List, IsTrue, slice_index_or}
use Rattle.bmp_linear.specs.declared.vector.Entry.{Entry}
use Rattle.bmp_linear.specs.SparseVectors.{number_at}
use Rattle.bmp_graph.specs.Graph.{Graph, vertex_count}
use Rattle.bmp_sheaf.specs.Elements.{SameElement}
use Rattle.bmp_sheaf.specs.Sheaves.{SheafData}
use Rattle.bmp_sheaf.specs.Coordinates.{stalk_count}
use Rattle.bmp_sheaf.specs.States.{SheafState, IsThere, sheaf_of}
use Rattle.bmp_sections.specs.Sections.{IsSection}
use Rattle.bmp_sections.specs.Positions.{position_start, position_count, tuple_of}

abbrev pub in_set : List Bool → ℕ → Bool
in_set tests y = slice_index_or tests y false

abbrev pub IsWithin : List Bool → List Bool → Type 0
IsWithin small large = (y : ℕ) → IsTrue (in_set small y) → IsTrue (in_set large y)

abbrev pub AreThere : {A : Type 0} → SheafState A → List Bool → Type 0
AreThere s tests = (y : ℕ) → IsTrue (in_set tests y) → IsThere s y

abbrev pub set_count : {A : Type 0} → SheafState A → List Bool → ℕ → ℕ
set_count s tests d = position_count s.graph (sheaf_of s) (in_set tests) d

module _ (G : Graph) (F : SheafData) (d : ℕ) (from to : List Bool) (t v : List Entry) where
  abbrev pub IsRestriction : Type 0
  IsRestriction =
      (y i : ℕ) → y < vertex_count G → IsTrue (in_set to y) → i < stalk_count G.rank (F.degrees y) d →
      number_at v (position_start G F (in_set to) d y + i) ≡ number_at t (position_start G F (in_set from) d y + i)

  abbrev pub IsSameTuple : Type 0
  IsSameTuple =
      (y : ℕ) → y < vertex_count G → IsTrue (in_set to y) →
      SameElement G.prime G.rank (F.degrees y) d (tuple_of G F (in_set to) d (number_at v) y)
      (tuple_of G F (in_set from) d (number_at t) y)

  abbrev pub StaysSection : Type 0
  StaysSection =
      IsSection G F (λ y. IsTrue (in_set from y)) d (tuple_of G F (in_set from) d (number_at t)) →
      IsSection G F (λ y. IsTrue (in_set to y)) d (tuple_of G F (in_set to) d (number_at v))
