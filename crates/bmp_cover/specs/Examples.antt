-- The smallest sheaves. In the order to read:
--   IsPoint G                    G has one vertex and no edge
--   IsLine G                     G has two vertices, of lengths 0 and 1, and one edge, from 0 up to 1
--   unit_sheaf                   one generator of degree 0 at each vertex, and the lift 1 on each edge
--   surplus_sheaf                the same with a second generator of degree 0 at vertex 0, whose lifts are 0
--   missing_sheaf                the same without a generator at vertex 0
--   IsTriangle G                 G has three vertices, of lengths 0, 1 and 2, and an edge up between any two
--   split_sheaf                  on the triangle, two generators of degree 0 at vertex 0, the lift 1 of each on one
--                                edge, and 0 on the other
--   PointIsBradenMacPherson, LineIsBradenMacPherson     the unit sheaf is one on the point and on the line, up to each
--                                                       degree
--   LineCountsAreDimensions      the counts of the unit sheaf on the line are dimensions
--   SplitIsNotReached, SplitIsLifted, SplitIsMinimal         of the three conditions the split sheaf breaks the first
--   alone
--   MissingIsReached, MissingIsNotLifted, MissingIsMinimal   on the line the missing sheaf breaks the second alone
--   SurplusIsReached, SurplusIsLifted, SurplusIsNotMinimal   and the surplus sheaf the third alone
use Rattle.std.specs.Prelude.{◌≡◌, ℕ, ◌≤◌, ◌==◌, if◌then◌else◌, [], ◌∷◌}
use Rattle.bmp_graph.specs.Graph.{Graph, vertex_count, edge_count, lower, upper}
use Rattle.bmp_sheaf.specs.Sheaves.{SheafData}
use Rattle.bmp_sections.specs.Sections.{IsReached, IsLifted, IsMinimal}
use Rattle.bmp_cover.specs.BradenMacPherson.{IsBradenMacPherson}
use Rattle.bmp_cover.specs.Counts.{CountsAreDimensions}

pub record IsPoint (G : Graph) : Type 0 where
  pub one_vertex : vertex_count G ≡ 1
  pub no_edge : edge_count G ≡ 0

-- in rank 1 the label is a multiple of the one variable, and it does not matter which
pub record IsLine (G : Graph) : Type 0 where
  pub prime : 2 ≤ G.prime
  pub rank : G.rank ≡ 1
  pub vertices : G.lengths ≡ 0 ∷ 1 ∷ []
  pub one_edge : edge_count G ≡ 1
  pub lower_end : lower G 0 ≡ 0
  pub upper_end : upper G 0 ≡ 1

abbrev pub unit_sheaf : SheafData
unit_sheaf = record { degrees = λ x. 0 ∷ []; lift = λ e g h m. 1 }

abbrev pub surplus_sheaf : SheafData
surplus_sheaf = record {
  degrees = λ x. if x == 0 then 0 ∷ 0 ∷ [] else 0 ∷ [];
  lift = λ e g h m. if g == 0 then 1 else 0;
}

abbrev pub missing_sheaf : SheafData
missing_sheaf = record { degrees = λ x. if x == 0 then [] else 0 ∷ []; lift = λ e g h m. 1 }

pub record IsTriangle (G : Graph) : Type 0 where
  pub prime : 2 ≤ G.prime
  pub rank : G.rank ≤ 6
  pub vertices : G.lengths ≡ 0 ∷ 1 ∷ 2 ∷ []
  pub three_edges : edge_count G ≡ 3
  pub first_lower : lower G 0 ≡ 0
  pub first_upper : upper G 0 ≡ 1
  pub second_lower : lower G 1 ≡ 0
  pub second_upper : upper G 1 ≡ 2
  pub third_lower : lower G 2 ≡ 1
  pub third_upper : upper G 2 ≡ 2

-- the edges 0 and 1 go up from vertex 0
abbrev pub split_sheaf : SheafData
split_sheaf = record {
  degrees = λ x. if x == 0 then 0 ∷ 0 ∷ [] else 0 ∷ [];
  lift = λ e g h m. if e == 2 then 1 else (if g == e then 1 else 0);
}

abbrev pub PointIsBradenMacPherson : Type 0
PointIsBradenMacPherson = (G : Graph) (most : ℕ) → IsPoint G → IsBradenMacPherson G unit_sheaf most 0

abbrev pub LineIsBradenMacPherson : Type 0
LineIsBradenMacPherson = (G : Graph) (most : ℕ) → IsLine G → IsBradenMacPherson G unit_sheaf most 1

abbrev pub LineCountsAreDimensions : Type 0
LineCountsAreDimensions = (G : Graph) (most : ℕ) → IsLine G → CountsAreDimensions G unit_sheaf most 1

abbrev pub SplitIsNotReached : Type 0
SplitIsNotReached = (G : Graph) → IsTriangle G → IsReached G split_sheaf 0 0 → ⊥

abbrev pub SplitIsLifted : Type 0
SplitIsLifted = (G : Graph) (d : ℕ) → IsTriangle G → IsLifted G split_sheaf 0 d

abbrev pub SplitIsMinimal : Type 0
SplitIsMinimal = (G : Graph) (d : ℕ) → IsTriangle G → IsMinimal G split_sheaf 0 d

abbrev pub MissingIsReached : Type 0
MissingIsReached = (G : Graph) (d : ℕ) → IsLine G → IsReached G missing_sheaf 0 d

abbrev pub MissingIsNotLifted : Type 0
MissingIsNotLifted = (G : Graph) → IsLine G → IsLifted G missing_sheaf 0 0 → ⊥

abbrev pub MissingIsMinimal : Type 0
MissingIsMinimal = (G : Graph) (d : ℕ) → IsLine G → IsMinimal G missing_sheaf 0 d

abbrev pub SurplusIsReached : Type 0
SurplusIsReached = (G : Graph) (d : ℕ) → IsLine G → IsReached G surplus_sheaf 0 d

abbrev pub SurplusIsLifted : Type 0
SurplusIsLifted = (G : Graph) (d : ℕ) → IsLine G → IsLifted G surplus_sheaf 0 d

abbrev pub SurplusIsNotMinimal : Type 0
SurplusIsNotMinimal = (G : Graph) → IsLine G → IsMinimal G surplus_sheaf 0 0 → ⊥
