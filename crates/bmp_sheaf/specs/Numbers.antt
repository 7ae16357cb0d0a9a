-- Coordinates as numbers modulo the prime, and the maps of a sheaf as matrices. In the order to read:
--   edge_number p r c l degrees d a i  coordinate i of the element a, of degree d, in the edge module: generator after
--                                      generator
--   on_edge G F d e a i                the same on the edge e, of an element at its upper end
--   boundary_number G F x d b k        coordinate k of the boundary b at x: edge after edge going up from x
--   unit_at r degrees d j              the element of degree d that is 1 at coordinate j and 0 at the others
--   lower_number G F d e i j           coordinate i on e of the lift of the lower stalk's element that is 1 at
--                                      coordinate j
--   upper_number G F d e i j           coordinate i on e of the upper stalk's element that is 1 at coordinate j
--   lower_matrix, upper_matrix         the two maps to the edge module of e: a row for each of its coordinates
--   boundary_matrix G F x d            the boundary map: a row for each boundary coordinate, a column for each stalk
--                                      coordinate
use Rattle.std.specs.Prelude.{ℕ, ◌-◌, ◌==◌, if◌then◌else◌, List, length, slice_index}
use Rattle.bmp_math.specs.Blocks.{joined}
use Rattle.bmp_math.specs.Vectors.{unit}
use Rattle.bmp_math.specs.Matrices.{Matrix}
use Rattle.bmp_module.specs.Tables.{normal_number}
use Rattle.bmp_graph.specs.Graph.{Graph, edge_count, lower, upper, label}
use Rattle.bmp_sheaf.specs.Elements.{Element}
use Rattle.bmp_sheaf.specs.Sheaves.{SheafData, Boundary, lift_of, boundary_of_element}
use Rattle.bmp_sheaf.specs.Coordinates.{component_count, stalk_count, element_of, leading, edge_module_count, boundary_count}

abbrev pub edge_number : ℕ → ℕ → (ℕ → ℕ) → ℕ → List ℕ → ℕ → Element → ℕ → ℕ
edge_number p r c l degrees d a =
    joined (λ g. component_count (r - 1) d (slice_index degrees g))
    (λ g. normal_number p r c l (d - slice_index degrees g) (a g)) (length degrees)

abbrev pub unit_at : ℕ → List ℕ → ℕ → ℕ → Element
unit_at r degrees d j = element_of r degrees d (unit j)

module _ (G : Graph) (F : SheafData) where
  abbrev pub on_edge : ℕ → ℕ → Element → ℕ → ℕ
  on_edge d e a = edge_number G.prime G.rank (label G e) (leading G e) (F.degrees (upper G e)) d a

  abbrev pub boundary_number : ℕ → ℕ → Boundary → ℕ → ℕ
  boundary_number x d b =
      joined (λ e. if lower G e == x then edge_module_count G F d e else 0) (λ e. on_edge d e (b e)) (edge_count G)

  abbrev pub lower_number : ℕ → ℕ → ℕ → ℕ → ℕ
  lower_number d e i j = on_edge d e (lift_of G F e d (unit_at G.rank (F.degrees (lower G e)) d j)) i

  abbrev pub upper_number : ℕ → ℕ → ℕ → ℕ → ℕ
  upper_number d e i j = on_edge d e (unit_at G.rank (F.degrees (upper G e)) d j) i

  abbrev pub lower_matrix : ℕ → ℕ → Matrix
  lower_matrix d e =
      record {
        rows = edge_module_count G F d e;
        cols = stalk_count G.rank (F.degrees (lower G e)) d;
        entry = lower_number d e;
      }

  abbrev pub upper_matrix : ℕ → ℕ → Matrix
  upper_matrix d e =
      record {
        rows = edge_module_count G F d e;
        cols = stalk_count G.rank (F.degrees (upper G e)) d;
        entry = upper_number d e;
      }

  abbrev pub boundary_matrix : ℕ → ℕ → Matrix
  boundary_matrix x d = record {
    rows = boundary_count G F x d;
    cols = stalk_count G.rank (F.degrees x) d;
    entry = λ k j. boundary_number x d (boundary_of_element G F d (unit_at G.rank (F.degrees x) d j)) k;
  }
