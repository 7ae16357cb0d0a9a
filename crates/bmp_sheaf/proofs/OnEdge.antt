-- Coordinates on an edge of a graph: the laws of edge modules, for the edge's label.
use Rattle.std.proofs.Common.{◌≡◌, ℕ, ◌+◌, ◌*◌, ◌<◌}
use Rattle.bmp_math.specs.Sums.{sum_below}
use Rattle.bmp_math.specs.Vectors.{SameVector}
use Rattle.bmp_graph.specs.Graph.{Graph, edge_count, upper, label}
use Rattle.bmp_sheaf.specs.Fields.{IsOverField}
use Rattle.bmp_sheaf.specs.Elements.{Element, SameElement, zero_element}
use Rattle.bmp_sheaf.specs.Sheaves.{SheafData, EqualOnEdge}
use Rattle.bmp_sheaf.specs.Coordinates.{leading, edge_module_count, AreEdgeCoordinates}
use Rattle.bmp_sheaf.specs.Numbers.{on_edge}
use Rattle.bmp_sheaf.proofs.EdgeLabels.{label_coordinates, label_leads}
use Rattle.bmp_sheaf.proofs.EdgeNumbers.{edge_number_below, are_edge_coordinates, edge_numbers_same, same_edge_numbers, edge_number_respects, edge_number-plus, edge_number-times, edge_number-zero, edge_number-combination}

module _ (G : Graph) (over : IsOverField G) (F : SheafData) (d e : ℕ) (inside : e < edge_count G) where
  pub on_edge_below : (a : Element) (i : ℕ) → on_edge G F d e a i < G.prime
  on_edge_below a i =
      edge_number_below G.prime G.rank (leading G e) (label_coordinates G e) over.two over.inverses
      (label_leads G over e inside) (F.degrees (upper G e)) d a i

  pub on_edge_are_coordinates :
      (a : Element) → AreEdgeCoordinates G.prime G.rank (label G e) (leading G e) (F.degrees (upper G e)) d a
      (on_edge G F d e a)
  on_edge_are_coordinates a =
      are_edge_coordinates G.prime G.rank (leading G e) (label_coordinates G e) over.two over.inverses
      (label_leads G over e inside) (F.degrees (upper G e)) d a

  -- equal on the edge exactly where the coordinates are the same
  pub on_edge_same : (a b : Element) → EqualOnEdge G F e d a b → (i : ℕ) → i < edge_module_count G F d e →
      on_edge G F d e a i ≡ on_edge G F d e b i
  on_edge_same a b h =
      edge_numbers_same G.prime G.rank (leading G e) (label_coordinates G e) over.two over.inverses
      (label_leads G over e inside) (F.degrees (upper G e)) d a b h

  pub same_on_edge : (a b : Element) →
      ((i : ℕ) → i < edge_module_count G F d e → on_edge G F d e a i ≡ on_edge G F d e b i) → EqualOnEdge G F e d a b
  same_on_edge a b same =
      same_edge_numbers G.prime G.rank (leading G e) (label_coordinates G e) over.two over.inverses
      (label_leads G over e inside) (F.degrees (upper G e)) d a b same

  pub on_edge_respects : (a b : Element) → SameElement G.prime G.rank (F.degrees (upper G e)) d a b →
      (i : ℕ) → i < edge_module_count G F d e → on_edge G F d e a i ≡ on_edge G F d e b i
  on_edge_respects a b same =
      edge_number_respects G.prime G.rank (leading G e) (label_coordinates G e) over.two over.inverses
      (label_leads G over e inside) (F.degrees (upper G e)) d a b same

  -- linear in the element
  pub on_edge-plus :
      (a b : Element) → SameVector G.prime (edge_module_count G F d e) (on_edge G F d e (λ g m. a g m + b g m))
      (λ i. on_edge G F d e a i + on_edge G F d e b i)
  on_edge-plus a b =
      edge_number-plus G.prime G.rank (leading G e) (label_coordinates G e) over.two over.inverses
      (label_leads G over e inside) (F.degrees (upper G e)) d a b

  pub on_edge-times :
      (x : ℕ) (a : Element) → SameVector G.prime (edge_module_count G F d e) (on_edge G F d e (λ g m. x * a g m))
      (λ i. x * on_edge G F d e a i)
  on_edge-times x a =
      edge_number-times G.prime G.rank (leading G e) (label_coordinates G e) over.two over.inverses
      (label_leads G over e inside) (F.degrees (upper G e)) d x a

  pub on_edge-zero : (i : ℕ) → i < edge_module_count G F d e → on_edge G F d e zero_element i ≡ 0
  on_edge-zero = edge_number-zero G.prime G.rank (leading G e) (label_coordinates G e) over.two over.inverses
      (label_leads G over e inside) (F.degrees (upper G e)) d

  pub on_edge-combination : (c : ℕ → ℕ) (a : ℕ → Element) (n : ℕ) →
      SameVector G.prime (edge_module_count G F d e) (on_edge G F d e (λ g m. sum_below (λ j. c j * a j g m) n))
      (λ i. sum_below (λ j. c j * on_edge G F d e (a j) i) n)
  on_edge-combination c a n =
      edge_number-combination G.prime G.rank (leading G e) (label_coordinates G e) over.two over.inverses
      (label_leads G over e inside) (F.degrees (upper G e)) d c a n
