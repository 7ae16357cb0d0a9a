-- The boundary map, from the coordinates of a stalk: it is linear, has its matrix, and there each edge has its own
-- rows.
use Rattle.std.proofs.Common.{◌≡◌, ℕ, ◌+◌, ◌*◌, ◌%◌, ◌<◌, refl, sym, ap, ap₂, subst, ◌∙◌}
use Rattle.std.proofs.Math.Nat.{mod-eq_of_lt}
use Rattle.bmp_math.specs.Congruences.{SameMod}
use Rattle.bmp_math.specs.Vectors.{unit, plus, scaled, IsLinear}
use Rattle.bmp_math.specs.Matrices.{NumbersBelow, image}
use Rattle.bmp_math.proofs.MatrixLemmas.{matrix_of_linear}
use Rattle.bmp_graph.specs.Graph.{Graph, edge_count, lower}
use Rattle.bmp_sheaf.specs.Fields.{IsOverField}
use Rattle.bmp_sheaf.specs.Elements.{Element}
use Rattle.bmp_sheaf.specs.Sheaves.{SheafData, boundary_of_element, lift_of}
use Rattle.bmp_sheaf.specs.Coordinates.{stalk_count, element_of, edge_module_count, boundary_start, boundary_count}
use Rattle.bmp_sheaf.specs.Numbers.{on_edge, unit_at, boundary_number, lower_number, boundary_matrix}
use Rattle.bmp_sheaf.proofs.EdgeMaps.{from_below_is_linear}
use Rattle.bmp_sheaf.proofs.BoundaryNumbers.{each_boundary_place, boundary_number_at, boundary_number_below}

module _ (G : Graph) (over : IsOverField G) (F : SheafData) (x d : ℕ) where
  -- the element of the stalk with these coordinates, and the coordinates of its boundary
  abbrev pub element : (ℕ → ℕ) → Element
  element u = element_of G.rank (F.degrees x) d u

  abbrev pub to_boundary : (ℕ → ℕ) → ℕ → ℕ
  to_boundary u = boundary_number G F x d (boundary_of_element G F d (element u))

  -- on an edge it is the lift
  pub to_boundary_at : (e i : ℕ) → e < edge_count G → lower G e ≡ x → i < edge_module_count G F d e → (u : ℕ → ℕ) →
      to_boundary u (boundary_start G F x d e + i)
      ≡ on_edge G F d e (lift_of G F e d (element_of G.rank (F.degrees (lower G e)) d u)) i
  to_boundary_at e i is_edge starts inside u =
      boundary_number_at G F x d (boundary_of_element G F d (element u)) e i is_edge starts inside
      ∙ ap (λ y. on_edge G F d e (lift_of G F e d (element_of G.rank (F.degrees y) d u)) i) (sym starts)

  linear_on_edge : (e : ℕ) → e < edge_count G → lower G e ≡ x →
      IsLinear G.prime (stalk_count G.rank (F.degrees x) d) (edge_module_count G F d e)
      (λ u. on_edge G F d e (lift_of G F e d (element_of G.rank (F.degrees (lower G e)) d u)))
  linear_on_edge e is_edge starts =
      subst (λ y. IsLinear G.prime (stalk_count G.rank (F.degrees y) d) (edge_module_count G F d e)
      (λ u. on_edge G F d e (lift_of G F e d (element_of G.rank (F.degrees (lower G e)) d u)))) starts
      (from_below_is_linear G over F d e is_edge)

  pub to_boundary_is_linear : IsLinear G.prime (stalk_count G.rank (F.degrees x) d) (boundary_count G F x d) to_boundary
  to_boundary_is_linear = record {
    respects = λ u v same. each_boundary_place G F x d (λ k. SameMod G.prime (to_boundary u k) (to_boundary v k))
        (λ e i is_edge starts inside.
        ap (λ z. z % G.prime) (to_boundary_at e i is_edge starts inside u)
        ∙ (linear_on_edge e is_edge starts).respects u v same i inside
        ∙ ap (λ z. z % G.prime) (sym (to_boundary_at e i is_edge starts inside v)));
    sums = λ u v. each_boundary_place G F x d
        (λ k. SameMod G.prime (to_boundary (plus u v) k) (to_boundary u k + to_boundary v k))
        (λ e i is_edge starts inside.
        ap (λ z. z % G.prime) (to_boundary_at e i is_edge starts inside (plus u v))
        ∙ (linear_on_edge e is_edge starts).sums u v i inside
        ∙ ap (λ z. z % G.prime)
        (sym (ap₂ (λ y z. y + z) (to_boundary_at e i is_edge starts inside u)
        (to_boundary_at e i is_edge starts inside v))));
    multiples = λ y u. each_boundary_place G F x d
        (λ k. SameMod G.prime (to_boundary (scaled y u) k) (y * to_boundary u k))
        (λ e i is_edge starts inside.
        ap (λ z. z % G.prime) (to_boundary_at e i is_edge starts inside (scaled y u))
        ∙ (linear_on_edge e is_edge starts).multiples y u i inside
        ∙ ap (λ z. (y * z) % G.prime) (sym (to_boundary_at e i is_edge starts inside u)));
  }

  -- the matrix is that of the map
  pub boundary_image : (u : ℕ → ℕ) (k : ℕ) → k < boundary_count G F x d → image (boundary_matrix G F x d) u k
      % G.prime ≡ to_boundary u k
  boundary_image u k below =
      matrix_of_linear G.prime (stalk_count G.rank (F.degrees x) d) (boundary_count G F x d) (boundary_matrix G F x d)
      to_boundary to_boundary_is_linear refl refl (λ k j row column. refl) u k below
      ∙ mod-eq_of_lt (boundary_number_below G F x d over (boundary_of_element G F d (element u)) k)

  pub boundary_numbers_below : NumbersBelow G.prime (boundary_matrix G F x d)
  boundary_numbers_below k j row column =
      boundary_number_below G F x d over (boundary_of_element G F d (unit_at G.rank (F.degrees x) d j)) k

  -- the rows of an edge are those of its own matrix
  pub boundary_entry : (e i j : ℕ) → e < edge_count G → lower G e ≡ x → i < edge_module_count G F d e →
      (boundary_matrix G F x d).entry (boundary_start G F x d e + i) j ≡ lower_number G F d e i j
  boundary_entry e i j is_edge starts inside = to_boundary_at e i is_edge starts inside (unit j)
