-- The row of a boundary coordinate, by the row of its edge's map.
use Rattle.std.proofs.Common.{◌≡◌, ℕ, ◌+◌, ◌*◌, ◌%◌, ◌<◌, List, sym, ap, ◌∙◌, arith}
use Rattle.std.specs.Prelude.{slice_index}
use Rattle.bmp_math.specs.Sums.{sum_below}
use Rattle.bmp_math.specs.Matrices.{Matrix, NumbersBelow, image, SameMatrix}
use Rattle.bmp_math.proofs.SumLemmas.{sum_below_same}
use Rattle.bmp_linear.specs.RowChanges.{IsRowAddedTo}
use Rattle.bmp_graph.specs.Graph.{Graph, edge_count, lower}
use Rattle.bmp_sheaf.specs.Fields.{IsOverField}
use Rattle.bmp_sheaf.specs.Sheaves.{SheafData}
use Rattle.bmp_sheaf.specs.Coordinates.{stalk_count, edge_module_count, boundary_start}
use Rattle.bmp_sheaf.specs.Numbers.{lower_matrix, boundary_matrix}
use Rattle.bmp_sheaf.proofs.BoundaryNumbers.{boundary_place_below}
use Rattle.bmp_sheaf.proofs.BoundaryMaps.{boundary_entry}

module _ (G : Graph) (over : IsOverField G) (F : SheafData) (x d e : ℕ) (is_edge : e < edge_count G)
    (starts : lower G e ≡ x) (a : Matrix) (same : SameMatrix a (lower_matrix G F d e)) where
  pub cols_are : a.cols ≡ stalk_count G.rank (F.degrees x) d
  cols_are = same.cols ∙ ap (λ y. stalk_count G.rank (F.degrees y) d) starts

  entry_at : (i j : ℕ) → i < edge_module_count G F d e → j < a.cols →
      (boundary_matrix G F x d).entry (boundary_start G F x d e + i) j ≡ a.entry i j
  entry_at i j inside column = boundary_entry G over F x d e i j is_edge starts inside
      ∙ sym (same.entries i j inside (omega (arith, column, same.cols)))

  pub edge_rows_below : (p : ℕ) → NumbersBelow p (boundary_matrix G F x d) → NumbersBelow p a
  edge_rows_below p small i j row column =
      let inside : i < edge_module_count G F d e = omega (arith, row, same.rows) in
      let number : (boundary_matrix G F x d).entry (boundary_start G F x d e + i) j < p =
      small (boundary_start G F x d e + i) j (boundary_place_below G F x d e i is_edge starts inside)
      (omega (arith, column, cols_are)) in
      omega (arith, number, entry_at i j inside column)

  module _ (k i : ℕ) (inside : i < edge_module_count G F d e) (place : k ≡ boundary_start G F x d e + i) where
    pub entry_is : (j : ℕ) → j < stalk_count G.rank (F.degrees x) d → a.entry i j ≡ (boundary_matrix G F x d).entry k j
    entry_is j column =
        sym (ap (λ z. (boundary_matrix G F x d).entry z j) place
        ∙ entry_at i j inside (omega (arith, column, cols_are)))

    pub image_is : (v : ℕ → ℕ) → image a v i ≡ image (boundary_matrix G F x d) v k
    image_is v =
        ap (sum_below (λ j. v j * a.entry i j)) cols_are
        ∙ sum_below_same (λ j. v j * a.entry i j) (λ j. v j * (boundary_matrix G F x d).entry k j)
        (stalk_count G.rank (F.degrees x) d) (λ j column. ap (λ z. v j * z) (entry_is j column))

    pub row_added : (p c : ℕ) (old new : List ℕ) → IsRowAddedTo p a i c old new →
        IsRowAddedTo p (boundary_matrix G F x d) k c old new
    row_added p c old new h = record {
      added = λ j column. h.added j (omega (arith, column, cols_are))
          ∙ ap (λ z. (slice_index old j + c * z) % p) (entry_is j column);
      others = λ j past. h.others j (omega (arith, past, cols_are));
    }
