-- The row of an edge's coordinate is the row of its place in the joined matrix.
use Rattle.std.proofs.Common.{◌≡◌, ℕ, ◌+◌, ◌-◌, ◌*◌, ◌%◌, ◌<◌, ◌≤◌, leb, List, get_or, inl, inr, sym, ap, subst, ◌∙◌, arith}
use Rattle.std.proofs.lemmas.Bool.{cases_lt, cond-true, cond-false, le-leb, lt-leb}
use Rattle.bmp_math.specs.Sums.{sum_below}
use Rattle.bmp_math.specs.Matrices.{Matrix, NumbersBelow, combination, SameMatrix}
use Rattle.bmp_math.proofs.SumLemmas.{sum_below_same}
use Rattle.bmp_linear.specs.declared.vector.Entry.{Entry}
use Rattle.bmp_linear.specs.SparseVectors.{number_at}
use Rattle.bmp_linear.proofs.EntrySums.{products_turned}
use Rattle.bmp_linear.specs.RowVectors.{IsRowVector}
use Rattle.bmp_graph.specs.Graph.{Graph, edge_count, lower, upper}
use Rattle.bmp_sheaf.specs.Fields.{IsOverField}
use Rattle.bmp_sheaf.specs.Sheaves.{SheafData, boundary_of_tuple}
use Rattle.bmp_sheaf.specs.Coordinates.{stalk_count, edge_module_count, boundary_start}
use Rattle.bmp_sheaf.specs.Numbers.{lower_matrix, upper_matrix, boundary_matrix}
use Rattle.bmp_sheaf.proofs.EdgeMaps.{upper_image}
use Rattle.bmp_sheaf.proofs.BoundaryNumbers.{boundary_number_at, boundary_number_below}
use Rattle.bmp_sheaf.proofs.BoundaryMaps.{boundary_entry, boundary_numbers_below}
use Rattle.bmp_sections.specs.TupleLists.{TupleList, value_matrix, tuples_in}
use Rattle.bmp_stalk.specs.Blocks.{tuple_boundary, IsBoundarySoFar}
use Rattle.bmp_stalk.specs.Values.{IsJoinedRow, joined_matrix}

-- an edge going up from x, and its two maps
pub record IsEdgeOf (G : Graph) (F : SheafData) (x d e : ℕ) (list : TupleList) (low high : Matrix) : Type 0 where
  pub over : IsOverField G
  pub is_edge : e < edge_count G
  pub starts : lower G e ≡ x
  pub low_is : SameMatrix low (lower_matrix G F d e)
  pub high_is : SameMatrix high (upper_matrix G F d e)
  pub size_is : list.size (upper G e) ≡ stalk_count G.rank (F.degrees (upper G e)) d

module _ {G : Graph} {F : SheafData} {x d e : ℕ} {list : TupleList} {low high : Matrix}
    (h : IsEdgeOf G F x d e list low high) where
  -- the values at the upper end
  abbrev values : Matrix
  values = value_matrix list (upper G e)

  pub low_cols : low.cols ≡ stalk_count G.rank (F.degrees x) d
  low_cols = h.low_is.cols ∙ ap (λ y. stalk_count G.rank (F.degrees y) d) h.starts

  module _ (row : List Entry) (i : ℕ) (inside : i < edge_module_count G F d e) (is_row : IsRowVector G.prime high i row)
    where
      -- what a row of the upper map says of a tuple's value is a boundary coordinate of the tuple
      value_number : (j : ℕ) → j < list.count → combination (number_at row) values.entry values.rows j % G.prime
          ≡ tuple_boundary G F x d list j (boundary_start G F x d e + i)
      value_number j is_tuple =
          let y : ℕ = upper G e in
          let n : ℕ = stalk_count G.rank (F.degrees (upper G e)) d in
          ap (λ z. z % G.prime)
          (ap (sum_below (λ c. number_at row c * values.entry c j)) h.size_is
          ∙ sum_below_same (λ c. number_at row c * values.entry c j)
          (λ c. (upper_matrix G F d e).entry i c * list.value j (upper G e) c) n
          (λ c l.
          let column : c < high.cols = omega (arith, l, h.high_is.cols) in
          ap (λ a. a * list.value j (upper G e) c) (is_row.numbers c column ∙ h.high_is.entries i c inside l))
          ∙ products_turned ((upper_matrix G F d e).entry i) (list.value j (upper G e)) n)
          ∙ upper_image G h.over F d e h.is_edge (list.value j (upper G e)) i inside
          ∙ sym (boundary_number_at G F x d (boundary_of_tuple G (tuples_in G F d list j)) e i h.is_edge h.starts
          inside)

      pub joined_row_is : (xs : List ℕ) → IsJoinedRow G.prime low (number_at row) values i xs → (c : ℕ) →
          c < stalk_count G.rank (F.degrees x) d + list.count →
          get_or xs c 0 ≡ (joined_matrix G F x d list).entry (boundary_start G F x d e + i) c
      joined_row_is xs made c column =
          let split : ℕ = stalk_count G.rank (F.degrees x) d in
          let k : ℕ = boundary_start G F x d e + i in
          let of_tuple : ℕ = tuple_boundary G F x d list (c - split) k in
          let of_stalk : ℕ = (boundary_matrix G F x d).entry k c in
          elim (cases_lt c split) [
            | inl early ↦
                let here : c < low.cols = omega (arith, early, low_cols) in
                let own : c < (lower_matrix G F d e).cols = omega (arith, here, h.low_is.cols) in
                made.of_lower c here ∙ h.low_is.entries i c inside own
                ∙ sym (boundary_entry G h.over F x d e i c h.is_edge h.starts inside)
                ∙ sym (cond-false {A = ℕ} (leb split c) of_tuple of_stalk (lt-leb split c early))
            | inr late ↦
                let back : low.cols + (c - split) ≡ c = omega (arith, late, low_cols) in
                let is_tuple : c - split < list.count = omega (arith, late, column) in
                ap (λ z. get_or xs z 0) (sym back)
                ∙ made.of_values (c - split) is_tuple
                ∙ value_number (c - split) is_tuple
                ∙ sym (cond-true {A = ℕ} (leb split c) of_tuple of_stalk (le-leb split c late))
          ]

module _ (G : Graph) (F : SheafData) (x d : ℕ) (list : TupleList) where
  module _ (c k : ℕ) where
    -- an early column, and a late one
    at_stalk : c < stalk_count G.rank (F.degrees x) d →
        (joined_matrix G F x d list).entry k c ≡ (boundary_matrix G F x d).entry k c
    at_stalk early =
        let split : ℕ = stalk_count G.rank (F.degrees x) d in
        cond-false {A = ℕ} (leb split c) (tuple_boundary G F x d list (c - split) k)
        ((boundary_matrix G F x d).entry k c) (lt-leb split c early)

    at_tuple : stalk_count G.rank (F.degrees x) d ≤ c → (joined_matrix G F x d list).entry k c
        ≡ tuple_boundary G F x d list (c - stalk_count G.rank (F.degrees x) d) k
    at_tuple late =
        let split : ℕ = stalk_count G.rank (F.degrees x) d in
        cond-true {A = ℕ} (leb split c) (tuple_boundary G F x d list (c - split) k)
        ((boundary_matrix G F x d).entry k c) (le-leb split c late)

  -- the whole matrix
  pub so_far_from : (o : Matrix) → SameMatrix o (joined_matrix G F x d list) → IsBoundarySoFar G F x d list o
  so_far_from o same =
      let split : ℕ = stalk_count G.rank (F.degrees x) d in
      record {
        joined = record {
          rows = same.rows;
          cols = same.cols;
          of_tuples = λ j k is_tuple below.
              let back : (split + j) - split ≡ j = omega arith in
              same.entries k (split + j) below (omega (arith, is_tuple))
              ∙ at_tuple (split + j) k (omega arith)
              ∙ ap (λ z. tuple_boundary G F x d list z k) back;
        };
        of_stalk = λ c k early below. same.entries k c below (omega (arith, early)) ∙ at_stalk c k early;
      }

  pub joined_below : IsOverField G → NumbersBelow G.prime (joined_matrix G F x d list)
  joined_below over k c row column = elim (cases_lt c (stalk_count G.rank (F.degrees x) d)) [
    | inl early ↦
        subst (λ z. z < G.prime) (sym (at_stalk c k early)) (boundary_numbers_below G over F x d k c row early)
    | inr late ↦
        let j : ℕ = c - stalk_count G.rank (F.degrees x) d in
        subst (λ z. z < G.prime) (sym (at_tuple c k late))
        (boundary_number_below G F x d over (boundary_of_tuple G (tuples_in G F d list j)) k)
  ]
