-- A row of the edge equations has two parts: the row of the lower map at the lower end, and minus that of the upper map
-- at the upper end.
use Rattle.std.proofs.Common.{◌≡◌, ℕ, suc, ◌+◌, ◌-◌, ◌*◌, ◌%◌, ◌<◌, ◌≤◌, true, List, [], length, get_or, sym, ap, subst, ◌∙◌, inl, inr, arith}
use Rattle.std.specs.Prelude.{slice_index_or}
use Rattle.std.proofs.Math.Nat.{zero-mod}
use Rattle.std.proofs.lemmas.Bool.{cases_eq, cases_lt}
use Rattle.bmp_math.specs.Matrices.{Matrix, NumbersBelow}
use Rattle.bmp_math.proofs.SumLemmas.{sum_below_rises, sum_below-suc}
use Rattle.bmp_linear.specs.declared.vector.Entry.{Entry}
use Rattle.bmp_linear.specs.SparseVectors.{IsSparse, FitsBelow, ValuesBelow, number_at}
use Rattle.bmp_linear.specs.RowTables.{EntryTable, matrix_of_entries}
use Rattle.bmp_linear.proofs.SparseLemmas.{number_at-own, number_at-past}
use Rattle.bmp_linear.proofs.MergeLemmas.{fits_above}
use Rattle.bmp_graph.specs.Graph.{Graph, vertex_count, edge_count, lower, upper}
use Rattle.bmp_graph.proofs.GraphLemmas.{edge_rises}
use Rattle.bmp_sheaf.specs.Fields.{IsOverField}
use Rattle.bmp_sheaf.specs.Sheaves.{SheafData}
use Rattle.bmp_sheaf.specs.Coordinates.{stalk_count, edge_module_count}
use Rattle.bmp_sheaf.specs.Numbers.{lower_matrix, upper_matrix}
use Rattle.bmp_sheaf.specs.EdgeMaps.{SameMatrix}
use Rattle.bmp_sections.specs.Positions.{position_start, position_count, equation_start}
use Rattle.bmp_sections.specs.Numbers.{is_above, equation_matrix}
use Rattle.bmp_sections.specs.RowParts.{part_number, IsRowOfParts}
use Rattle.bmp_sections.proofs.AboveLemmas.{upper_is_above}
use Rattle.bmp_sections.proofs.PositionLemmas.{position_size, size_is, HasPosition, has_position}
use Rattle.bmp_sections.proofs.EquationNumbers.{entry_at_lower, entry_at_upper, entry_elsewhere}
use Rattle.bmp_sections.proofs.RowPartLemmas.{part_first, part_last, part_none}

-- row i of a table that has the numbers of a matrix
pub record IsTableRow (p : ℕ) (a : Matrix) (i : ℕ) (es : List Entry) : Type 0 where
  pub sparse : IsSparse es
  pub below : ValuesBelow es p
  pub fits : FitsBelow es a.cols
  pub same : (j : ℕ) → j < a.cols → number_at es j ≡ a.entry i j

pub table_row :
    (p : ℕ) (t : EntryTable) (a : Matrix) (i : ℕ) (es : List Entry) → SameMatrix (matrix_of_entries t) a →
    NumbersBelow p (matrix_of_entries t) → i < a.rows →
    es ≡ slice_index_or t.rows i [] → IsSparse es → FitsBelow es t.cols → IsTableRow p a i es
table_row p t a i es same below is_row is sparse fits =
    let row_of_t : i < length t.rows = omega (arith, same.rows) in
    let number : (j : ℕ) → number_at es j ≡ (matrix_of_entries t).entry i j = λ j. ap (λ v. number_at v j) is in
    record {
      sparse = sparse;
      below = λ k d l.
          subst (λ z. z < p) (sym (number (get_or es k d).place) ∙ number_at-own es k d sparse.rising l)
          (below i (get_or es k d).place row_of_t (fits k d l));
      fits = subst (FitsBelow es) same.cols fits;
      same = λ j inside. number j ∙ same.entries i j (omega (arith, same.rows)) (omega (arith, same.cols));
    }

past_zero : (v : List Entry) (n j : ℕ) → FitsBelow v n → n ≤ j → number_at v j ≡ 0
past_zero v n j fits from = number_at-past v j (fits_above v n j from fits)

module _ (G : Graph) (F : SheafData) (x d : ℕ) (over : IsOverField G) (e i : ℕ) (is_edge : e < edge_count G)
    (low_in : is_above G x (lower G e) ≡ true) (inside : i < edge_module_count G F d e) where
  abbrev start : ℕ → ℕ
  start = position_start G F (is_above G x) d

  abbrev size : ℕ → ℕ
  size y = stalk_count G.rank (F.degrees y) d

  rises : lower G e < upper G e
  rises = edge_rises G over.is_graph e is_edge

  high_in : is_above G x (upper G e) ≡ true
  high_in = upper_is_above G over.is_graph x e is_edge low_in

  -- the block of a vertex of the set ends before the next ones start
  block_ends : (y z : ℕ) → is_above G x y ≡ true → y < z →
      position_start G F (is_above G x) d y + stalk_count G.rank (F.degrees y) d ≤ position_start G F (is_above G x) d z
  block_ends y z here before =
      let sizes : ℕ → ℕ = position_size G F (is_above G x) d in
      omega (arith, sum_below_rises sizes (suc y) z before, sum_below-suc sizes y, size_is G F (is_above G x) d y here)

  ends_within : position_start G F (is_above G x) d (upper G e) + stalk_count G.rank (F.degrees (upper G e)) d ≤
      position_count G F (is_above G x) d
  ends_within = block_ends (upper G e) (vertex_count G) high_in (over.is_graph.ends e is_edge).1

  module _ (lo up : List Entry) (first : IsTableRow G.prime (lower_matrix G F d e) i lo)
      (second : IsTableRow G.prime (upper_matrix G F d e) i up) where
    abbrev Agrees : ℕ → Type 0
    Agrees k =
        (equation_matrix G F x d).entry (equation_start G F (is_above G x) d e + i) k
        ≡ part_number G.prime lo up (position_start G F (is_above G x) d (lower G e))
        (position_start G F (is_above G x) d (upper G e)) k

    at_lower : (j : ℕ) → j < size (lower G e) → Agrees (start (lower G e) + j)
    at_lower j placed =
        let before : start (lower G e) + j < start (upper G e) =
        omega (arith, block_ends (lower G e) (upper G e) low_in rises) in
        let back : (start (lower G e) + j) - start (lower G e) ≡ j = omega arith in
        entry_at_lower G F x d over e i is_edge low_in inside j placed ∙ sym (first.same j placed)
        ∙ ap (number_at lo) (sym back)
        ∙ sym (part_first G.prime lo up (start (lower G e)) (start (upper G e)) (start (lower G e) + j) (omega arith)
        before)

    at_upper : (j : ℕ) → j < size (upper G e) → Agrees (start (upper G e) + j)
    at_upper j placed =
        let back : (start (upper G e) + j) - start (upper G e) ≡ j = omega arith in
        entry_at_upper G F x d over e i is_edge low_in inside j placed
        ∙ ap (λ z. ((G.prime - 1) * z) % G.prime) (sym (second.same j placed) ∙ ap (number_at up) (sym back))
        ∙ sym (part_last G.prime lo up (start (lower G e)) (start (upper G e)) (start (upper G e) + j) (omega arith))

    at_other : (y j : ℕ) → is_above G x y ≡ true → j < size y → (y ≡ lower G e → ⊥) → (y ≡ upper G e → ⊥) →
        Agrees (start y + j)
    at_other y j here placed not_low not_high =
        entry_elsewhere G F x d over e i is_edge low_in inside y j here placed not_low not_high ∙ sym none
      where
        k : ℕ
        k = position_start G F (is_above G x) d y + j

        low_none : position_start G F (is_above G x) d (lower G e) ≤ position_start G F (is_above G x) d y + j →
            position_start G F (is_above G x) d (lower G e) + stalk_count G.rank (F.degrees (lower G e)) d ≤
            position_start G F (is_above G x) d y + j
        low_none from = elim (cases_lt (lower G e) y) [
          | inl after ↦ omega (arith, block_ends (lower G e) y low_in after)
          | inr not_after ↦ let earlier : y < lower G e = omega arith in
              absurd (omega (arith, from, placed, block_ends y (lower G e) here earlier))
        ]

        high_none : position_start G F (is_above G x) d (upper G e) ≤ position_start G F (is_above G x) d y + j →
            position_start G F (is_above G x) d (upper G e) + stalk_count G.rank (F.degrees (upper G e)) d ≤
            position_start G F (is_above G x) d y + j
        high_none from = elim (cases_lt (upper G e) y) [
          | inl after ↦ omega (arith, block_ends (upper G e) y high_in after)
          | inr not_after ↦ let earlier : y < upper G e = omega arith in
              absurd (omega (arith, from, placed, block_ends y (upper G e) here earlier))
        ]

        none : part_number G.prime lo up (position_start G F (is_above G x) d (lower G e))
            (position_start G F (is_above G x) d (upper G e)) (position_start G F (is_above G x) d y + j) ≡ 0
        none = elim (cases_lt (position_start G F (is_above G x) d y + j)
            (position_start G F (is_above G x) d (upper G e))) [
              | inl before ↦
                  elim (cases_lt (position_start G F (is_above G x) d y + j)
                  (position_start G F (is_above G x) d (lower G e))) [
                    | inl outside ↦ part_none G.prime lo up (position_start G F (is_above G x) d (lower G e))
                        (position_start G F (is_above G x) d (upper G e)) (position_start G F (is_above G x) d y + j)
                        outside before
                    | inr from ↦
                        part_first G.prime lo up (position_start G F (is_above G x) d (lower G e))
                        (position_start G F (is_above G x) d (upper G e)) (position_start G F (is_above G x) d y + j)
                        from before
                        ∙ past_zero lo (stalk_count G.rank (F.degrees (lower G e)) d)
                        ((position_start G F (is_above G x) d y + j) - position_start G F (is_above G x) d (lower G e))
                        first.fits (omega (arith, low_none from))
                  ]
              | inr from ↦
                  let past : number_at up
                  ((position_start G F (is_above G x) d y + j) - position_start G F (is_above G x) d (upper G e)) ≡ 0 =
                  past_zero up (stalk_count G.rank (F.degrees (upper G e)) d)
                  ((position_start G F (is_above G x) d y + j) - position_start G F (is_above G x) d (upper G e))
                  second.fits (omega (arith, high_none from)) in
                  let nothing : (G.prime - 1) * 0 ≡ 0 = omega arith in
                  part_last G.prime lo up (position_start G F (is_above G x) d (lower G e))
                  (position_start G F (is_above G x) d (upper G e)) (position_start G F (is_above G x) d y + j) from
                  ∙ ap (λ z. ((G.prime - 1) * z) % G.prime) past ∙ ap (λ z. z % G.prime) nothing ∙ zero-mod G.prime
            ]

    each_column : (k : ℕ) → k < position_count G F (is_above G x) d → Agrees k
    each_column k below =
        let at : HasPosition G F (is_above G x) d k = has_position G F (is_above G x) d k below in
        subst Agrees (sym at.is)
        (elim (cases_eq at.vertex (lower G e)) [
          | inl same ↦ subst (λ y. Agrees (position_start G F (is_above G x) d y + at.place)) (sym same)
              (at_lower at.place (subst (λ y. at.place < stalk_count G.rank (F.degrees y) d) same at.inside))
          | inr not_low ↦
              elim (cases_eq at.vertex (upper G e)) [
                | inl same ↦ subst (λ y. Agrees (position_start G F (is_above G x) d y + at.place)) (sym same)
                    (at_upper at.place (subst (λ y. at.place < stalk_count G.rank (F.degrees y) d) same at.inside))
                | inr not_high ↦ at_other at.vertex at.place at.here at.inside not_low not_high
              ]
        ])

    pub equation_parts : IsRowOfParts G.prime (equation_matrix G F x d) (equation_start G F (is_above G x) d e + i) lo
        up (position_start G F (is_above G x) d (lower G e)) (position_start G F (is_above G x) d (upper G e))
    equation_parts = record {
      two = over.two;
      lower_sparse = first.sparse;
      upper_sparse = second.sparse;
      lower_below = first.below;
      upper_below = second.below;
      in_order = omega (arith, block_ends (lower G e) (upper G e) low_in rises);
      within = omega (arith, ends_within);
      lower_fits = fits_above lo (stalk_count G.rank (F.degrees (lower G e)) d)
          (position_start G F (is_above G x) d (upper G e) - position_start G F (is_above G x) d (lower G e))
          (omega (arith, block_ends (lower G e) (upper G e) low_in rises)) first.fits;
      upper_fits = fits_above up (stalk_count G.rank (F.degrees (upper G e)) d)
          (position_count G F (is_above G x) d - position_start G F (is_above G x) d (upper G e))
          (omega (arith, ends_within)) second.fits;
      same = each_column;
    }

    -- the same where the numbers stand in memory
    pub parts_are :
        (k p low high : ℕ) → k ≡ equation_start G F (is_above G x) d e + i → p ≡ G.prime →
        low ≡ position_start G F (is_above G x) d (lower G e) →
        high ≡ position_start G F (is_above G x) d (upper G e) →
        IsRowOfParts p (equation_matrix G F x d) k lo up low high
    parts_are k p low high is_k is_p is_low is_high = rw (is_k, is_p, is_low, is_high) equation_parts
