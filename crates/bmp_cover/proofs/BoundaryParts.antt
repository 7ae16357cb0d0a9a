-- An edge going up from x in the check of covers: the tuples' values at its upper end, and the room for them.
use Rattle.std.proofs.Common.{◌≡◌, ℕ, false, zero, suc, ◌+◌, ◌%◌, ◌<◌, ◌≤◌, List, [], ◌∷◌, sym, ap, ap₂, subst, ◌∙◌, arith}
use Rattle.std.specs.Prelude.{slice_index}
use Rattle.std.proofs.Math.Nat.{mod-lt}
use Rattle.bmp_math.specs.Matrices.{combination}
use Rattle.bmp_linear.specs.SparseVectors.{ValuesBelow}
use Rattle.bmp_graph.specs.Graph.{IsUpRange, upper}
use Rattle.bmp_sheaf.specs.Sheaves.{boundary_of_tuple}
use Rattle.bmp_sheaf.specs.Coordinates.{stalk_count, element_of, edge_module_count, boundary_start}
use Rattle.bmp_sheaf.specs.Numbers.{on_edge, boundary_matrix}
use Rattle.bmp_sheaf.specs.States.{SheafState, IsState, IsRoom, sheaf_of}
use Rattle.bmp_sections.specs.TupleLists.{TupleList, tuples_in}
use Rattle.bmp_cover.specs.Evidence.{combined_tuple}
use Rattle.bmp_cover.specs.CoverInputs.{HasStalks, HasValues, HasTuples}
use Rattle.bmp_cover.proofs.CompareLemmas.{edge_combined}
use Rattle.bmp_cover.proofs.InputLemmas.{is_edge, high_in, high_values, within}

-- the vector that is 1 at one place
pub one_value : (p j : ℕ) → 2 ≤ p → ValuesBelow (record { place = j; value = 1 } ∷ []) p
one_value p j two zero d inside = omega arith
one_value p j two (suc k) d inside = absurd (omega arith)

-- no tuples, where none are spoken of
abbrev pub no_list : TupleList
no_list = record { count = 0; has = λ y. false; size = λ y. 0; value = λ j y c. 0 }

-- the boundary map of the same sheaf, vertex and degree
pub boundary_matrix_is :
    {A : Type 0} (s t : SheafState A) (x y d e : ℕ) → s ≡ t → x ≡ y → d ≡ e → boundary_matrix s.graph (sheaf_of s) x d
    ≡ boundary_matrix t.graph (sheaf_of t) y e
boundary_matrix_is s t x y d e is_s is_x is_d =
    ap (λ u. boundary_matrix u.graph (sheaf_of u) x d) is_s
    ∙ ap₂ (λ z f. boundary_matrix t.graph (sheaf_of t) z f) is_x is_d

module _ {A : Type 0} (s : SheafState A) (x d : ℕ) (state : IsState s) (stalks : HasStalks s x d) (from to : ℕ)
    (range : IsUpRange s.graph x from to)
    (list : TupleList) (tuples : HasTuples s x d list) (e : ℕ) (past : from ≤ e) (before : e < to) where
  pub edge_room : (n start : ℕ) → IsRoom s d n → start ≡ boundary_start s.graph (sheaf_of s) x d e →
      start + edge_module_count s.graph (sheaf_of s) d e ≤ n
  edge_room n start room is =
      omega (arith, is, within s x d state stalks from to range e past before, (room x stalks.there).1)

  -- where the upper end and the prime stand in memory
  module _ (up p : ℕ) (up_is : up ≡ upper s.graph e) (p_is : p ≡ s.graph.prime) where
    pub up_values : HasValues s d list up
    up_values = subst (HasValues s d list) (sym up_is)
        (high_values s x d state stalks from to range e past before list tuples)

    pub up_numbers : (j k : ℕ) → j < list.count → k < list.size up → list.value j up k < p
    up_numbers j k is_tuple inside = subst (λ q. list.value j up k < q) (sym p_is) (up_values.below j k is_tuple inside)

    pub up_size : list.size up ≡ stalk_count s.graph.rank ((sheaf_of s).degrees (upper s.graph e)) d
    up_size = ap list.size up_is ∙ (high_values s x d state stalks from to range e past before list tuples).size

    pub up_room : (n : ℕ) → IsRoom s d n → list.size up ≤ n
    up_room n room =
        let there = stalks.above (upper s.graph e) (high_in s x d state stalks from to range e past before) in
        omega (arith, up_size, (room (upper s.graph e) there).0)

    -- the combination of the values is written
    module _ (factors : ℕ → ℕ) (second : List ℕ) (combined : (k : ℕ) → k < list.size up →
        slice_index second k ≡ combination factors (λ j. list.value j up) list.count k % p) where
      pub up_below : 2 ≤ p → (k : ℕ) → k < stalk_count s.graph.rank ((sheaf_of s).degrees (upper s.graph e)) d →
          slice_index second k < s.graph.prime
      up_below two k inside =
          let small : combination factors (λ j. list.value j up) list.count k % p < p =
          mod-lt (combination factors (λ j. list.value j up) list.count k) (omega (arith, two)) in
          subst (λ z. z < s.graph.prime) (sym (combined k (subst (λ m. k < m) (sym up_size) inside)))
          (subst (λ q. combination factors (λ j. list.value j up) list.count k % p < q) p_is small)

      pub up_edge :
          (i : ℕ) → i < edge_module_count s.graph (sheaf_of s) d e →
          on_edge s.graph (sheaf_of s) d e
          (element_of s.graph.rank ((sheaf_of s).degrees (upper s.graph e)) d (slice_index second)) i
          ≡ on_edge s.graph (sheaf_of s) d e
          (boundary_of_tuple s.graph (combined_tuple factors (tuples_in s.graph (sheaf_of s) d list) list.count) e)
          i
      up_edge i inside =
          edge_combined s.graph state.over (sheaf_of s) d e (is_edge s x d state stalks from to range e past before)
          list factors second i inside
          (λ k l. combined k (subst (λ m. k < m) (sym up_size) l)
          ∙ ap₂ (λ y q. combination factors (λ j. list.value j y) list.count k % q) up_is p_is)
