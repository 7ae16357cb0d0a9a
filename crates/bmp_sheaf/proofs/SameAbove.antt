-- Two sheaves in memory, over one graph and with one bound, that have the same stalks at the upper ends of the edges
-- going up from a vertex: what is kept of the vertex in the one is kept in the other.
use Rattle.std.proofs.Common.{◌≡◌, ℕ, ◌*◌, ◌/◌, ◌%◌, ◌+◌, ◌<◌, List, [], length, get_or, sym, ap, subst, ◌∙◌, arith}
use Rattle.std.specs.Prelude.{slice_index}
use Rattle.bmp_math.specs.Matrices.{SameMatrix}
use Rattle.bmp_linear.specs.declared.vector.Entry.{Entry}
use Rattle.bmp_linear.specs.SparseVectors.{FitsBelow}
use Rattle.bmp_linear.specs.RowTables.{matrix_of_entries}
use Rattle.bmp_graph.specs.Graph.{IsGraph, vertex_count, edge_count, lower, upper}
use Rattle.bmp_graph.proofs.GraphLemmas.{edge_rises}
use Rattle.bmp_sheaf.specs.Coordinates.{stalk_count}
use Rattle.bmp_sheaf.specs.Written.{first_edge, up_count}
use Rattle.bmp_sheaf.specs.States.{Stalk, SheafState, stalk_of, sheaf_of}
use Rattle.bmp_sheaf.specs.StalkFaults.{lift_room, IsStalk}
use Rattle.bmp_sheaf.specs.StalkTables.{StalkTable, IsStalkTable}
use Rattle.bmp_sheaf.specs.UpperTables.{UpperTable, AreUppers}
use Rattle.bmp_sheaf.proofs.UpEdges.{up_range_of}
use Rattle.bmp_sheaf.proofs.RuleLemmas.{is_edge, starts_at}
use Rattle.bmp_sheaf.proofs.Agreement.{AgreeOnEdge, written_agree, lower_matrix_agrees}

module _ {F : Type 0} (s : SheafState F) (f : F) (stalks : List Stalk) (is : IsGraph s.graph) (y : ℕ) where
  abbrev other : SheafState F
  other = record s { field = f; stalks = stalks }

  abbrev pub SameAbove : Type 0
  SameAbove = (e : ℕ) → e < edge_count s.graph → lower s.graph e ≡ y
      → stalk_of other (upper s.graph e) ≡ stalk_of s (upper s.graph e)

  module _ (above : SameAbove) where
    room_same : (degrees : List ℕ) (i : ℕ) → i < up_count s.graph y * length degrees
        → lift_room other y degrees i ≡ lift_room s y degrees i
    room_same degrees i inside =
        let first = first_edge s.graph y in
        let range = up_range_of s.graph is y in
        let e = first + i / length degrees in
        ap (λ (t : Stalk). stalk_count s.graph.rank t.degrees (slice_index degrees (i % length degrees)))
        (above e (is_edge s.graph is y first (first + up_count s.graph y) range i (length degrees) inside)
        (starts_at s.graph is y first (first + up_count s.graph y) range i (length degrees) inside))

    pub stalk_same : (degrees : List ℕ) (lifts : List (List Entry)) → IsStalk s y degrees lifts →
        IsStalk other y degrees lifts
    stalk_same degrees lifts h = record {
      rising = h.rising;
      bound = h.bound;
      counted = h.counted;
      fit = λ i below. subst (FitsBelow (get_or lifts i []))
          (sym (room_same degrees i (omega (arith, below, h.counted)))) (h.fit i below);
    }

    pub uppers_same : (us : List UpperTable) → AreUppers s y us → AreUppers other y us
    uppers_same us h = record {
      counted = h.counted;
      each = λ e u below starts.
          let has = h.each e u below starts in
          let m = has.edge in
          record {
            edge = record {
              rank = m.rank;
              degrees = m.degrees ∙ sym (ap (λ (t : Stalk). t.degrees) (above e below starts));
              label_rank = m.label_rank;
              label_prime = m.label_prime;
              label_leading = m.label_leading;
              label_coordinates = m.label_coordinates;
            };
            rows = has.rows;
          };
    }

    module _ (own : stalk_of other y ≡ stalk_of s y) where
      -- on the edges from the vertex the two sheaves agree
      agree : (e : ℕ) → e < edge_count s.graph → lower s.graph e ≡ y →
          AgreeOnEdge s.graph (sheaf_of s) (sheaf_of other) e
      agree e below starts =
          let here : stalk_of other (lower s.graph e) ≡ stalk_of s (lower s.graph e) =
          subst (λ z. stalk_of other z ≡ stalk_of s z) (sym starts) own in
          written_agree s.graph (λ z. (stalk_of s z).degrees) (λ z. (stalk_of other z).degrees)
          (λ z. (stalk_of s z).lifts) (λ z. (stalk_of other z).lifts) e
          (sym (ap (λ (t : Stalk). t.degrees) here)) (sym (ap (λ (t : Stalk). t.degrees) (above e below starts)))
          (sym (ap (λ (t : Stalk). t.lifts) here))

      pub table_same : (u : StalkTable) → IsStalkTable s y u → IsStalkTable other y u
      table_same u h = record {
        rank = h.rank;
        degrees = h.degrees ∙ sym (ap (λ (t : Stalk). t.degrees) own);
        lifts = h.lifts ∙ sym (ap (λ (t : Stalk). t.lifts) own);
        few = h.few;
        stalk = stalk_same u.degrees u.lifts h.stalk;
        values = h.values;
        lower_maps = record {
          counted = h.lower_maps.counted;
          each = λ e d r is_edge starts small.
              subst (SameMatrix (matrix_of_entries (get_or u.lower _ r)))
              (lower_matrix_agrees s.graph (sheaf_of s) (sheaf_of other) d e (agree e is_edge starts))
              (h.lower_maps.each e d r is_edge starts small);
        };
        uppers = uppers_same u.uppers h.uppers;
      }

-- so it is where the stalks at all vertices above are the same
pub upper_ends : {F : Type 0} (s : SheafState F) (f : F) (stalks : List Stalk) (is : IsGraph s.graph) (y : ℕ)
    → ((z : ℕ) → y < z → z < vertex_count s.graph → stalk_of (record s { field = f; stalks = stalks }) z ≡ stalk_of s z)
    → SameAbove s f stalks is y
upper_ends s f stalks is y above = λ e below starts.
    above (upper s.graph e) (omega (arith, edge_rises s.graph is e below, starts)) (is.ends e below).1
