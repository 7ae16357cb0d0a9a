-- What is read from the table of a stalk.
use Rattle.std.proofs.Common.{◌≡◌, ℕ, ◌+◌, ◌-◌, ◌*◌, ◌/◌, ◌%◌, ◌<◌, ◌≤◌, List, [], length, map, sym, ap, ap₂, subst, ◌∙◌, arith, get_or}
use Rattle.std.specs.Prelude.{slice_index, slice_index_or}
use Rattle.std.specs.Arc.{arc_value}
use Rattle.std.specs.declared.sync.Arc.{Arc}
use Rattle.std.proofs.lemmas.List.{get_or_read, length-map}
use Rattle.std.proofs.Math.Nat.{mul-le-mul_right}
use Rattle.std.proofs.lemmas.Nat.{div-mul-add, mod-mul-add, mul-add-lt}
use Rattle.bmp_math.specs.Matrices.{NumbersBelow, SameMatrix}
use Rattle.bmp_linear.specs.declared.vector.Entry.{Entry}
use Rattle.bmp_linear.specs.SparseVectors.{FitsBelow, ValuesBelow}
use Rattle.bmp_linear.specs.RowTables.{EntryTable, matrix_of_entries}
use Rattle.bmp_graph.specs.Graph.{edge_count, lower, upper}
use Rattle.bmp_sheaf.specs.Fields.{IsOverField}
use Rattle.bmp_sheaf.specs.Coordinates.{stalk_count}
use Rattle.bmp_sheaf.specs.Numbers.{lower_matrix, upper_matrix}
use Rattle.bmp_sheaf.specs.Written.{first_edge, up_count, IsUpPlace, lift_place}
use Rattle.bmp_sheaf.specs.States.{SheafState, stalk_of, sheaf_of}
use Rattle.bmp_sheaf.specs.StalkFaults.{lift_room, IsStalk}
use Rattle.bmp_sheaf.specs.StalkTables.{StalkTable, IsStalkTable, map_place}
use Rattle.bmp_sheaf.specs.UpperTables.{UpperTable, upper_map_of, IsUpperTable, IsEdgeModule, IsUpperOf, AreUppers}
use Rattle.bmp_sheaf.proofs.SharedValues.{value_read}
use Rattle.bmp_sheaf.proofs.UpEdges.{GoesUp}
use Rattle.bmp_sheaf.proofs.UpperTableLemmas.{upper_map_is}
use Rattle.bmp_math.proofs.SameMatrices.{numbers_below_same}
use Rattle.bmp_sheaf.proofs.EdgeMaps.{lower_numbers_below, upper_numbers_below}

-- lifts stand by edge and then by generator
module _ {F : Type 0} (s : SheafState F) (x : ℕ) (degrees : List ℕ) (lifts : List (List Entry))
    (is : IsStalk s x degrees lifts) (e k g : ℕ) (at : IsUpPlace s.graph x e k) (generator : g < length degrees) where
  pub lift_inside : k * length degrees + g < length lifts
  lift_inside = omega (arith, is.counted, mul-add-lt k (length degrees) g (up_count s.graph x) at.within generator)

  room_is : lift_room s x degrees (k * length degrees + g) ≡ stalk_count s.graph.rank
      (stalk_of s (upper s.graph e)).degrees (slice_index degrees g)
  room_is =
      let at_edge : (k * length degrees + g) / length degrees ≡ k = div-mul-add k (length degrees) g generator in
      let at_generator : (k * length degrees + g) % length degrees ≡ g = mod-mul-add k (length degrees) g generator in
      let first_is : first_edge s.graph x + k ≡ e = omega (arith, at.first, at.place) in
      let room : ℕ → ℕ → ℕ =
      λ f h. stalk_count s.graph.rank (stalk_of s (upper s.graph f)).degrees (slice_index degrees h) in
      ap₂ room (ap (λ z. first_edge s.graph x + z) at_edge ∙ first_is) at_generator

  pub lift_fits : FitsBelow (slice_index_or lifts (k * length degrees + g) [])
      (stalk_count s.graph.rank (stalk_of s (upper s.graph e)).degrees (slice_index degrees g))
  lift_fits = subst (FitsBelow (slice_index_or lifts (k * length degrees + g) [])) room_is
      (is.fit (k * length degrees + g) lift_inside)

-- those of one edge stand among all
pub edge_lifts_inside : {F : Type 0} (s : SheafState F) (x : ℕ) (degrees : List ℕ) (lifts : List (List Entry))
    (is : IsStalk s x degrees lifts) (e k : ℕ) → IsUpPlace s.graph x e k →
    k * length degrees + length degrees ≤ length lifts
edge_lifts_inside s x degrees lifts is e k at =
    let next : k + 1 ≤ up_count s.graph x = omega (arith, at.within) in
    omega (arith, is.counted, mul-le-mul_right (length degrees) next)

module _ {F : Type 0} (s : SheafState F) (x : ℕ) (t : StalkTable) (is : IsStalkTable s x t) (e : ℕ)
    (below : e < edge_count s.graph) (starts : x ≡ lower s.graph e) where
  module _ (d k : ℕ) (rows : EntryTable) (small : d ≤ s.degree) (place : k ≡ map_place s.graph s.degree e d) where
    pub lower_kept : rows ≡ get_or t.lower k rows →
        SameMatrix (matrix_of_entries rows) (lower_matrix s.graph (sheaf_of s) d e)
    lower_kept read =
        subst (λ r. SameMatrix (matrix_of_entries r) (lower_matrix s.graph (sheaf_of s) d e))
        (sym (read ∙ ap (λ z. get_or t.lower z rows) place)) (is.lower_maps.each e d rows below (sym starts) small)

    pub lower_kept_below : IsOverField s.graph → rows ≡ get_or t.lower k rows →
        NumbersBelow s.graph.prime (matrix_of_entries rows)
    lower_kept_below over read =
        numbers_below_same (lower_kept read) s.graph.prime (lower_numbers_below s.graph over (sheaf_of s) d e below)

  -- the lift on the edge e of the generator g
  module _ (k g : ℕ) (at : IsUpPlace s.graph (lower s.graph e) e k)
      (generator : g < length (stalk_of s (lower s.graph e)).degrees) where
    degrees_are : t.degrees ≡ (stalk_of s (lower s.graph e)).degrees
    degrees_are = is.degrees ∙ ap (λ y. (stalk_of s y).degrees) starts

    here : IsUpPlace s.graph x e k
    here = subst (λ y. IsUpPlace s.graph y e k) (sym starts) at

    module _ (n : ℕ) (v : List Entry) (many : n ≡ length t.degrees) (read : v ≡ slice_index_or t.lifts (k * n + g) v)
      where
        is_generator : g < length t.degrees
        is_generator = omega (arith, generator, ap length degrees_are)

        inside : k * length t.degrees + g < length t.lifts
        inside = lift_inside s x t.degrees t.lifts is.stalk e k g here is_generator

        v_is : slice_index_or t.lifts (k * length t.degrees + g) [] ≡ v
        v_is = sym (get_or_read t.lifts (k * length t.degrees + g) v inside
            (read ∙ ap (λ z. slice_index_or t.lifts (k * z + g) v) many) [])

        pub lift_kept : slice_index_or (stalk_of s (lower s.graph e)).lifts
            (lift_place s.graph (λ y. (stalk_of s y).degrees) e g) [] ≡ v
        lift_kept =
            let lifts_are : t.lifts ≡ (stalk_of s (lower s.graph e)).lifts =
            is.lifts ∙ ap (λ y. (stalk_of s y).lifts) starts in
            ap₂ (λ (vs : List (List Entry)) i. slice_index_or vs i []) (sym lifts_are)
            (ap₂ (λ a b. a * b + g) (sym at.place) (ap length (sym degrees_are))) ∙ v_is

        pub lift_kept_values : ValuesBelow v s.graph.prime
        lift_kept_values =
            subst (λ w. ValuesBelow w s.graph.prime) v_is (is.values (k * length t.degrees + g) [] inside)

        pub lift_kept_fits :
            FitsBelow v (stalk_count s.graph.rank (stalk_of s (upper s.graph e)).degrees
            (slice_index (stalk_of s (lower s.graph e)).degrees g))
        lift_kept_fits =
            subst (λ w. FitsBelow w
            (stalk_count s.graph.rank (stalk_of s (upper s.graph e)).degrees
            (slice_index (stalk_of s (lower s.graph e)).degrees g))) v_is
            (subst (λ y. FitsBelow (slice_index_or t.lifts (k * length t.degrees + g) [])
            (stalk_count s.graph.rank (stalk_of s (upper s.graph e)).degrees (slice_index y g))) degrees_are
            (lift_fits s x t.degrees t.lifts is.stalk e k g here is_generator))

-- the table of a map from an upper end, as it is read
module _ {F Z : Type 0} {s : SheafState F} {x : ℕ} (us : List (Arc UpperTable Z)) (h : AreUppers s x (map arc_value us))
    {e k : ℕ} (up : GoesUp s.graph x e k) where
  pub upper_inside : k < length us
  upper_inside = omega (arith, h.counted, length-map us arc_value, up.at.within)

  pub upper_read : (u : Arc UpperTable Z) → u ≡ get_or us k u → IsUpperOf s e (arc_value u)
  upper_read u read =
      let own : get_or (map arc_value us) (e - first_edge s.graph x) (arc_value u) ≡ arc_value u =
      ap (λ z. get_or (map arc_value us) z (arc_value u)) (sym up.at.place)
      ∙ sym (value_read us k u upper_inside read (arc_value u)) in
      subst (IsUpperOf s e) own (h.each e (arc_value u) up.is_edge up.starts)

-- the rows in a table of upper maps
module _ {F : Type 0} (s : SheafState F) (e : ℕ) (below : e < edge_count s.graph) (d : ℕ) (small : d ≤ s.degree)
    (u : UpperTable) (is : IsUpperTable s.degree u) (module_is : IsEdgeModule s e u.quotient) (rows : EntryTable)
    (read : rows ≡ get_or u.rows d rows) where
  pub upper_kept : SameMatrix (matrix_of_entries rows) (upper_matrix s.graph (sheaf_of s) d e)
  upper_kept =
      subst (SameMatrix (matrix_of_entries rows)) (upper_map_is s e d u.quotient module_is)
      (subst (λ r. SameMatrix (matrix_of_entries r) (upper_map_of u.quotient d)) (sym read)
      (is.each d rows (omega (arith, small))))

  pub upper_kept_below : IsOverField s.graph → NumbersBelow s.graph.prime (matrix_of_entries rows)
  upper_kept_below over =
      numbers_below_same upper_kept s.graph.prime (upper_numbers_below s.graph over (sheaf_of s) d e below)
