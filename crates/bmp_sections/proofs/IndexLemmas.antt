-- Positions and equations over the vertices above x, vertex after vertex and edge after edge.
use Rattle.std.proofs.Common.{◌≡◌, ◌≢◌, ℕ, zero, suc, ◌+◌, ◌-◌, ◌^◌, ◌<◌, ◌≤◌, ◌&&◌, Bool, true, false, List, [], ◌∷◌, length, get_or, set, Some, slice_get, true≢false, get_or-set_same, get_or-set_other, refl, sym, ap, ap₂, subst, ◌∙◌, inl, inr, arith}
use Rattle.std.proofs.lemmas.List.{length-set, get_or_read}
use Rattle.std.proofs.lemmas.Option.{get_or_from_slice_get, slice_get-get_or}
use Rattle.std.proofs.lemmas.Bool.{cases_eq, cases_lt, cond-true, cond-false, and_from, and_left}
use Rattle.bmp_math.specs.Sums.{sum_below}
use Rattle.bmp_math.proofs.SumLemmas.{sum_below-zero, sum_below_more, sum_below_rises, sum_below_same, sum_below_joined, sum_below-zeros}
use Rattle.bmp_graph.specs.Graph.{Graph, IsGraph, IsUpRange, vertex_count, edge_count, lower, upper}
use Rattle.bmp_sheaf.specs.Sheaves.{SheafData}
use Rattle.bmp_sheaf.specs.Coordinates.{stalk_count, edge_module_count}
use Rattle.bmp_sheaf.specs.Written.{first_edge}
use Rattle.bmp_sheaf.proofs.UpEdges.{first_edge_is}
use Rattle.bmp_sections.specs.Positions.{position_start, position_count, equation_start, equation_count}
use Rattle.bmp_sections.specs.Numbers.{is_above}
use Rattle.bmp_sections.specs.declared.index.EquationPlace.{EquationPlace}
use Rattle.bmp_sections.specs.declared.index.SectionIndex.{SectionIndex}
use Rattle.bmp_sections.specs.Indexes.{HasPlace, IsIndexed, IsIndexedBelow}
use Rattle.bmp_sections.proofs.AboveLemmas.{upper_is_above}
use Rattle.bmp_sections.proofs.PositionLemmas.{position_size, size_is}
use Rattle.bmp_sections.proofs.EquationNumbers.{equation_size, HasEquation, has_equation}
use Rattle.bmp_sections.proofs.FirstEdges.{first_edge-zero, first_edge-all, first_edge_next}

module _ (G : Graph) (F : SheafData) (x d : ℕ) where
  abbrev U : ℕ → Bool
  U = is_above G x

  pub positions_none : position_start G F (is_above G x) d 0 ≡ 0
  positions_none = sum_below-zero (position_size G F (is_above G x) d)

  pub positions_go_on : (y : ℕ) → is_above G x y ≡ true → position_start G F (is_above G x) d (y + 1)
      ≡ position_start G F (is_above G x) d y + stalk_count G.rank (F.degrees y) d
  positions_go_on y here = sum_below_more (position_size G F (is_above G x) d) y
      ∙ ap (λ n. position_start G F (is_above G x) d y + n) (size_is G F (is_above G x) d y here)

  pub positions_stay : (y : ℕ) → is_above G x y ≡ false → position_start G F (is_above G x) d (y + 1)
      ≡ position_start G F (is_above G x) d y
  positions_stay y out =
      let none : position_size G F (is_above G x) d y ≡ 0 =
      cond-false {A = ℕ} (is_above G x y) (stalk_count G.rank (F.degrees y) d) 0 out in
      omega (arith, sum_below_more (position_size G F (is_above G x) d) y, none)

  -- the positions of a vertex are within all
  pub positions_within : (y : ℕ) → y < vertex_count G → is_above G x y ≡ true →
      position_start G F (is_above G x) d y + stalk_count G.rank (F.degrees y) d ≤ position_count G F (is_above G x) d
  positions_within y below here =
      omega (
        arith,
        positions_go_on y here,
        sum_below_rises (position_size G F (is_above G x) d) (y + 1) (vertex_count G) (omega (arith, below)),
      )

  pub equations_none : equation_start G F (is_above G x) d (first_edge G 0) ≡ 0
  equations_none = ap (equation_start G F (is_above G x) d) (first_edge-zero G)
      ∙ sum_below-zero (equation_size G F (is_above G x) d)

  pub equations_all : IsGraph G → equation_start G F (is_above G x) d (first_edge G (vertex_count G))
      ≡ equation_count G F (is_above G x) d
  equations_all is = ap (equation_start G F (is_above G x) d) (first_edge-all G is)

  pub equations_go_on : IsGraph G → (e : ℕ) → e < edge_count G → is_above G x (lower G e) ≡ true →
      equation_start G F (is_above G x) d (e + 1) ≡ equation_start G F (is_above G x) d e + edge_module_count G F d e
  equations_go_on is e below low =
      sum_below_more (equation_size G F (is_above G x) d) e
      ∙ ap (λ n. equation_start G F (is_above G x) d e + n)
      (cond-true {A = ℕ} (U (lower G e) && U (upper G e)) (edge_module_count G F d e) 0
      (and_from (U (lower G e)) (U (upper G e)) low (upper_is_above G is x e below low)))

  pub equations_within : IsGraph G → (e : ℕ) → e < edge_count G → is_above G x (lower G e) ≡ true →
      equation_start G F (is_above G x) d e + edge_module_count G F d e ≤ equation_count G F (is_above G x) d
  equations_within is e below low =
      omega (
        arith,
        equations_go_on is e below low,
        sum_below_rises (equation_size G F (is_above G x) d) (e + 1) (edge_count G) (omega (arith, below)),
      )

  module _ (y from to : ℕ) (range : IsUpRange G y from to) where
    pub starts_at : equation_start G F (is_above G x) d (first_edge G y) ≡ equation_start G F (is_above G x) d from
    starts_at = ap (equation_start G F (is_above G x) d) (first_edge_is G y from to range)

    pub ends_at : equation_start G F (is_above G x) d to ≡ equation_start G F (is_above G x) d (first_edge G (y + 1))
    ends_at = sym (ap (equation_start G F (is_above G x) d) (first_edge_next G y from to range))

    -- the edges from a vertex that isn't in the set have no equations
    pub equations_stay : is_above G x y ≡ false → equation_start G F (is_above G x) d (first_edge G (y + 1))
        ≡ equation_start G F (is_above G x) d (first_edge G y)
    equations_stay out =
        let sizes : ℕ → ℕ = equation_size G F (is_above G x) d in
        let all : from + (to - from) ≡ to = omega (arith, range.ordered) in
        let none : sum_below (λ k. equation_size G F (is_above G x) d (from + k)) (to - from) ≡ 0 =
        sum_below_same (λ k. equation_size G F (is_above G x) d (from + k)) (λ k. 0) (to - from)
        (λ k l.
        let low : lower G (from + k) ≡ y = range.inside (from + k) (omega arith) (omega (arith, l)) in
        cond-false {A = ℕ} (U (lower G (from + k)) && U (upper G (from + k))) (edge_module_count G F d (from + k)) 0
        (and_left (U (lower G (from + k))) (U (upper G (from + k))) (ap (is_above G x) low ∙ out)))
        ∙ sum_below-zeros (to - from) in
        sym ends_at ∙ ap (equation_start G F (is_above G x) d) (sym all) ∙ sum_below_joined sizes from (to - from)
        ∙ ap (λ n. sum_below sizes from + n) none ∙ add_none (sum_below sizes from) ∙ sym starts_at
      where
        add_none : (n : ℕ) → n + 0 ≡ n
        add_none n = omega arith

    -- which edges go up from the vertices up to y
    pub edges_before : (e : ℕ) → e < from → lower G e < y
    edges_before = range.before

    pub edges_until : (e : ℕ) → e < edge_count G → lower G e < y + 1 → e < to
    edges_until e below least = elim (cases_lt e to) [
      | inl inside ↦ inside
      | inr past ↦ absurd (omega (arith, range.after e past below, least))
    ]

-- an entry of a list after another was written
pub get_set_same : {X : Type 0} (xs : List X) (k : ℕ) (v : X) → k < length xs → slice_get (set xs k v) k ≡ Some v
get_set_same xs k v within =
    slice_get-get_or (set xs k v) k v (omega (arith, within, length-set xs k v))
    ∙ ap Some (get_or-set_same xs k v v within)

pub get_set_other : {X : Type 0} (xs : List X) (k j : ℕ) (v : X) → j ≢ k → slice_get (set xs k v) j ≡ slice_get xs j
get_set_other [] k j v other = refl
get_set_other (x ∷ xs) zero zero v other = absurd (other refl)
get_set_other (x ∷ xs) zero (suc j) v other = refl
get_set_other (x ∷ xs) (suc k) zero v other = refl
get_set_other (x ∷ xs) (suc k) (suc j) v other = get_set_other xs k j v (λ same. other (ap suc same))

-- an equation of a filled index
module _ (G : Graph) (F : SheafData) (x d : ℕ) where
  pub record IsPlaceOf (k : ℕ) (place : EquationPlace) : Type 0 where
    pub edge : place.edge < edge_count G
    pub low : is_above G x (lower G place.edge) ≡ true
    pub inside : place.coordinate < edge_module_count G F d place.edge
    pub is : k ≡ equation_start G F (is_above G x) d place.edge + place.coordinate

  pub place_of : (index : SectionIndex) → IsIndexed G F x d index → (k : ℕ) → k < index.equations →
      (place : EquationPlace) → place ≡ get_or index.places.items k place → IsPlaceOf k place
  place_of index indexed k below place is =
      let within : k < equation_count G F (is_above G x) d = omega (arith, below, indexed.equations) in
      let at : HasEquation G F (is_above G x) d k = has_equation G F (is_above G x) d k within in
      let stands = ap (slice_get index.places.items) at.is
      ∙ indexed.places at.edge at.place at.is_edge at.low at.inside in
      let same : place ≡ record { edge = at.edge; coordinate = at.place } =
      is ∙ get_or_from_slice_get index.places.items k (record { edge = at.edge; coordinate = at.place }) place
      stands in
      subst (IsPlaceOf k) (sym same) (record { edge = at.is_edge; low = at.low; inside = at.inside; is = at.is })

  -- the start of a vertex, as it is read
  pub start_at : (index : SectionIndex) → IsIndexed G F x d index → (y z value : ℕ) → z ≡ y → y < vertex_count G →
      is_above G x y ≡ true → value ≡ get_or index.starts.items z value → value ≡ position_start G F (is_above G x) d y
  start_at index indexed y z value same below here is =
      let within : z < length index.starts.items = omega (arith, same, below, indexed.vertices_within) in
      get_or_read index.starts.items z value within is 0 ∙ ap (λ k. get_or index.starts.items k 0) same
      ∙ indexed.starts y below here

-- the places of the equations of an edge, one after another
pub places_more :
    (xs : List EquationPlace) (start edge n at : ℕ) → at ≡ start + n → at < length xs →
    ((i : ℕ) → i < n → slice_get xs (start + i) ≡ Some (record { edge = edge; coordinate = i })) →
    (i : ℕ) → i < n + 1 → slice_get (set xs at (record { edge = edge; coordinate = n })) (start + i)
    ≡ Some (record { edge = edge; coordinate = i })
places_more xs start edge n at is within so_far i below =
    let place : ℕ → EquationPlace = λ j. record { edge = edge; coordinate = j } in
    elim (cases_eq i n) [
      | inl last ↦
          let here : start + i ≡ at = omega arith in
          ap (slice_get (set xs at (place n))) here ∙ get_set_same xs at (place n) within
          ∙ ap (λ j. Some (place j)) (sym last)
      | inr other ↦ get_set_other xs at (start + i) (place n) (λ same. other (omega arith)) ∙ so_far i (omega arith)
    ]

pub places_kept : (xs : List EquationPlace) (start n at : ℕ) (place : EquationPlace) → at ≡ start + n →
    (k : ℕ) → k < start → slice_get (set xs at place) k ≡ slice_get xs k
places_kept xs start n at place is k below = get_set_other xs at k place (λ same. absurd (omega arith))

-- an index that is being filled
module _ (G : Graph) (F : SheafData) (x d : ℕ) where
  pub indexed_none : (index : SectionIndex) → index.positions ≡ 0 → index.equations ≡ 0 → IsIndexedBelow G F x d 0 index
  indexed_none index no_positions no_equations = record {
    positions = no_positions ∙ sym (positions_none G F x d);
    equations = no_equations ∙ sym (equations_none G F x d);
    starts = λ y below. absurd (omega arith);
    places = λ e i is_edge below. absurd (omega arith);
  }

  pub indexed_all :
      (index : SectionIndex) (n : ℕ) → IsGraph G → n ≡ vertex_count G → IsIndexedBelow G F x d n index →
      position_count G F (is_above G x) d < 2 ^ 32 → vertex_count G ≤ length index.starts.items →
      equation_count G F (is_above G x) d ≤ length index.places.items → IsIndexed G F x d index
  indexed_all index n is all below few vertices equations = record {
    positions = below.positions ∙ ap (position_start G F (is_above G x) d) all;
    equations = below.equations ∙ ap (λ m. equation_start G F (is_above G x) d (first_edge G m)) all
        ∙ equations_all G F x d is;
    few_positions = few;
    vertices_within = vertices;
    equations_within = equations;
    starts = λ y is_vertex here. below.starts y (omega arith) here;
    places = λ e i is_edge low inside. below.places e i is_edge
        (let end : lower G e < vertex_count G = (is.ends e is_edge).0 in omega arith) low inside;
  }

  -- of the vertices up to y, and of the edges before this one
  pub record IsFilledTo (y edge : ℕ) (index : SectionIndex) : Type 0 where
    pub positions : index.positions ≡ position_start G F (is_above G x) d (y + 1)
    pub equations : index.equations ≡ equation_start G F (is_above G x) d edge
    pub starts : (z : ℕ) → z < y + 1 → is_above G x z ≡ true →
        get_or index.starts.items z 0 ≡ position_start G F (is_above G x) d z
    pub places : (e i : ℕ) → e < edge → is_above G x (lower G e) ≡ true → i < edge_module_count G F d e →
        HasPlace G F x d index e i

  module _ (y from to : ℕ) (range : IsUpRange G y from to) where
    -- a vertex that isn't in the set
    pub indexed_skipped : (index : SectionIndex) → is_above G x y ≡ false → IsIndexedBelow G F x d y index →
        IsIndexedBelow G F x d (y + 1) index
    indexed_skipped index out below = record {
      positions = below.positions ∙ sym (positions_stay G F x d y out);
      equations = below.equations ∙ sym (equations_stay G F x d y from to range out);
      starts = λ z before here. elim (cases_eq z y) [
        | inl same ↦ absurd (true≢false (sym here ∙ ap (is_above G x) same ∙ out))
        | inr other ↦ below.starts z (omega arith) here
      ];
      places = λ e i is_edge before low inside. elim (cases_eq (lower G e) y) [
        | inl same ↦ absurd (true≢false (sym low ∙ ap (is_above G x) same ∙ out))
        | inr other ↦ below.places e i is_edge (omega arith) low inside
      ];
    }

    -- the vertex's start is written
    pub filled_none :
        (old new : SectionIndex) (len : ℕ) → IsIndexedBelow G F x d y old → is_above G x y ≡ true →
        y < length old.starts.items → len ≡ stalk_count G.rank (F.degrees y) d →
        new.positions ≡ old.positions + len → new.equations ≡ old.equations →
        new.starts.items ≡ set old.starts.items y old.positions → new.places.items ≡ old.places.items →
        IsFilledTo y from new
    filled_none old new len below here within is_len is_positions is_equations is_starts is_places = record {
      positions = is_positions ∙ ap₂ (λ a b. a + b) below.positions is_len ∙ sym (positions_go_on G F x d y here);
      equations = is_equations ∙ below.equations ∙ starts_at G F x d y from to range;
      starts = λ z before z_here. elim (cases_eq z y) [
        | inl same ↦
            ap₂ (λ l k. get_or l k 0) is_starts same ∙ get_or-set_same old.starts.items y old.positions 0 within
            ∙ below.positions ∙ ap (position_start G F (is_above G x) d) (sym same)
        | inr other ↦
            ap (λ l. get_or l z 0) is_starts ∙ get_or-set_other old.starts.items y z old.positions 0 other
            ∙ below.starts z (omega arith) z_here
      ];
      places = λ e i before low inside.
          ap (λ l. slice_get l (equation_start G F (is_above G x) d e + i)) is_places
          ∙ below.places e i (omega (arith, range.ordered, range.within)) (range.before e before) low inside;
    }

    -- one edge more
    pub filled_more :
        IsGraph G → (edge count : ℕ) (old new : SectionIndex) → from ≤ edge → edge < to → is_above G x y ≡ true →
        count ≡ edge_module_count G F d edge → IsFilledTo y edge old →
        new.positions ≡ old.positions → new.equations ≡ old.equations + count → new.starts.items ≡ old.starts.items →
        ((i : ℕ) → i < count → slice_get new.places.items (old.equations + i)
        ≡ Some (record { edge = edge; coordinate = i })) →
        ((k : ℕ) → k < old.equations → slice_get new.places.items k ≡ slice_get old.places.items k) →
        IsFilledTo y (edge + 1) new
    filled_more is edge count old new past before here is_count so_far is_positions is_equations is_starts added kept =
        let is_edge : edge < edge_count G = omega (arith, range.within) in
        let low : is_above G x (lower G edge) ≡ true = ap (is_above G x) (range.inside edge past before) ∙ here in
        record {
          positions = is_positions ∙ so_far.positions;
          equations = is_equations ∙ ap₂ (λ a b. a + b) so_far.equations is_count
              ∙ sym (equations_go_on G F x d is edge is_edge low);
          starts = λ z below z_here. ap (λ l. get_or l z 0) is_starts ∙ so_far.starts z below z_here;
          places = λ e i below e_low inside. elim (cases_eq e edge) [
            | inl same ↦
                let inside_last : i < count =
                subst (λ f. i < f) (sym (is_count ∙ ap (edge_module_count G F d) (sym same))) inside in
                ap (λ f. slice_get new.places.items (equation_start G F (is_above G x) d f + i)) same
                ∙ ap (λ n. slice_get new.places.items (n + i)) (sym so_far.equations)
                ∙ added i inside_last
                ∙ ap (λ f. Some (record { edge = f; coordinate = i })) (sym same)
            | inr other ↦
                let ends : equation_start G F (is_above G x) d (e + 1) ≤ equation_start G F (is_above G x) d edge =
                sum_below_rises (equation_size G F (is_above G x) d) (e + 1) edge (omega arith) in
                let earlier : equation_start G F (is_above G x) d e + i < old.equations =
                omega (arith, ends, inside, so_far.equations, equations_go_on G F x d is e (omega arith) e_low) in
                kept (equation_start G F (is_above G x) d e + i) earlier ∙ so_far.places e i (omega arith) e_low inside
          ];
        }

    pub filled_all : (edge : ℕ) (index : SectionIndex) → edge ≡ to → IsFilledTo y edge index →
        IsIndexedBelow G F x d (y + 1) index
    filled_all edge index all filled = record {
      positions = filled.positions;
      equations = filled.equations ∙ ap (equation_start G F (is_above G x) d) all ∙ ends_at G F x d y from to range;
      starts = filled.starts;
      places = λ e i is_edge below low inside. filled.places e i
          (subst (λ m. e < m) (sym all) (edges_until G F x d y from to range e is_edge below)) low inside;
    }
