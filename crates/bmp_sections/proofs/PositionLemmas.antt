-- Positions are blocks, one for each vertex of the set: tuples over it by their numbers.
use Rattle.std.proofs.Common.{◌≡◌, ℕ, ◌+◌, ◌*◌, ◌%◌, ◌<◌, ◌≤◌, Bool, true, cond, eqb, refl, sym, ap, ◌∙◌, inl, inr, arith, eq-eqb, ne_eqb, List}
use Rattle.std.proofs.lemmas.Bool.{cases_Bool, cases_eq, cond-true, cond-false}
use Rattle.bmp_math.specs.Sums.{sum_below}
use Rattle.bmp_math.specs.Vectors.{SameVector, unit}
use Rattle.bmp_math.specs.Blocks.{joined}
use Rattle.bmp_math.proofs.BlockLemmas.{InBlock, block_of, within_blocks, joined_at, block_once}
use Rattle.bmp_graph.specs.Graph.{Graph, vertex_count}
use Rattle.bmp_sheaf.specs.Elements.{Element, SameElement, zero_element}
use Rattle.bmp_sheaf.specs.Sheaves.{SheafData, Tuple}
use Rattle.bmp_sheaf.specs.Coordinates.{stalk_count, stalk_place}
use Rattle.bmp_sheaf.specs.Numbers.{unit_at}
use Rattle.bmp_sheaf.proofs.StalkPlaces.{stalk_place_below}
use Rattle.bmp_sheaf.proofs.StalkNumbers.{stalk_number, stalk_number_at, numbers_of_element, numbers_of_same}
use Rattle.bmp_sheaf.proofs.EdgeMaps.{element_respects}
use Rattle.bmp_sections.specs.Positions.{position_start, position_count, tuple_of}
use Rattle.bmp_sections.specs.Numbers.{unit_tuple}

module _ (G : Graph) (F : SheafData) (U : ℕ → Bool) (d : ℕ) where
  -- how many positions the vertex z has
  abbrev pub position_size : ℕ → ℕ
  position_size z = cond (U z) (stalk_count G.rank (F.degrees z) d) 0

  -- the number of the tuple at position k
  abbrev pub position_number : Tuple → ℕ → ℕ
  position_number s = joined position_size (λ z. stalk_number G.rank (F.degrees z) d (s z)) (vertex_count G)

  -- the same element of the stalk at y
  abbrev SameAt : ℕ → Element → Element → Type 0
  SameAt y u v = SameElement G.prime G.rank (F.degrees y) d u v

  pub size_is : (y : ℕ) → U y ≡ true → position_size y ≡ stalk_count G.rank (F.degrees y) d
  size_is y here = cond-true {A = ℕ} (U y) (stalk_count G.rank (F.degrees y) d) 0 here

  -- a vertex with positions is in the set
  pub size_positive : (y i : ℕ) → i < position_size y → (U y ≡ true) × (i < stalk_count G.rank (F.degrees y) d)
  size_positive y i inside = elim (cases_Bool (U y)) [
    | inl here ↦ (here, omega (arith, inside, size_is y here))
    | inr out ↦
        let none : position_size y ≡ 0 = cond-false {A = ℕ} (U y) (stalk_count G.rank (F.degrees y) d) 0 out in
        absurd (omega (arith, inside, none))
  ]

  pub position_below : (y i : ℕ) → y < vertex_count G → U y ≡ true → i < stalk_count G.rank (F.degrees y) d →
      position_start G F U d y + i < position_count G F U d
  position_below y i below here inside =
      within_blocks position_size (vertex_count G) y i below (omega (arith, inside, size_is y here))

  -- each position is one of a vertex of the set
  pub record HasPosition (k : ℕ) : Type 0 where
    pub vertex : ℕ
    pub place : ℕ
    pub is_vertex : vertex < vertex_count G
    pub here : U vertex ≡ true
    pub inside : place < stalk_count G.rank (F.degrees vertex) d
    pub is : k ≡ position_start G F U d vertex + place

  pub has_position : (k : ℕ) → k < position_count G F U d → HasPosition k
  has_position k below =
      let in_block : InBlock position_size (vertex_count G) k = block_of position_size (vertex_count G) k below in
      let parts = size_positive in_block.block in_block.place in_block.inside in
      record {
        vertex = in_block.block;
        place = in_block.place;
        is_vertex = in_block.below;
        here = parts.0;
        inside = parts.1;
        is = in_block.is;
      }

  pub position_number_at : (s : Tuple) (y i : ℕ) → y < vertex_count G → U y ≡ true →
      i < stalk_count G.rank (F.degrees y) d → position_number s (position_start G F U d y + i)
      ≡ stalk_number G.rank (F.degrees y) d (s y) i
  position_number_at s y i below here inside =
      joined_at position_size (λ z. stalk_number G.rank (F.degrees z) d (s z)) (vertex_count G) y i below
      (omega (arith, inside, size_is y here))

  -- the tuple with the numbers of s is s, and the numbers of the tuple with the numbers t are t
  pub tuple_of_positions : (s : Tuple) (y : ℕ) → G.rank ≤ 6 → y < vertex_count G → U y ≡ true →
      SameAt y (tuple_of G F U d (position_number s) y) (s y)
  tuple_of_positions s y wide below here g k has m is =
      ap (λ z. z % G.prime)
      (position_number_at s y (stalk_place G.rank (F.degrees y) d g m) below here
      (stalk_place_below 6 G.rank d g k (F.degrees y) m wide has is)
      ∙ stalk_number_at G.rank (F.degrees y) d (s y) g k m wide has is)

  pub positions_of_tuple : (t : ℕ → ℕ) (k : ℕ) → G.rank ≤ 6 → k < position_count G F U d →
      position_number (tuple_of G F U d t) k ≡ t k
  positions_of_tuple t k wide below =
      let at : HasPosition k = has_position k below in
      ap (position_number (tuple_of G F U d t)) at.is
      ∙ position_number_at (tuple_of G F U d t) at.vertex at.place at.is_vertex at.here at.inside
      ∙ numbers_of_element G.rank (F.degrees at.vertex) d (λ i. t (position_start G F U d at.vertex + i)) at.place wide
      at.inside
      ∙ ap t (sym at.is)

  -- numbers decide tuples
  pub tuple_of_same : (v w : ℕ → ℕ) (y : ℕ) → G.rank ≤ 6 → y < vertex_count G → U y ≡ true →
      SameVector G.prime (position_count G F U d) v w → SameAt y (tuple_of G F U d v y) (tuple_of G F U d w y)
  tuple_of_same v w y wide below here same =
      element_respects G.prime G.rank (F.degrees y) d (λ i. v (position_start G F U d y + i))
      (λ i. w (position_start G F U d y + i)) wide
      (λ i inside. same (position_start G F U d y + i) (position_below y i below here inside))

  pub positions_of_same : (s t : Tuple) → G.rank ≤ 6 →
      ((y : ℕ) → y < vertex_count G → U y ≡ true → SameAt y (s y) (t y)) →
      SameVector G.prime (position_count G F U d) (position_number s) (position_number t)
  positions_of_same s t wide same k below =
      let at : HasPosition k = has_position k below in
      let number : (w : Tuple) → position_number w k ≡ stalk_number G.rank (F.degrees at.vertex) d (w at.vertex)
      at.place =
      λ w. ap (position_number w) at.is ∙ position_number_at w at.vertex at.place at.is_vertex at.here at.inside in
      ap (λ z. z % G.prime) (number s)
      ∙ numbers_of_same G.rank (F.degrees at.vertex) d G.prime (s at.vertex) (t at.vertex) wide
      (same at.vertex at.is_vertex at.here) at.place at.inside
      ∙ ap (λ z. z % G.prime) (sym (number t))

  -- a tuple is linear in its numbers
  pub tuple_of-plus : (v w : ℕ → ℕ) (y g : ℕ) (m : List ℕ) → tuple_of G F U d (λ i. v i + w i) y g m
      ≡ tuple_of G F U d v y g m + tuple_of G F U d w y g m
  tuple_of-plus v w y g m = refl

  pub tuple_of-times : (c : ℕ) (v : ℕ → ℕ) (y g : ℕ) (m : List ℕ) → tuple_of G F U d (λ i. c * v i) y g m
      ≡ c * tuple_of G F U d v y g m
  tuple_of-times c v y g m = refl

  pub tuple_of-combination : (c : ℕ → ℕ) (v : ℕ → ℕ → ℕ) (n y g : ℕ) (m : List ℕ) →
      tuple_of G F U d (λ i. sum_below (λ j. c j * v j i) n) y g m ≡ sum_below (λ j. c j * tuple_of G F U d (v j) y g m)
      n
  tuple_of-combination c v n y g m = refl

  -- the tuple that is 1 at position j of y is the stalk's unit at y, and 0 at the other vertices
  pub unit_tuple_here :
      (y j : ℕ) → SameAt y (unit_tuple G F U d (position_start G F U d y + j) y) (unit_at G.rank (F.degrees y) d j)
  unit_tuple_here y j g k has m is =
      ap (λ z. z % G.prime) (moved (position_start G F U d y) j (stalk_place G.rank (F.degrees y) d g m))
    where
      moved : (a i k : ℕ) → unit (a + i) (a + k) ≡ unit i k
      moved a i k = elim (cases_eq i k) [
        | inl same ↦
            cond-true {A = ℕ} (eqb (a + i) (a + k)) 1 0 (eq-eqb (a + i) (a + k) (omega arith))
            ∙ sym (cond-true {A = ℕ} (eqb i k) 1 0 (eq-eqb i k same))
        | inr other ↦
            cond-false {A = ℕ} (eqb (a + i) (a + k)) 1 0 (ne_eqb (a + i) (a + k) (λ e. other (omega arith)))
            ∙ sym (cond-false {A = ℕ} (eqb i k) 1 0 (ne_eqb i k other))
      ]

  pub unit_tuple_elsewhere :
      (y j z : ℕ) → G.rank ≤ 6 → U y ≡ true → j < stalk_count G.rank (F.degrees y) d → U z ≡ true → (y ≡ z → ⊥) →
      SameAt z (unit_tuple G F U d (position_start G F U d y + j) z) zero_element
  unit_tuple_elsewhere y j z wide y_here j_inside z_here other g k has m is =
      let i = stalk_place G.rank (F.degrees z) d g m in
      let inside : stalk_place G.rank (F.degrees z) d g m < stalk_count G.rank (F.degrees z) d =
      stalk_place_below 6 G.rank d g k (F.degrees z) m wide has is in
      let apart : position_start G F U d y + j ≡ position_start G F U d z + i → ⊥ =
      λ same. other (block_once position_size y z j i (omega (arith, j_inside, size_is y y_here))
      (omega (arith, inside, size_is z z_here)) same).0 in
      ap (λ n. n % G.prime)
      (cond-false {A = ℕ} (eqb (position_start G F U d y + j) (position_start G F U d z + i)) 1 0
      (ne_eqb (position_start G F U d y + j) (position_start G F U d z + i) apart))
