-- The edge equations as numbers: they are linear in the tuple, all of them are 0 exactly where it is a section, and
-- their matrix has the numbers of the two maps to each edge module.
use Rattle.std.proofs.Common.{◌≡◌, ℕ, zero, suc, ◌+◌, ◌-◌, ◌*◌, ◌%◌, ◌<◌, ◌≤◌, ◌&&◌, Bool, true, cond, refl, sym, ap, ap₂, ◌∙◌, inl, inr, arith}
use Rattle.std.proofs.Math.Nat.{mod-mod, mod-lt, mod-eq_of_lt, add-mod}
use Rattle.std.proofs.lemmas.Bool.{cases_Bool, and_parts, and_from, cond-true, cond-false}
use Rattle.bmp_math.specs.Sums.{sum_below}
use Rattle.bmp_math.specs.Congruences.{SameMod}
use Rattle.bmp_math.specs.Vectors.{IsLinear}
use Rattle.bmp_math.specs.Matrices.{NumbersBelow, image}
use Rattle.bmp_math.proofs.CongruenceLemmas.{same_add, same_mul, same_minus, minus_same, same_below}
use Rattle.bmp_math.proofs.BlockLemmas.{InBlock, block_of, within_blocks, joined_at, joined_each}
use Rattle.bmp_math.proofs.SumLemmas.{sum_of_steps}
use Rattle.bmp_math.proofs.MatrixLemmas.{matrix_of_linear}
use Rattle.bmp_graph.specs.Graph.{Graph, vertex_count, edge_count, lower, upper}
use Rattle.bmp_graph.proofs.GraphLemmas.{edge_rises}
use Rattle.bmp_sheaf.specs.Fields.{IsOverField}
use Rattle.bmp_sheaf.specs.Elements.{SameElement, zero_element}
use Rattle.bmp_sheaf.specs.Sheaves.{SheafData, Tuple, lift_of}
use Rattle.bmp_sheaf.specs.Coordinates.{stalk_count, edge_module_count}
use Rattle.bmp_sheaf.specs.Numbers.{on_edge, unit_at, lower_number, upper_number}
use Rattle.bmp_sheaf.proofs.EdgeLabels.{label_leads}
use Rattle.bmp_sheaf.proofs.OnEdge.{on_edge_below, on_edge_same, same_on_edge, on_edge_respects, on_edge-plus, on_edge-times, on_edge-zero}
use Rattle.bmp_sheaf.proofs.LiftLaws.{lift_same, lift_zero, lift_plus, lift_times}
use Rattle.bmp_sheaf.proofs.ElementLaws.{same_chained}
use Rattle.bmp_sections.specs.Sections.{IsSection, above}
use Rattle.bmp_sections.specs.Positions.{position_start, position_count, tuple_of, equation_start, equation_count}
use Rattle.bmp_sections.specs.Numbers.{is_above, equation_number, unit_tuple, equation_matrix}
use Rattle.bmp_sections.specs.Statements.{EquationNumbersDecide}
use Rattle.bmp_sections.proofs.AboveLemmas.{above_from_test, test_from_above, upper_is_above}
use Rattle.bmp_sections.proofs.SectionLaws.{section_subset}
use Rattle.bmp_sections.proofs.PositionLemmas.{tuple_of_same, unit_tuple_here, unit_tuple_elsewhere}

-- the remainder of x less y
module _ (p : ℕ) where
  abbrev less : ℕ → ℕ → ℕ
  less x y = (x + (p - 1) * y) % p

  less_plus : (x y a b v w : ℕ) → SameMod p x (a + b) → SameMod p y (v + w) → SameMod p (less x y) (less a v + less b w)
  less_plus x y a b v w x_is y_is =
      let apart : (a + b) + (p - 1) * (v + w) ≡ (a + (p - 1) * v) + (b + (p - 1) * w) = omega arith in
      mod-mod (x + (p - 1) * y) p
      ∙ same_add p x (a + b) ((p - 1) * y) ((p - 1) * (v + w)) x_is (same_mul p (p - 1) (p - 1) y (v + w) refl y_is)
      ∙ ap (λ z. z % p) apart
      ∙ add-mod (a + (p - 1) * v) (b + (p - 1) * w) p

  less_times : (c x y a v : ℕ) → SameMod p x (c * a) → SameMod p y (c * v) → SameMod p (less x y) (c * less a v)
  less_times c x y a v x_is y_is =
      let apart : c * a + (p - 1) * (c * v) ≡ c * (a + (p - 1) * v) = omega arith in
      mod-mod (x + (p - 1) * y) p
      ∙ same_add p x (c * a) ((p - 1) * y) ((p - 1) * (c * v)) x_is (same_mul p (p - 1) (p - 1) y (c * v) refl y_is)
      ∙ ap (λ z. z % p) apart
      ∙ same_mul p c c (a + (p - 1) * v) (less a v) refl (sym (mod-mod (a + (p - 1) * v) p))

less_same : (p x : ℕ) → 0 < p → less p x x ≡ 0
less_same zero x some = absurd (omega arith)
less_same (suc q) x some =
    let one_fewer : suc q - 1 ≡ q = omega arith in
    ap (λ z. (x + z * x) % suc q) one_fewer ∙ minus_same q x x refl
    ∙ mod-eq_of_lt (let less : 0 < suc q = omega arith in less)

same_less : (p x y : ℕ) → x < p → y < p → less p x y ≡ 0 → x ≡ y
same_less zero x y x_below y_below h = absurd (omega arith)
same_less (suc q) x y x_below y_below h =
    let one_fewer : suc q - 1 ≡ q = omega arith in
    let zero_is : 0 % suc q ≡ 0 = mod-eq_of_lt (let less : 0 < suc q = omega arith in less) in
    same_below (suc q) x y x_below y_below
    (same_minus q x y (ap (λ z. (x + z * y) % suc q) (sym one_fewer) ∙ h ∙ sym zero_is))

less_none : (p x : ℕ) → x < p → less p x 0 ≡ x
less_none p x below = let whole : x + (p - 1) * 0 ≡ x = omega arith in ap (λ z. z % p) whole ∙ mod-eq_of_lt below

module _ (G : Graph) (F : SheafData) (U : ℕ → Bool) (d : ℕ) where
  -- how many equations the edge e has
  abbrev pub equation_size : ℕ → ℕ
  equation_size e = cond (U (lower G e) && U (upper G e)) (edge_module_count G F d e) 0

  -- equation i of the edge e
  abbrev pub edge_equation : Tuple → ℕ → ℕ → ℕ
  edge_equation s e i =
      less G.prime (on_edge G F d e (lift_of G F e d (s (lower G e))) i) (on_edge G F d e (s (upper G e)) i)

  -- equation k is one of an edge with both ends in the set
  pub record HasEquation (k : ℕ) : Type 0 where
    pub edge : ℕ
    pub place : ℕ
    pub is_edge : edge < edge_count G
    pub low : U (lower G edge) ≡ true
    pub high : U (upper G edge) ≡ true
    pub inside : place < edge_module_count G F d edge
    pub is : k ≡ equation_start G F U d edge + place

  size_is : (e : ℕ) → U (lower G e) ≡ true → U (upper G e) ≡ true → equation_size e ≡ edge_module_count G F d e
  size_is e low high =
      cond-true {A = ℕ} (U (lower G e) && U (upper G e)) (edge_module_count G F d e) 0
      (and_from (U (lower G e)) (U (upper G e)) low high)

  pub has_equation : (k : ℕ) → k < equation_count G F U d → HasEquation k
  has_equation k below =
      let in_block : InBlock equation_size (edge_count G) k = block_of equation_size (edge_count G) k below in
      let e = in_block.block in
      elim (cases_Bool (U (lower G e) && U (upper G e))) [
        | inl both ↦
            let parts = and_parts (U (lower G e)) (U (upper G e)) both in
            record {
              edge = e;
              place = in_block.place;
              is_edge = in_block.below;
              low = parts.0;
              high = parts.1;
              inside = omega (arith, in_block.inside, size_is e parts.0 parts.1);
              is = in_block.is;
            }
        | inr out ↦
            let none : equation_size e ≡ 0 =
            cond-false {A = ℕ} (U (lower G e) && U (upper G e)) (edge_module_count G F d e) 0 out in
            absurd (omega (arith, in_block.inside, none))
      ]

  pub equation_below_count : (e i : ℕ) → e < edge_count G → U (lower G e) ≡ true → U (upper G e) ≡ true →
      i < edge_module_count G F d e → equation_start G F U d e + i < equation_count G F U d
  equation_below_count e i is_edge low high inside =
      within_blocks equation_size (edge_count G) e i is_edge (omega (arith, inside, size_is e low high))

  pub equation_at : (s : Tuple) (e i : ℕ) → e < edge_count G → U (lower G e) ≡ true → U (upper G e) ≡ true →
      i < edge_module_count G F d e → equation_number G F U d s (equation_start G F U d e + i) ≡ edge_equation s e i
  equation_at s e i is_edge low high inside =
      joined_at equation_size (edge_equation s) (edge_count G) e i is_edge (omega (arith, inside, size_is e low high))

  equation_is : (s : Tuple) (k : ℕ) (at : HasEquation k) →
      equation_number G F U d s k ≡ edge_equation s at.edge at.place
  equation_is s k at = ap (equation_number G F U d s) at.is
      ∙ equation_at s at.edge at.place at.is_edge at.low at.high at.inside

  module _ (over : IsOverField G) where
    some : 0 < G.prime
    some = omega (arith, over.two)

    -- the labels have at most six variables, where there is one
    wide : (e : ℕ) → e < edge_count G → G.rank ≤ 6
    wide e is_edge = (label_leads G over e is_edge).rank

    pub equation_below : (s : Tuple) (k : ℕ) → equation_number G F U d s k < G.prime
    equation_below s =
        joined_each equation_size (edge_equation s) (λ z. z < G.prime) (edge_count G) some
        (λ e i below. mod-lt
        (on_edge G F d e (lift_of G F e d (s (lower G e))) i + (G.prime - 1) * on_edge G F d e (s (upper G e)) i)
        some)

    -- the same element at each vertex of the set
    abbrev pub SameTuple : Tuple → Tuple → Type 0
    SameTuple s t = (y : ℕ) → y < vertex_count G → U y ≡ true → SameElement G.prime G.rank (F.degrees y) d (s y) (t y)

    pub equation_same : (s t : Tuple) → SameTuple s t → (k : ℕ) → k < equation_count G F U d →
        equation_number G F U d s k ≡ equation_number G F U d t k
    equation_same s t same k below =
        let at : HasEquation k = has_equation k below in
        let e = at.edge in
        let ends = over.is_graph.ends e at.is_edge in
        equation_is s k at
        ∙ ap₂ (less G.prime)
        (on_edge_respects G over F d e at.is_edge (lift_of G F e d (s (lower G e))) (lift_of G F e d (t (lower G e)))
        (lift_same G F e d (s (lower G e)) (t (lower G e)) (wide e at.is_edge) (same (lower G e) ends.0 at.low))
        at.place at.inside)
        (on_edge_respects G over F d e at.is_edge (s (upper G e)) (t (upper G e)) (same (upper G e) ends.1 at.high)
        at.place at.inside)
        ∙ sym (equation_is t k at)

    pub equation-plus : (s t : Tuple) (k : ℕ) → k < equation_count G F U d →
        SameMod G.prime (equation_number G F U d (λ y g m. s y g m + t y g m) k)
        (equation_number G F U d s k + equation_number G F U d t k)
    equation-plus s t k below =
        let at : HasEquation k = has_equation k below in
        let e = at.edge in
        let i = at.place in
        let u = s (lower G e) in
        let v = t (lower G e) in
        let lifts : on_edge G F d e (lift_of G F e d (λ g m. s (lower G e) g m + t (lower G e) g m)) i
        ≡ on_edge G F d e (λ g m. lift_of G F e d (s (lower G e)) g m + lift_of G F e d (t (lower G e)) g m) i =
        on_edge_respects G over F d e at.is_edge (lift_of G F e d (λ g m. u g m + v g m))
        (λ g m. lift_of G F e d u g m + lift_of G F e d v g m) (lift_plus G F e d u v) i at.inside in
        ap (λ z. z % G.prime) (equation_is (λ y g m. s y g m + t y g m) k at)
        ∙ less_plus G.prime (on_edge G F d e (lift_of G F e d (λ g m. u g m + v g m)) i)
        (on_edge G F d e (λ g m. s (upper G e) g m + t (upper G e) g m) i)
        (on_edge G F d e (lift_of G F e d u) i) (on_edge G F d e (lift_of G F e d v) i)
        (on_edge G F d e (s (upper G e)) i) (on_edge G F d e (t (upper G e)) i)
        (ap (λ z. z % G.prime) lifts ∙ on_edge-plus G over F d e at.is_edge (lift_of G F e d u) (lift_of G F e d v) i
        at.inside)
        (on_edge-plus G over F d e at.is_edge (s (upper G e)) (t (upper G e)) i at.inside)
        ∙ ap₂ (λ a b. (a + b) % G.prime) (sym (equation_is s k at)) (sym (equation_is t k at))

    pub equation-times : (c : ℕ) (s : Tuple) (k : ℕ) → k < equation_count G F U d →
        SameMod G.prime (equation_number G F U d (λ y g m. c * s y g m) k) (c * equation_number G F U d s k)
    equation-times c s k below =
        let at : HasEquation k = has_equation k below in
        let e = at.edge in
        let i = at.place in
        let u = s (lower G e) in
        let lifts : on_edge G F d e (lift_of G F e d (λ g m. c * s (lower G e) g m)) i
        ≡ on_edge G F d e (λ g m. c * lift_of G F e d (s (lower G e)) g m) i =
        on_edge_respects G over F d e at.is_edge (lift_of G F e d (λ g m. c * u g m)) (λ g m. c * lift_of G F e d u g m)
        (lift_times G F e d c u) i at.inside in
        ap (λ z. z % G.prime) (equation_is (λ y g m. c * s y g m) k at)
        ∙ less_times G.prime c (on_edge G F d e (lift_of G F e d (λ g m. c * u g m)) i)
        (on_edge G F d e (λ g m. c * s (upper G e) g m) i)
        (on_edge G F d e (lift_of G F e d u) i) (on_edge G F d e (s (upper G e)) i)
        (ap (λ z. z % G.prime) lifts ∙ on_edge-times G over F d e at.is_edge c (lift_of G F e d u) i at.inside)
        (on_edge-times G over F d e at.is_edge c (s (upper G e)) i at.inside)
        ∙ ap (λ z. (c * z) % G.prime) (sym (equation_is s k at))

    pub equation-zero : (k : ℕ) → k < equation_count G F U d → equation_number G F U d (λ y. zero_element) k ≡ 0
    equation-zero k below =
        let at : HasEquation k = has_equation k below in
        let e = at.edge in
        equation_is (λ y. zero_element) k at
        ∙ ap₂ (less G.prime)
        (on_edge_respects G over F d e at.is_edge (lift_of G F e d zero_element) zero_element (lift_zero G F e d)
        at.place at.inside ∙ on_edge-zero G over F d e at.is_edge at.place at.inside)
        (on_edge-zero G over F d e at.is_edge at.place at.inside)
        ∙ less_same G.prime 0 some

    pub equation-combination : (c : ℕ → ℕ) (t : ℕ → Tuple) (n k : ℕ) → k < equation_count G F U d →
        SameMod G.prime (equation_number G F U d (λ y g m. sum_below (λ j. c j * t j y g m) n) k)
        (sum_below (λ j. c j * equation_number G F U d (t j) k) n)
    unfolding sum_below
    equation-combination c t n k below =
        let first : ℕ → Tuple = λ j y g m. sum_below (λ i. c i * t i y g m) j in
        sum_of_steps G.prime (λ j. equation_number G F U d (first j) k) (λ j. c j * equation_number G F U d (t j) k) n
        (ap (λ z. z % G.prime) (equation-zero k below))
        (λ j inside.
        equation-plus (first j) (λ y g m. c j * t j y g m) k below
        ∙ same_add G.prime (equation_number G F U d (first j) k) (equation_number G F U d (first j) k)
        (equation_number G F U d (λ y g m. c j * t j y g m) k) (c j * equation_number G F U d (t j) k) refl
        (equation-times (c j) (t j) k below))

    -- the lift of the lower value and the upper value are equal on each edge exactly where all equations are 0
    pub equations_vanish : (s : Tuple) → IsSection G F (λ y. U y ≡ true) d s → (k : ℕ) → k < equation_count G F U d →
        equation_number G F U d s k ≡ 0
    equations_vanish s section k below =
        let at : HasEquation k = has_equation k below in
        let e = at.edge in
        let agree : on_edge G F d at.edge (lift_of G F at.edge d (s (lower G at.edge))) at.place
        ≡ on_edge G F d at.edge (s (upper G at.edge)) at.place =
        on_edge_same G over F d e at.is_edge (lift_of G F e d (s (lower G e))) (s (upper G e))
        (section e at.is_edge at.low at.high) at.place at.inside in
        equation_is s k at ∙ ap (λ z. less G.prime z (on_edge G F d e (s (upper G e)) at.place)) agree
        ∙ less_same G.prime (on_edge G F d e (s (upper G e)) at.place) some

    pub section_of_equations : (s : Tuple) → ((k : ℕ) → k < equation_count G F U d → equation_number G F U d s k ≡ 0) →
        IsSection G F (λ y. U y ≡ true) d s
    section_of_equations s zeros e is_edge low high =
        same_on_edge G over F d e is_edge (lift_of G F e d (s (lower G e))) (s (upper G e))
        (λ i inside.
        same_less G.prime (on_edge G F d e (lift_of G F e d (s (lower G e))) i) (on_edge G F d e (s (upper G e)) i)
        (on_edge_below G over F d e is_edge (lift_of G F e d (s (lower G e))) i)
        (on_edge_below G over F d e is_edge (s (upper G e)) i)
        (sym (equation_at s e i is_edge low high inside)
        ∙ zeros (equation_start G F U d e + i) (equation_below_count e i is_edge low high inside)))

    -- the equations of a tuple are linear in its numbers
    pub equations_are_linear :
        IsLinear G.prime (position_count G F U d) (equation_count G F U d)
        (λ t. equation_number G F U d (tuple_of G F U d t))
    equations_are_linear = record {
      respects = λ u v same k below.
          let at : HasEquation k = has_equation k below in
          ap (λ z. z % G.prime)
          (equation_same (tuple_of G F U d u) (tuple_of G F U d v)
          (λ y is_vertex here. tuple_of_same G F U d u v y (wide at.edge at.is_edge) is_vertex here same) k below);
      sums = λ u v. equation-plus (tuple_of G F U d u) (tuple_of G F U d v);
      multiples = λ c v. equation-times c (tuple_of G F U d v);
    }

    -- what stands in the column of a position, in the rows of the edge e
    module _ (e i : ℕ) (is_edge : e < edge_count G) (low : U (lower G e) ≡ true) (high : U (upper G e) ≡ true)
        (inside : i < edge_module_count G F d e) where
      abbrev place : ℕ
      place = equation_start G F U d e + i

      abbrev unit_of : ℕ → ℕ → Tuple
      unit_of y j = unit_tuple G F U d (position_start G F U d y + j)

      lower_zero : (y j : ℕ) → U y ≡ true → j < stalk_count G.rank (F.degrees y) d → (y ≡ lower G e → ⊥) →
          on_edge G F d e (lift_of G F e d (unit_of y j (lower G e))) i ≡ 0
      lower_zero y j here placed other =
          let u = unit_of y j (lower G e) in
          on_edge_respects G over F d e is_edge (lift_of G F e d u) zero_element
          (same_chained G.prime G.rank (F.degrees (upper G e)) d (lift_of G F e d u) (lift_of G F e d zero_element)
          zero_element
          (lift_same G F e d u zero_element (wide e is_edge)
          (unit_tuple_elsewhere G F U d y j (lower G e) (wide e is_edge) here placed low other))
          (lift_zero G F e d)) i inside
          ∙ on_edge-zero G over F d e is_edge i inside

      upper_zero : (y j : ℕ) → U y ≡ true → j < stalk_count G.rank (F.degrees y) d → (y ≡ upper G e → ⊥) →
          on_edge G F d e (unit_of y j (upper G e)) i ≡ 0
      upper_zero y j here placed other =
          on_edge_respects G over F d e is_edge (unit_of y j (upper G e)) zero_element
          (unit_tuple_elsewhere G F U d y j (upper G e) (wide e is_edge) here placed high other) i inside
          ∙ on_edge-zero G over F d e is_edge i inside

      apart : lower G e ≡ upper G e → ⊥
      apart same = let rises = edge_rises G over.is_graph e is_edge in omega arith

      pub lower_entry : (j : ℕ) → j < stalk_count G.rank (F.degrees (lower G e)) d →
          equation_number G F U d (unit_of (lower G e) j) place ≡ lower_number G F d e i j
      lower_entry j placed =
          let u = unit_at G.rank (F.degrees (lower G e)) d j in
          let v = unit_of (lower G e) j in
          equation_at v e i is_edge low high inside
          ∙ ap₂ (less G.prime)
          (on_edge_respects G over F d e is_edge (lift_of G F e d (v (lower G e))) (lift_of G F e d u)
          (lift_same G F e d (v (lower G e)) u (wide e is_edge) (unit_tuple_here G F U d (lower G e) j)) i inside)
          (upper_zero (lower G e) j low placed apart)
          ∙ less_none G.prime (lower_number G F d e i j) (on_edge_below G over F d e is_edge (lift_of G F e d u) i)

      pub upper_entry : (j : ℕ) → j < stalk_count G.rank (F.degrees (upper G e)) d →
          equation_number G F U d (unit_of (upper G e) j) place ≡ ((G.prime - 1) * upper_number G F d e i j) % G.prime
      upper_entry j placed =
          let u = unit_at G.rank (F.degrees (upper G e)) d j in
          let v = unit_of (upper G e) j in
          let alone : 0 + (G.prime - 1) * upper_number G F d e i j ≡ (G.prime - 1) * upper_number G F d e i j =
          omega arith in
          equation_at v e i is_edge low high inside
          ∙ ap₂ (less G.prime)
          (lower_zero (upper G e) j high placed (λ same. apart (sym same)))
          (on_edge_respects G over F d e is_edge (v (upper G e)) u (unit_tuple_here G F U d (upper G e) j) i inside)
          ∙ ap (λ z. z % G.prime) alone

      pub other_entry : (y j : ℕ) → U y ≡ true → j < stalk_count G.rank (F.degrees y) d → (y ≡ lower G e → ⊥) →
          (y ≡ upper G e → ⊥) → equation_number G F U d (unit_of y j) place ≡ 0
      other_entry y j here placed not_low not_high =
          equation_at (unit_of y j) e i is_edge low high inside
          ∙ ap₂ (less G.prime) (lower_zero y j here placed not_low) (upper_zero y j here placed not_high)
          ∙ less_same G.prime 0 some

pub equation_numbers_decide : EquationNumbersDecide
equation_numbers_decide G F U d s over = (equations_vanish G F U d over s, section_of_equations G F U d over s)

-- over the vertices above x, whose test is true of both ends of an edge where it is of the lower one
module _ (G : Graph) (F : SheafData) (x d : ℕ) (over : IsOverField G) where
  abbrev U : ℕ → Bool
  U = is_above G x

  pub section_by_test : (s : Tuple) → IsSection G F (above G x) d s → IsSection G F (λ y. is_above G x y ≡ true) d s
  section_by_test s =
      section_subset G F (above G x) (λ y. is_above G x y ≡ true) d s (λ y here. above_from_test G x y here)

  pub section_from_test : (s : Tuple) → IsSection G F (λ y. is_above G x y ≡ true) d s → IsSection G F (above G x) d s
  section_from_test s =
      section_subset G F (λ y. is_above G x y ≡ true) (above G x) d s
      (λ y is_up. test_from_above G over.is_graph x y is_up)

  -- the matrix is that of the equations
  pub image_is_equation : (t : ℕ → ℕ) (k : ℕ) → k < equation_count G F U d → image (equation_matrix G F x d) t k
      % G.prime ≡ equation_number G F U d (tuple_of G F U d t) k
  image_is_equation t k below =
      matrix_of_linear G.prime (position_count G F U d) (equation_count G F U d) (equation_matrix G F x d)
      (λ v. equation_number G F U d (tuple_of G F U d v)) (equations_are_linear G F U d over) refl refl
      (λ i j i_below j_below. refl) t k below
      ∙ mod-eq_of_lt (equation_below G F U d over (tuple_of G F U d t) k)

  pub equation_matrix_below : NumbersBelow G.prime (equation_matrix G F x d)
  equation_matrix_below k j k_below j_below = equation_below G F U d over (unit_tuple G F U d j) k

  module _ (e i : ℕ) (is_edge : e < edge_count G) (low : is_above G x (lower G e) ≡ true)
      (inside : i < edge_module_count G F d e) where
    abbrev row : ℕ
    row = equation_start G F U d e + i

    high : is_above G x (upper G e) ≡ true
    high = upper_is_above G over.is_graph x e is_edge low

    pub row_below : row < (equation_matrix G F x d).rows
    row_below = equation_below_count G F U d e i is_edge low high inside

    -- the row of coordinate i of the edge e: the lower map at the lower end, less the upper map at the upper end, and
    -- nothing elsewhere
    pub entry_at_lower : (j : ℕ) → j < stalk_count G.rank (F.degrees (lower G e)) d →
        (equation_matrix G F x d).entry row (position_start G F U d (lower G e) + j) ≡ lower_number G F d e i j
    entry_at_lower = lower_entry G F U d over e i is_edge low high inside

    pub entry_at_upper : (j : ℕ) → j < stalk_count G.rank (F.degrees (upper G e)) d →
        (equation_matrix G F x d).entry row (position_start G F U d (upper G e) + j)
        ≡ ((G.prime - 1) * upper_number G F d e i j) % G.prime
    entry_at_upper = upper_entry G F U d over e i is_edge low high inside

    pub entry_elsewhere : (y j : ℕ) → is_above G x y ≡ true → j < stalk_count G.rank (F.degrees y) d →
        (y ≡ lower G e → ⊥) → (y ≡ upper G e → ⊥) → (equation_matrix G F x d).entry row (position_start G F U d y + j)
        ≡ 0
    entry_elsewhere = other_entry G F U d over e i is_edge low high inside
