-- Stalks and edge modules as graded modules: the coordinates of elements are those of free modules and of their
-- quotients.
use Rattle.std.proofs.Common.{◌≡◌, ◌↔◌, ℕ, zero, suc, ◌+◌, ◌-◌, ◌*◌, ◌%◌, ◌<◌, ◌≤◌, List, length, get_or, take, refl, sym, ap, subst, ◌∙◌, inl, inr, arith}
use Rattle.std.specs.Prelude.{slice_index}
use Rattle.std.proofs.Math.Nat.{mod-mod}
use Rattle.std.proofs.Math.Path.{fun_ext}
use Rattle.std.proofs.lemmas.Bool.{cases_lt}
use Rattle.bmp_math.specs.Sums.{sum_below}
use Rattle.bmp_math.specs.Vectors.{SameVector, plus, scaled}
use Rattle.bmp_math.specs.Blocks.{joined}
use Rattle.bmp_math.proofs.SumLemmas.{sum_below_same}
use Rattle.bmp_math.proofs.BlockLemmas.{joined_at}
use Rattle.bmp_poly.specs.Exponents.{IsMonomial, place, exponents}
use Rattle.bmp_poly.specs.Forms.{Form, Congruent}
use Rattle.bmp_poly.specs.Shifts.{shift}
use Rattle.bmp_poly.specs.Coordinates.{IsLeading}
use Rattle.bmp_poly.proofs.PlaceLemmas.{place_below, exponents-place}
use Rattle.bmp_graded.specs.Graded.{Graded, IsModule, IsModuleMap}
use Rattle.bmp_graded.specs.Modules.{polynomials, moved, free}
use Rattle.bmp_graded.specs.NormalForms.{HasInverses, normal_by}
use Rattle.bmp_graded.specs.Quotients.{insert, reduced, quotient}
use Rattle.bmp_graded.specs.Maps.{project_one, projection}
use Rattle.bmp_graded.specs.Components.{component, IsGenerator, IsSameModulo}
use Rattle.bmp_graded.proofs.Totals.{total, total_taken, total_front}
use Rattle.bmp_graded.proofs.CopiesLemmas.{block_dim, block_act, copies_dim, copies_act, moved_act_none, moved_act_from}
use Rattle.bmp_graded.proofs.ComponentLemmas.{start_of, component_at}
use Rattle.bmp_graded.proofs.BlockActs.{blockwise_at}
use Rattle.bmp_graded.proofs.PassLaws.{quotients_are_modules}
use Rattle.bmp_graded.proofs.ProjectionMaps.{projections_are_maps}
use Rattle.bmp_sheaf.specs.Elements.{Element, HasComponent, SameElement, CongruentElement, monomial_times, extension}
use Rattle.bmp_sheaf.specs.Units.{unit_element}
use Rattle.bmp_sheaf.specs.Coordinates.{component_count, stalk_start, stalk_count, element_of}
use Rattle.bmp_sheaf.specs.Numbers.{edge_number}
use Rattle.bmp_sheaf.proofs.ShiftLaws.{shift_below}
use Rattle.bmp_sheaf.proofs.ElementLaws.{same_chained, same_monomial}
use Rattle.bmp_sheaf.proofs.ExtensionLaws.{extension-plus, extension-times, extension-monomial, extension_same}
use Rattle.bmp_sheaf.proofs.StalkPlaces.{component_is_count}
use Rattle.bmp_sheaf.proofs.StalkNumbers.{stalk_number, element_of_numbers}
use Rattle.bmp_sheaf.proofs.Components.{each_component, inside_size}
use Rattle.bmp_sheaf.proofs.EdgeNumbers.{edge_number_respects, edge_number-plus, edge_number-times}
use Rattle.bmp_sheaf.proofs.EdgeMaps.{element_respects}

-- the blocks before the h-th
total_below : (n : ℕ → ℕ) (gs : List ℕ) (h : ℕ) → h ≤ length gs →
    total n (take h gs) ≡ sum_below (λ k. n (slice_index gs k)) h
unfolding total sum_below
total_below n gs zero inside = refl
total_below n gs (suc h) inside =
    let next : suc h ≡ h + 1 = omega arith in
    let more : total n (take (suc h) gs) ≡ total n (take h gs) + n (get_or gs h 0) =
    rw next (total_taken n gs h 0 (omega arith)) in
    more ∙ ap (λ z. z + n (get_or gs h 0)) (total_below n gs h (omega arith))

-- how many coordinates a generator has
pub free_block : (r d g : ℕ) → block_dim (polynomials r) d g ≡ component_count r d g
unfolding moved polynomials
free_block r d g = refl

quotient_block : (r l d g : ℕ) (normal : ℕ → Form → Form) → block_dim (reduced r l normal) d g ≡ component_count r d g
unfolding moved reduced
quotient_block r l d g normal = refl

pub start_is : (r d h : ℕ) (gs : List ℕ) → h ≤ length gs → start_of r gs d h ≡ stalk_start r gs d h
start_is r d h gs inside =
    total_below (block_dim (polynomials r) d) gs h inside
    ∙ sum_below_same (λ k. block_dim (polynomials r) d (slice_index gs k)) (λ k. component_count r d (slice_index gs k))
    h (λ k below. free_block r d (slice_index gs k))

quotient_start : (r l d h : ℕ) (normal : ℕ → Form → Form) (gs : List ℕ) → h ≤ length gs →
    total (block_dim (reduced r l normal) d) (take h gs) ≡ stalk_start r gs d h
quotient_start r l d h normal gs inside =
    total_below (block_dim (reduced r l normal) d) gs h inside
    ∙ sum_below_same (λ k. block_dim (reduced r l normal) d (slice_index gs k))
    (λ k. component_count r d (slice_index gs k)) h (λ k below. quotient_block r l d (slice_index gs k) normal)

-- the dimensions are the numbers of coordinates
pub free_count : (r d : ℕ) (gs : List ℕ) → (free r gs).dim d ≡ stalk_count r gs d
free_count r d gs = copies_dim (polynomials r) d gs ∙ sym (total_front (block_dim (polynomials r) d) gs)
    ∙ start_is r d (length gs) gs (omega arith)

pub quotient_count : (p r l d : ℕ) (c : ℕ → ℕ) (gs : List ℕ) → (quotient p r l c gs).dim d ≡ stalk_count r gs d
quotient_count p r l d c gs =
    let X : Graded = reduced r l (normal_by p (suc r) l c) in
    copies_dim (reduced r l (normal_by p (suc r) l c)) d gs
    ∙ sym (total_front (block_dim (reduced r l (normal_by p (suc r) l c)) d) gs)
    ∙ quotient_start r l d (length gs) (normal_by p (suc r) l c) gs (omega arith)

-- the polynomials are those of the element
pub component_is : (r d h : ℕ) (gs : List ℕ) (v : ℕ → ℕ) → h < length gs → component r gs h d v ≡ element_of r gs d v h
component_is r d h gs v inside =
    fun_ext (λ m. component_at r d h gs v m inside ∙ ap (λ z. v (z + place r m)) (start_is r d h gs (omega arith)))

-- the generators are the unit elements
pub generator_same : (p r g : ℕ) (gs : List ℕ) (v : ℕ → ℕ) → IsGenerator r gs g v →
    SameElement p r gs (slice_index gs g) (element_of r gs (slice_index gs g) v) (unit_element g)
generator_same p r g gs v is h s has m is_m =
    let least : slice_index gs h ≤ slice_index gs g = omega (arith, has.1) in
    let whole : slice_index gs g - slice_index gs h ≡ s = omega (arith, has.1) in
    ap (λ z. z % p) (ap (λ (a : List ℕ → ℕ). a m) (sym (component_is r (slice_index gs g) h gs v has.0))
    ∙ is h m has.0 least (subst (λ z. IsMonomial 6 r z m) (sym whole) is_m))

-- equal modulo the linear form is congruent
module _ (p r d : ℕ) (c : ℕ → ℕ) (gs : List ℕ) (u v : ℕ → ℕ) where
  same_modulo_congruent : IsSameModulo p r c gs d u v →
      CongruentElement p r gs c d (element_of r gs d u) (element_of r gs d v)
  same_modulo_congruent same g s has =
      let least : slice_index gs g ≤ d = omega (arith, has.1) in
      let whole : d - slice_index gs g ≡ s = omega (arith, has.1) in
      subst (λ z. Congruent p 6 r z c (element_of r gs d u g) (element_of r gs d v g)) whole
      (subst (λ (a : Form). Congruent p 6 r (d - slice_index gs g) c a (element_of r gs d v g))
      (component_is r d g gs u has.0)
      (subst (λ (b : Form). Congruent p 6 r (d - slice_index gs g) c (component r gs g d u) b)
      (component_is r d g gs v has.0) (same g has.0 least)))

  congruent_same_modulo : CongruentElement p r gs c d (element_of r gs d u) (element_of r gs d v) →
      IsSameModulo p r c gs d u v
  congruent_same_modulo same g inside least =
      subst (λ (a : Form). Congruent p 6 r (d - slice_index gs g) c a (component r gs g d v))
      (sym (component_is r d g gs u inside))
      (subst (λ (b : Form). Congruent p 6 r (d - slice_index gs g) c (element_of r gs d u g) b)
      (sym (component_is r d g gs v inside)) (same g (d - slice_index gs g) (inside, omega arith)))

  pub same_modulo_is_congruent : IsSameModulo p r c gs d u v ↔
      CongruentElement p r gs c d (element_of r gs d u) (element_of r gs d v)
  same_modulo_is_congruent = (same_modulo_congruent, congruent_same_modulo)

-- at one generator
polynomial_acts : (r a b s start start' : ℕ) (m e : List ℕ) (v : ℕ → ℕ) → r ≤ 6 → b ≡ s → start ≡ start' →
    IsMonomial 6 r s e → (polynomials r).act m a b (λ i. v (start + i)) (place r e)
    ≡ shift m (λ n. v (start' + place r n)) e
unfolding polynomials
polynomial_acts r a b s start start' m e v wide size same is_e =
    ap (λ z. shift m (λ n. v (start + place r n)) (exponents 6 r z (place r e))) size
    ∙ ap (shift m (λ n. v (start + place r n))) (exponents-place 6 r s e wide is_e)
    ∙ ap (λ z. shift m (λ n. v (z + place r n)) e) same

-- a monomial acts on the coordinates as on the element
pub free_acts : (r k d t h s : ℕ) (gs m e : List ℕ) (v : ℕ → ℕ) → r ≤ 6 → IsMonomial 6 r k m → d + k ≡ t →
    HasComponent gs t h s → IsMonomial 6 r s e → element_of r gs t ((free r gs).act m d t v) h e
    ≡ shift m (element_of r gs d v h) e
free_acts r k d t h s gs m e v wide is_m sizes has is_e =
    let X : Graded = polynomials r in
    let g : ℕ = slice_index gs h in
    let inside : h < length gs = has.0 in
    let within : h ≤ length gs = omega arith in
    let w : ℕ → ℕ = λ i. v (start_of r gs d h + i) in
    let room : place r e < block_dim (polynomials r) t (slice_index gs h) =
    omega (
      arith,
      place_below 6 r s e wide is_e,
      free_block r t (slice_index gs h),
      component_is_count r s t (slice_index gs h) has.1,
    ) in
    ap (λ z. (free r gs).act m d t v (z + place r e)) (sym (start_is r t h gs within))
    ∙ copies_act (polynomials r) m d t gs v (start_of r gs t h + place r e)
    ∙ blockwise_at (block_dim (polynomials r) d) (block_dim (polynomials r) t) (block_act (polynomials r) m d t) gs v h
    (place r e) inside room
    ∙ elim (cases_lt d (slice_index gs h)) [
      | inl before ↦
          moved_act_none (polynomials r) (slice_index gs h) d t (place r e) m (λ i. v (start_of r gs d h + i)) before
          ∙ sym (shift_below r k s m e (element_of r gs d v h) is_m is_e (omega (arith, has.1, sizes, before)))
      | inr from ↦
          moved_act_from (polynomials r) (slice_index gs h) d t (place r e) m (λ i. v (start_of r gs d h + i)) from
          ∙ polynomial_acts r (d - slice_index gs h) (t - slice_index gs h) s (start_of r gs d h) (stalk_start r gs d h)
          m e v wide (omega (arith, has.1)) (start_is r d h gs within) is_e
    ]

-- coordinates on an edge are those of the projection
projection_at : (p r l d h i : ℕ) (c : ℕ → ℕ) (gs : List ℕ) (u : ℕ → ℕ) → h < length gs →
    i < component_count r d (slice_index gs h) →
    projection p r l c gs d u (stalk_start r gs d h + i) ≡ normal_by p (suc r) l c (d - slice_index gs h)
    (element_of (suc r) gs d u h) (insert l (exponents 5 r (d - slice_index gs h) i))
projection_at p r l d h i c gs u inside below =
    let X : Graded = reduced r l (normal_by p (suc r) l c) in
    let within : h ≤ length gs = omega arith in
    let room : i < block_dim (reduced r l (normal_by p (suc r) l c)) d (slice_index gs h) =
    omega (arith, below, quotient_block r l d (slice_index gs h) (normal_by p (suc r) l c)) in
    ap (λ z. projection p r l c gs d u (z + i)) (sym (quotient_start r l d h (normal_by p (suc r) l c) gs within))
    ∙ blockwise_at (block_dim (polynomials (suc r)) d) (block_dim (reduced r l (normal_by p (suc r) l c)) d)
    (λ g. project_one p r l c (d - g)) gs u h i inside room
    ∙ ap (λ z. normal_by p (suc r) l c (d - slice_index gs h) (λ e. u (z + place (suc r) e))
    (insert l (exponents 5 r (d - slice_index gs h) i))) (start_is (suc r) d h gs within)

pub edge_number_is : (p r l d i : ℕ) (c : ℕ → ℕ) (gs : List ℕ) (u : ℕ → ℕ) → 0 < r → i < stalk_count (r - 1) gs d →
    edge_number p r c l gs d (element_of r gs d u) i ≡ projection p (r - 1) l c gs d u i % p
edge_number_is p zero l d i c gs u some below = absurd (omega arith)
edge_number_is p (suc r) l d i c gs u some below =
    let less_one : suc r - 1 ≡ r = omega arith in
    let inside : i < stalk_count r gs d = subst (λ z. i < stalk_count z gs d) less_one below in
    let numbers : ℕ → ℕ → ℕ → ℕ =
    λ z g j. normal_by p (suc r) l c (d - slice_index gs g) (element_of (suc r) gs d u g)
    (insert l (exponents 5 z (d - slice_index gs g) j)) % p in
    subst (λ z. joined (λ g. component_count z d (slice_index gs g)) (numbers z) (length gs) i
    ≡ projection p z l c gs d u i % p) (sym less_one)
    (each_component r d gs (λ k. joined (λ g. component_count r d (slice_index gs g)) (numbers r) (length gs) k
    ≡ projection p r l c gs d u k % p)
    (λ g s j has within.
    let room : j < component_count r d (slice_index gs g) = inside_size r d gs g s j has within in
    joined_at (λ h. component_count r d (slice_index gs h)) (numbers r) (length gs) g j has.0 room
    ∙ ap (λ z. z % p) (sym (projection_at p r l d g j c gs u has.0 room))) i inside)

module _ (p r l : ℕ) (coords : List ℕ) (two : 2 ≤ p) (inverses : HasInverses p) (leads : IsLeading p r l coords)
    (gs : List ℕ) where
  some_rank : 0 < r
  some_rank = omega (arith, leads.here)

  abbrev Q : Graded
  Q = quotient p (r - 1) l (slice_index coords) gs

  abbrev numbers : ℕ → Element → ℕ → ℕ
  numbers d = edge_number p r (slice_index coords) l gs d

  rows_below : (d i : ℕ) → i < (quotient p (r - 1) l (slice_index coords) gs).dim d → i < stalk_count (r - 1) gs d
  rows_below d i below = omega (arith, below, quotient_count p (r - 1) l d (slice_index coords) gs)

  -- the projection of an element's coordinates
  projected : (d : ℕ) (u : ℕ → ℕ) →
      SameVector p (Q.dim d) (numbers d (element_of r gs d u)) (projection p (r - 1) l (slice_index coords) gs d u)
  projected d u i below =
      ap (λ z. z % p) (edge_number_is p r l d i (slice_index coords) gs u some_rank (rows_below d i below))
      ∙ mod-mod (projection p (r - 1) l (slice_index coords) gs d u i) p

  -- a monomial acts on an edge's coordinates as on the element
  pub edge_acts : (k d t : ℕ) (m : List ℕ) (u : Element) → IsMonomial 6 r k m → d + k ≡ t →
      SameVector p (Q.dim t) (Q.act m d t (numbers d u)) (numbers t (monomial_times m u))
  edge_acts k d t m u is_m sizes i below =
      let v : ℕ → ℕ = stalk_number r gs d u in
      let whole : SameElement p r gs d (element_of r gs d (stalk_number r gs d u)) u =
      element_of_numbers r gs d p u leads.rank in
      let maps : IsModuleMap p r (free r gs) (quotient p (r - 1) l (slice_index coords) gs)
      (projection p (r - 1) l (slice_index coords) gs) = projections_are_maps p r l coords gs two inverses leads in
      let laws : IsModule p r (quotient p (r - 1) l (slice_index coords) gs) =
      quotients_are_modules p r l coords gs two inverses leads in
      let acted : SameElement p r gs t (element_of r gs t ((free r gs).act m d t (stalk_number r gs d u)))
      (monomial_times m u) =
      same_chained p r gs t (element_of r gs t ((free r gs).act m d t (stalk_number r gs d u)))
      (monomial_times m (element_of r gs d (stalk_number r gs d u))) (monomial_times m u)
      (λ h s has e is_e. ap (λ z. z % p)
      (free_acts r k d t h s gs m e (stalk_number r gs d u) leads.rank is_m sizes has is_e))
      (same_monomial p r gs d k t m (element_of r gs d (stalk_number r gs d u)) u is_m sizes whole) in
      (laws.linear m k d t is_m sizes).respects (numbers d u)
      (projection p (r - 1) l (slice_index coords) gs d (stalk_number r gs d u))
      (λ j inside. ap (λ z. z % p)
      (sym (edge_number_respects p r l coords two inverses leads gs d (element_of r gs d (stalk_number r gs d u)) u
      whole j (rows_below d j inside))) ∙ projected d (stalk_number r gs d u) j inside) i below
      ∙ sym (maps.acts m k d t (stalk_number r gs d u) is_m sizes i below)
      ∙ sym (projected t ((free r gs).act m d t (stalk_number r gs d u)) i below)
      ∙ ap (λ z. z % p)
      (edge_number_respects p r l coords two inverses leads gs t
      (element_of r gs t ((free r gs).act m d t (stalk_number r gs d u))) (monomial_times m u) acted i
      (rows_below t i below))

  -- the map from the stalk at the upper end is a module map
  pub upper_is_map : IsModuleMap p r (free r gs) Q (λ d u. numbers d (element_of r gs d u))
  upper_is_map = record {
    linear = λ d. record {
      respects = λ u v same i below.
          ap (λ z. z % p) (edge_number_respects p r l coords two inverses leads gs d (element_of r gs d u)
          (element_of r gs d v)
          (element_respects p r gs d u v leads.rank (λ j inside. same j (omega (arith, inside, free_count r d gs)))) i
          (rows_below d i below));
      sums = λ u v i below. edge_number-plus p r l coords two inverses leads gs d (element_of r gs d u)
          (element_of r gs d v) i (rows_below d i below);
      multiples = λ x u i below. edge_number-times p r l coords two inverses leads gs d x (element_of r gs d u) i
          (rows_below d i below);
    };
    acts = λ m k d t u is_m sizes i below.
        ap (λ z. z % p) (edge_number_respects p r l coords two inverses leads gs t
        (element_of r gs t ((free r gs).act m d t u)) (monomial_times m (element_of r gs d u))
        (λ h s has e is_e. ap (λ z. z % p) (free_acts r k d t h s gs m e u leads.rank is_m sizes has is_e)) i
        (rows_below t i below))
        ∙ sym (edge_acts k d t m (element_of r gs d u) is_m sizes i below);
  }

  -- and so is that from the stalk at the lower end, by any lifts
  pub lower_is_map : (from : List ℕ) (images : ℕ → Element) →
      IsModuleMap p r (free r from) Q (λ d u. numbers d (extension r from images d (element_of r from d u)))
  lower_is_map from images = record {
    linear = λ d. record {
      respects = λ u v same i below.
          ap (λ z. z % p) (edge_number_respects p r l coords two inverses leads gs d
          (extension r from images d (element_of r from d u)) (extension r from images d (element_of r from d v))
          (λ h s has m is_m. extension_same r from images p d (element_of r from d u) (element_of r from d v) leads.rank
          (element_respects p r from d u v leads.rank
          (λ j inside. same j (omega (arith, inside, free_count r d from)))) h m) i (rows_below d i below));
      sums = λ u v i below.
          ap (λ z. z % p) (edge_number_respects p r l coords two inverses leads gs d
          (extension r from images d (element_of r from d (plus u v)))
          (λ h m. extension r from images d (element_of r from d u) h m + extension r from images d
          (element_of r from d v) h m)
          (λ h s has m is_m. ap (λ z. z % p)
          (extension-plus r from images d (element_of r from d u) (element_of r from d v) h m)) i
          (rows_below d i below))
          ∙ edge_number-plus p r l coords two inverses leads gs d (extension r from images d (element_of r from d u))
          (extension r from images d (element_of r from d v)) i (rows_below d i below);
      multiples = λ x u i below.
          ap (λ z. z % p) (edge_number_respects p r l coords two inverses leads gs d
          (extension r from images d (element_of r from d (scaled x u)))
          (λ h m. x * extension r from images d (element_of r from d u) h m)
          (λ h s has m is_m. ap (λ z. z % p) (extension-times r from images d x (element_of r from d u) h m)) i
          (rows_below d i below))
          ∙ edge_number-times p r l coords two inverses leads gs d x (extension r from images d (element_of r from d u))
          i (rows_below d i below);
    };
    acts = λ m k d t u is_m sizes i below.
        ap (λ z. z % p) (edge_number_respects p r l coords two inverses leads gs t
        (extension r from images t (element_of r from t ((free r from).act m d t u)))
        (monomial_times m (extension r from images d (element_of r from d u)))
        (λ h s has n is_n.
        extension_same r from images p t (element_of r from t ((free r from).act m d t u))
        (monomial_times m (element_of r from d u)) leads.rank
        (λ g a has_g e is_e. ap (λ z. z % p) (free_acts r k d t g a from m e u leads.rank is_m sizes has_g is_e)) h
        n
        ∙ ap (λ z. z % p)
        (extension-monomial r from images d k t m (element_of r from d u) h n leads.rank is_m sizes is_n.long)) i
        (rows_below t i below))
        ∙ sym (edge_acts k d t m (extension r from images d (element_of r from d u)) is_m sizes i below);
  }
