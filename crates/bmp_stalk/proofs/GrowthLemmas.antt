-- The stalk at a vertex grows by generators of one degree: the columns of the boundary matrix stay, and the new ones
-- are the boundaries of the tuples that were chosen. Generators of greater degree change nothing.
use Rattle.std.proofs.Common.{◌≡◌, ℕ, zero, suc, ◌+◌, ◌-◌, ◌<◌, ◌≤◌, cond, leb, eqb, List, length, inl, inr, refl, sym, ap, subst, ◌∙◌, arith, ne_eqb}
use Rattle.std.specs.Prelude.{slice_index, count_by}
use Rattle.std.proofs.Math.Path.{fun_ext}
use Rattle.std.proofs.Math.Seq.{take-length}
use Rattle.std.proofs.lemmas.Bool.{cases_eq, cases_lt, cases_Bool, cond-true, cond-false, lt-leb}
use Rattle.bmp_math.specs.Sums.{sum_below}
use Rattle.bmp_math.specs.Vectors.{unit}
use Rattle.bmp_math.specs.Matrices.{Matrix}
use Rattle.bmp_math.proofs.SumLemmas.{sum_below_same, sum_below-suc, sum_below_joined, sum_below-zeros, sum_below_rises}
use Rattle.bmp_elim.specs.KeptColumns.{kept_place, AreColumns}
use Rattle.bmp_elim.proofs.KeptColumnLemmas.{kept_early, kept_late}
use Rattle.bmp_poly.specs.Exponents.{count, place}
use Rattle.bmp_graded.proofs.ComponentLemmas.{count_none}
use Rattle.bmp_poly.specs.Products.{product}
use Rattle.bmp_graph.specs.Graph.{Graph, edge_count, lower, upper, label}
use Rattle.bmp_sheaf.specs.Fields.{IsOverField}
use Rattle.bmp_sheaf.specs.Elements.{Element, SameElement, extension}
use Rattle.bmp_sheaf.specs.Units.{unit_element}
use Rattle.bmp_sheaf.specs.Sheaves.{SheafData, Boundary, lift_of, boundary_of_element, boundary_of_tuple}
use Rattle.bmp_sheaf.specs.Coordinates.{component_count, stalk_start, stalk_count, element_of, leading, edge_module_count, boundary_start, boundary_count}
use Rattle.bmp_sheaf.specs.Numbers.{edge_number, on_edge, boundary_number, boundary_matrix, unit_at}
use Rattle.bmp_sheaf.proofs.StalkPlaces.{component_is_count}
use Rattle.bmp_sheaf.proofs.FactorLaws.{product_none}
use Rattle.bmp_sheaf.proofs.ElementLaws.{same_chained}
use Rattle.bmp_sheaf.proofs.LiftLaws.{lift_unit}
use Rattle.bmp_sheaf.proofs.BoundaryNumbers.{IsBoundaryPlace, boundary_place_of, boundary_number_at, boundary_number_respects}
use Rattle.bmp_sections.specs.TupleLists.{TupleList, tuples_in}
use Rattle.bmp_cover.specs.Evidence.{generator_place}
use Rattle.bmp_cover.specs.Counts.{generators_in}
use Rattle.bmp_cover.specs.CoverChecks.{source_place}
use Rattle.bmp_cover.proofs.GeneratorLemmas.{own_place, place_after_new, place_after_other}
use Rattle.bmp_cover.proofs.EvidenceLemmas.{generator_column}
use Rattle.bmp_stalk.specs.Blocks.{tuple_boundary, IsJoinedBoundary, IsBoundarySoFar, HasKeptBoundary, AreGrown, IsGrown, GrownStalksHaveKeptBoundaries}

-- where the generators' coordinates start
module _ {d t : ℕ} {from to : List ℕ} (h : AreGrown d t from to) (r : ℕ) where
  abbrev size : ℕ → ℕ
  size g = component_count r d (slice_index to g)

  start_next : (g : ℕ) → stalk_start r to d (suc g) ≡ stalk_start r to d g + size g
  start_next g = sum_below-suc size g

  pub start_kept : (g : ℕ) → g ≤ length from → stalk_start r to d g ≡ stalk_start r from d g
  start_kept g within =
      sum_below_same size (λ f. component_count r d (slice_index from f)) g
      (λ i l. ap (component_count r d) (h.kept i (omega arith)))

  one_place : component_count r d d ≡ 1
  one_place = let whole : d + 0 ≡ d = omega arith in component_is_count r 0 d d whole ∙ count_none r

  pub start_new : (i : ℕ) → i ≤ t → stalk_start r to d (length from + i) ≡ stalk_count r from d + i
  start_new zero l =
      let same : length from + 0 ≡ length from = omega arith in
      let none : stalk_count r from d ≡ stalk_count r from d + 0 = omega arith in
      ap (stalk_start r to d) same ∙ start_kept (length from) (omega arith) ∙ none
  start_new (suc i) l =
      let next : length from + suc i ≡ suc (length from + i) = omega arith in
      let one : size (length from + i) ≡ 1 = ap (component_count r d) (h.new i (omega arith)) ∙ one_place in
      ap (stalk_start r to d) next ∙ omega (arith, start_next (length from + i), start_new i (omega arith), one)

  start_later : (k : ℕ) → (length from + t) + k ≤ length to →
      stalk_start r to d ((length from + t) + k) ≡ stalk_count r from d + t
  start_later zero l =
      let same : (length from + t) + 0 ≡ length from + t = omega arith in
      ap (stalk_start r to d) same ∙ start_new t (omega arith)
  start_later (suc k) l =
      let g : ℕ = (length from + t) + k in
      let b : ℕ = slice_index to ((length from + t) + k) in
      let next : (length from + t) + suc k ≡ suc g = omega arith in
      let above : d < b = h.later g (omega arith) (omega arith) in
      let none : size g ≡ 0 = cond-false {A = ℕ} (leb b d) (count r (d - b)) 0 (lt-leb b d above) in
      ap (stalk_start r to d) next ∙ omega (arith, start_next g, start_later k (omega arith), none)

  pub count_grown : stalk_count r to d ≡ stalk_count r from d + t
  count_grown =
      let rest : (length from + t) + (length to - (length from + t)) ≡ length to = omega (arith, h.longer) in
      ap (stalk_start r to d) (sym rest) ∙ start_later (length to - (length from + t)) (omega arith)

  -- the generators of degree d are the new ones
  pub is_new_one : (g : ℕ) → g < length to → slice_index to g ≡ d → (length from ≤ g) × (g < length from + t)
  is_new_one g inside own = elim (cases_lt g (length from)) [
    | inl early ↦ absurd (omega (arith, h.lower g early, h.kept g early, own))
    | inr from_new ↦ elim (cases_lt g (length from + t)) [
      | inl new ↦ (from_new, new)
      | inr late ↦ absurd (omega (arith, h.later g late inside, own))
    ]
  ]

  -- the lift of a unit at an old coordinate rests on the old generators alone
  module _ (wide : r ≤ 6) (images images' : ℕ → Element)
      (same : (g : ℕ) → g < length from → images' g ≡ images g) (c : ℕ) (old : c < stalk_count r from d) (k : ℕ)
      (m : List ℕ) where
    abbrev unit_from : ℕ → List ℕ → ℕ
    unit_from start e = unit c (start + place r e)

    abbrev part : ℕ → ℕ → Element → ℕ
    part a start image = cond (leb a d) (product 6 r (d - a) (unit_from start) (image k) m) 0

    abbrev new_part : ℕ → ℕ
    new_part g = part (slice_index to g) (stalk_start r to d g) (images' g)

    abbrev old_part : ℕ → ℕ
    old_part g = part (slice_index from g) (stalk_start r from d g) (images g)

    part_none : (g : ℕ) → length from ≤ g → new_part g ≡ 0
    part_none g late =
        let b : ℕ = slice_index to g in
        let start : ℕ = stalk_start r to d g in
        let times : ℕ = product 6 r (d - b) (unit_from start) (images' g k) m in
        let before : stalk_start r to d (length from) ≤ start = sum_below_rises size (length from) g late in
        let past : c < start = omega (arith, before, start_kept (length from) (omega arith), old) in
        elim (cases_Bool (leb b d)) [
          | inl held ↦
              cond-true {A = ℕ} (leb b d) times 0 held
              ∙ product_none r (d - b) (images' g k) m (unit_from start) wide
              (λ e is. cond-false {A = ℕ} (eqb c (start + place r e)) 1 0
              (ne_eqb c (start + place r e) (λ at. absurd (omega arith))))
          | inr none ↦ cond-false {A = ℕ} (leb b d) times 0 none
        ]

    pub extension_kept : extension r to images' d (unit_at r to d c) k m
        ≡ extension r from images d (unit_at r from d c) k m
    unfolding extension
    extension_kept =
        let n : ℕ = length from in
        let more : ℕ = length to - length from in
        let rest : n + more ≡ length to = omega (arith, h.longer) in
        let first : sum_below new_part n ≡ sum_below old_part n =
        sum_below_same new_part old_part n
        (λ g l.
        ap (λ a. part a (stalk_start r to d g) (images' g)) (h.kept g l)
        ∙ ap (λ s. part (slice_index from g) s (images' g)) (start_kept g (omega arith))
        ∙ ap (part (slice_index from g) (stalk_start r from d g)) (same g l)) in
        let second : sum_below (λ i. new_part (n + i)) more ≡ 0 =
        sum_below_same (λ i. new_part (n + i)) (λ i. 0) more (λ i l. part_none (n + i) (omega arith))
        ∙ sum_below-zeros more in
        ap (sum_below new_part) (sym rest)
        ∙ sum_below_joined new_part n more
        ∙ omega (arith, first, second)

-- which of the generators of degree d a generator is
module _ {d t : ℕ} {from : List ℕ} (F : SheafData) (x : ℕ) (h : AreGrown d t from (F.degrees x)) where
  place_low : (g : ℕ) → g ≤ length from → source_place F x d g ≡ 0
  place_low zero l = refl
  place_low (suc g) l =
      let inside : g < length from = omega arith in
      let within : g < length (F.degrees x) = omega (arith, inside, h.longer) in
      let next : suc g ≡ g + 1 = omega arith in
      ap (source_place F x d) next
      ∙ place_after_other F x d g within (λ own. absurd (omega (arith, own, h.lower g inside, h.kept g inside)))
      ∙ place_low g (omega arith)

  pub place_new : (i : ℕ) → i ≤ t → source_place F x d (length from + i) ≡ i
  place_new zero l =
      let same : length from + 0 ≡ length from = omega arith in
      ap (source_place F x d) same ∙ place_low (length from) (omega arith)
  place_new (suc i) l =
      let within : length from + i < length (F.degrees x) = omega (arith, h.longer) in
      let next : length from + suc i ≡ (length from + i) + 1 = omega arith in
      let one : i + 1 ≡ suc i = omega arith in
      ap (source_place F x d) next
      ∙ place_after_new F x d (length from + i) within (h.new i (omega arith))
      ∙ ap (λ z. z + 1) (place_new i (omega arith))
      ∙ one

  place_later : (k : ℕ) → (length from + t) + k ≤ length (F.degrees x) →
      source_place F x d ((length from + t) + k) ≡ t
  place_later zero l =
      let same : (length from + t) + 0 ≡ length from + t = omega arith in
      ap (source_place F x d) same ∙ place_new t (omega arith)
  place_later (suc k) l =
      let g : ℕ = (length from + t) + k in
      let within : g < length (F.degrees x) = omega arith in
      let next : (length from + t) + suc k ≡ g + 1 = omega arith in
      let above : d < slice_index (F.degrees x) g = h.later g (omega arith) within in
      ap (source_place F x d) next
      ∙ place_after_other F x d g within (λ own. absurd (omega (arith, own, above)))
      ∙ place_later k (omega arith)

  pub generators_grown : generators_in F x d ≡ t
  generators_grown =
      let rest : (length from + t) + (length (F.degrees x) - (length from + t)) ≡ length (F.degrees x) =
      omega (arith, h.longer) in
      ap (count_by (λ e. eqb e d)) (sym (take-length (F.degrees x)))
      ∙ ap (source_place F x d) (sym rest)
      ∙ place_later (length (F.degrees x) - (length from + t)) (omega arith)

-- sheaves with the same stalks at the upper ends of the edges going up from x have the same boundary coordinates there
pub record HaveSameAbove (G : Graph) (F F' : SheafData) (x : ℕ) : Type 0 where
  pub above : (e : ℕ) → e < edge_count G → lower G e ≡ x → F.degrees (upper G e) ≡ F'.degrees (upper G e)

module _ {G : Graph} {F F' : SheafData} {x : ℕ} (d : ℕ) (h : HaveSameAbove G F F' x) where
  -- how many boundary coordinates at x stand on an edge
  abbrev on : SheafData → ℕ → ℕ
  on H e = cond (eqb (lower G e) x) (edge_module_count G H d e) 0

  edge_same : (e : ℕ) → e < edge_count G → lower G e ≡ x → edge_module_count G F d e ≡ edge_module_count G F' d e
  edge_same e is_edge starts = ap (λ b. stalk_count (G.rank - 1) b d) (h.above e is_edge starts)

  size_same : (e : ℕ) → e < edge_count G → on F e ≡ on F' e
  size_same e is_edge =
      let from : SheafData → ℕ = λ (H : SheafData). edge_module_count G H d e in
      elim (cases_eq (lower G e) x) [
        | inl starts ↦ ap (λ z. cond (eqb (lower G e) x) z 0) (edge_same e is_edge starts)
        | inr other ↦
            cond-false {A = ℕ} (eqb (lower G e) x) (from F) 0 (ne_eqb (lower G e) x other)
            ∙ sym (cond-false {A = ℕ} (eqb (lower G e) x) (from F') 0 (ne_eqb (lower G e) x other))
      ]

  start_same : (e : ℕ) → e ≤ edge_count G → boundary_start G F x d e ≡ boundary_start G F' x d e
  start_same e within = sum_below_same (on F) (on F') e (λ f l. size_same f (omega arith))

  pub boundary_count_same : boundary_count G F x d ≡ boundary_count G F' x d
  boundary_count_same = start_same (edge_count G) (omega arith)

  pub number_same : (b c : Boundary) →
      ((e i : ℕ) → e < edge_count G → lower G e ≡ x → on_edge G F d e (b e) i ≡ on_edge G F' d e (c e) i) → (k : ℕ) →
      k < boundary_count G F x d → boundary_number G F x d b k ≡ boundary_number G F' x d c k
  number_same b c same k below =
      let at : IsBoundaryPlace G F x d k = boundary_place_of G F x d k below in
      let inside : at.place < edge_module_count G F' d at.edge =
      omega (arith, at.inside, edge_same at.edge at.is_edge at.starts) in
      ap (boundary_number G F x d b) (sym at.is)
      ∙ boundary_number_at G F x d b at.edge at.place at.is_edge at.starts at.inside
      ∙ same at.edge at.place at.is_edge at.starts
      ∙ sym (boundary_number_at G F' x d c at.edge at.place at.is_edge at.starts inside)
      ∙ ap (λ z. boundary_number G F' x d c (z + at.place)) (sym (start_same at.edge (omega (arith, at.is_edge))))
      ∙ ap (boundary_number G F' x d c) at.is

  -- those of tuples too
  pub tuple_same : (list : TupleList) (j k : ℕ) → k < boundary_count G F x d →
      tuple_boundary G F x d list j k ≡ tuple_boundary G F' x d list j k
  tuple_same list j =
      number_same (boundary_of_tuple G (tuples_in G F d list j)) (boundary_of_tuple G (tuples_in G F' d list j))
      (λ e i is_edge starts.
      ap (λ b. edge_number G.prime G.rank (label G e) (leading G e) b d
      (element_of G.rank b d (list.value j (upper G e))) i) (h.above e is_edge starts))

-- the stalk has grown
pub record HasGrown (G : Graph) (x d : ℕ) (list : TupleList) (o : Matrix) (chosen : List ℕ) (F F' : SheafData)
    : Type 0 where
  pub over : IsOverField G
  pub wide : G.rank ≤ 6
  pub columns : AreColumns (stalk_count G.rank (F.degrees x) d) o chosen
  pub so_far : IsBoundarySoFar G F x d list o
  pub grown : IsGrown G x d list chosen F F'

module _ {G : Graph} {x d : ℕ} {list : TupleList} {o : Matrix} {chosen : List ℕ} {F F' : SheafData}
    (h : HasGrown G x d list o chosen F F') where
  abbrev split : ℕ
  split = stalk_count G.rank (F.degrees x) d

  abbrev n : ℕ
  n = length (F.degrees x)

  same_above : HaveSameAbove G F F' x
  same_above = record { above = h.grown.above }

  counts : boundary_count G F x d ≡ boundary_count G F' x d
  counts = boundary_count_same d same_above

  joined_still : IsJoinedBoundary G F' x d list split o
  joined_still = record {
    rows = h.so_far.joined.rows ∙ counts;
    cols = h.so_far.joined.cols;
    of_tuples = λ j k within below.
        let before : k < boundary_count G F x d = omega (arith, below, counts) in
        h.so_far.joined.of_tuples j k within before ∙ tuple_same d same_above list j k before;
  }

  -- an old column stays
  old_column : (c k : ℕ) → c < split → k < boundary_count G F x d →
      (boundary_matrix G F x d).entry k c ≡ (boundary_matrix G F' x d).entry k c
  old_column c k old below =
      let u : Element = unit_at G.rank (F.degrees x) d c in
      let u' : Element = unit_at G.rank (F'.degrees x) d c in
      number_same d same_above (boundary_of_element G F d u) (boundary_of_element G F' d u')
      (λ e i is_edge starts.
      let left : ℕ → Element = λ y. extension G.rank (F.degrees y) (F.lift e) d u in
      ap (λ y. on_edge G F d e (left y) i) starts
      ∙ ap (λ b. edge_number G.prime G.rank (label G e) (leading G e) b d (left x) i) (h.grown.above e is_edge starts)
      ∙ ap (λ (a : Element). on_edge G F' d e a i)
      (sym (fun_ext (λ g. fun_ext (λ m.
      extension_kept h.grown.degrees G.rank h.wide (F.lift e) (F'.lift e)
      (λ f l. h.grown.kept_lifts e f is_edge starts l) c old g m))))
      ∙ ap (λ y. on_edge G F' d e (extension G.rank (F'.degrees y) (F'.lift e) d u') i) (sym starts)) k below

  -- a new generator's place, number and degree
  new_within : (i : ℕ) → i < length chosen → n + i < length (F'.degrees x)
  new_within i l = omega (arith, h.grown.degrees.longer)

  new_place : (i : ℕ) → i < length chosen → generator_place G F' x d (n + i) ≡ split + i
  new_place i l =
      sym (own_place G F' x d (n + i) (split + i) (sym (start_new h.grown.degrees G.rank i (omega arith))))

  -- a new column is the boundary of its tuple
  new_column : (i k : ℕ) → i < length chosen → k < boundary_count G F' x d →
      (boundary_matrix G F' x d).entry k (split + i) ≡ tuple_boundary G F' x d list (slice_index chosen i) k
  new_column i k l below =
      let g : ℕ = n + i in
      let tuple : ℕ → Element = tuples_in G F' d list (slice_index chosen i) in
      let own : slice_index (F'.degrees x) g ≡ d = h.grown.degrees.new i l in
      ap ((boundary_matrix G F' x d).entry k) (sym (new_place i l))
      ∙ sym (generator_column G F' x d h.over g h.wide (new_within i l) own k below)
      ∙ boundary_number_respects G F' x d h.over (boundary_of_element G F' d (unit_element g))
      (boundary_of_tuple G tuple)
      (λ e is_edge starts.
      let up : List ℕ = F'.degrees (upper G e) in
      let inside : g < length (F'.degrees (lower G e)) =
      subst (λ y. g < length (F'.degrees y)) (sym starts) (new_within i l) in
      let degree : slice_index (F'.degrees (lower G e)) g ≡ d =
      ap (λ y. slice_index (F'.degrees y) g) starts ∙ own in
      let lifted : SameElement G.prime G.rank up d (lift_of G F' e d (unit_element g)) (F'.lift e g) =
      subst (λ z. SameElement G.prime G.rank up z (lift_of G F' e z (unit_element g)) (F'.lift e g)) degree
      (lift_unit G F' e g h.wide inside) in
      same_chained G.prime G.rank up d (lift_of G F' e d (unit_element g)) (F'.lift e g) (tuple (upper G e))
      lifted (h.grown.new_lifts e i is_edge starts l)) k below

  column_same : (k c : ℕ) → k < boundary_count G F' x d → c < split + length chosen →
      o.entry k (kept_place split chosen c) ≡ (boundary_matrix G F' x d).entry k c
  column_same k c row inside = elim (cases_lt c split) [
    | inl old ↦
        let below : k < boundary_count G F x d = omega (arith, row, counts) in
        ap (o.entry k) (kept_early split chosen c old) ∙ h.so_far.of_stalk c k old below ∙ old_column c k old below
    | inr late ↦
        let i : ℕ = c - split in
        let j : ℕ = slice_index chosen (c - split) in
        let back : split + i ≡ c = omega (arith, late) in
        let here : i < length chosen = omega (arith, late, inside) in
        let tuple : j < list.count = omega (arith, h.columns.below i here, h.so_far.joined.cols) in
        ap (λ z. o.entry k (kept_place split chosen z)) (sym back)
        ∙ ap (o.entry k) (kept_late split chosen i)
        ∙ joined_still.of_tuples j k tuple row
        ∙ sym (new_column i k here row)
        ∙ ap ((boundary_matrix G F' x d).entry k) back
  ]

  pub boundary_kept : HasKeptBoundary G F' x d split o chosen
  boundary_kept = record {
    boundary = record {
      rows = h.so_far.joined.rows ∙ counts;
      cols = sym (count_grown h.grown.degrees G.rank);
      entries = λ k c row column. column_same k c row (omega (arith, column, count_grown h.grown.degrees G.rank));
    };
    own = λ g within is_new.
        let at = is_new_one h.grown.degrees G.rank g within is_new in
        let i : ℕ = g - n in
        let back : n + i ≡ g = omega (arith, at.0) in
        let here : i < length chosen = omega (arith, at.0, at.1) in
        ap (generator_place G F' x d) (sym back)
        ∙ new_place i here
        ∙ ap (λ z. split + z)
        (sym (place_new F' x h.grown.degrees i (omega arith)) ∙ ap (source_place F' x d) back);
    number = λ g within is_new.
        let at = is_new_one h.grown.degrees G.rank g within is_new in
        let i : ℕ = g - n in
        let back : n + i ≡ g = omega (arith, at.0) in
        let here : i < length chosen = omega (arith, at.0, at.1) in
        let number : source_place F' x d g ≡ i =
        ap (source_place F' x d) (sym back) ∙ place_new F' x h.grown.degrees i (omega arith) in
        omega (arith, number, here);
  }

pub grown_stalks : GrownStalksHaveKeptBoundaries
grown_stalks G F F' x d list o chosen over wide columns so_far grown =
    let h : HasGrown G x d list o chosen F F' =
    record { over = over; wide = wide; columns = columns; so_far = so_far; grown = grown } in
    (joined_still h, boundary_kept h)
