-- Positions and equations above a vertex rest on the stalks there, and so do the tuples over these vertices.
use Rattle.std.proofs.Common.{◌≡◌, ℕ, ◌+◌, ◌-◌, ◌*◌, ◌%◌, ◌<◌, Bool, true, cond, refl, sym, ap, ap₂, ◌∙◌, inl, inr, arith, List}
use Rattle.std.specs.Prelude.{◌&&◌}
use Rattle.std.proofs.Math.Path.{fun_ext}
use Rattle.std.proofs.lemmas.Bool.{cases_Bool, cond-false, and_parts}
use Rattle.bmp_math.specs.Blocks.{joined, block_start}
use Rattle.bmp_math.specs.Sums.{sum_below}
use Rattle.bmp_math.specs.Vectors.{unit}
use Rattle.bmp_math.proofs.BlockLemmas.{joined_same}
use Rattle.bmp_linear.specs.declared.vector.Entry.{Entry}
use Rattle.bmp_linear.specs.Evidence.{vector_at}
use Rattle.bmp_graph.specs.Graph.{Graph, edge_count, vertex_count, lower, upper, label}
use Rattle.bmp_graph.proofs.GraphLemmas.{IsAbove-higher, edge_rises}
use Rattle.bmp_sheaf.specs.Elements.{Element, extension}
use Rattle.bmp_sheaf.specs.Sheaves.{SheafData, lift_of}
use Rattle.bmp_sheaf.specs.Coordinates.{stalk_count, element_of, edge_module_count, leading}
use Rattle.bmp_sheaf.specs.Numbers.{edge_number, on_edge}
use Rattle.bmp_sheaf.specs.States.{Stalk, SheafState, stalk_of, with_stalk, next_vertex}
use Rattle.bmp_sheaf.proofs.Agreement.{written_agree}
use Rattle.bmp_sheaf.proofs.NewStalks.{stalk_kept}
use Rattle.bmp_sections.specs.Positions.{position_start, tuple_of}
use Rattle.bmp_sections.specs.Numbers.{is_above, unit_tuple}
use Rattle.bmp_sections.specs.TupleLists.{tuples_over}
use Rattle.bmp_sections.proofs.AboveLemmas.{above_from_test}
use Rattle.bmp_stalk.specs.Above.{AgreeAbove, EquationsStay, EquationBlocksPass}
use Rattle.bmp_stalk.specs.Drafts.{with_draft, IsNext}
use Rattle.bmp_stalk.proofs.KernelLemmas.{fits_equal, passes_on_equal}
use Rattle.bmp_stalk.proofs.DraftLemmas.{built_degree_passes}
use Rattle.bmp_stalk.proofs.ListLemmas.{equal_values_pass}

module _ (G : Graph) (x d : ℕ) where
  -- how many positions a vertex has, and how many equations an edge
  abbrev vertex_positions : SheafData → ℕ → ℕ
  vertex_positions F z = cond (is_above G x z) (stalk_count G.rank (F.degrees z) d) 0

  abbrev is_within : ℕ → Bool
  is_within e = is_above G x (lower G e) && is_above G x (upper G e)

  abbrev edge_equations : SheafData → ℕ → ℕ
  edge_equations F e = cond (is_within e) (edge_module_count G F d e) 0

  -- the number of an equation on a unit
  abbrev edge_number_of : SheafData → ℕ → ℕ → ℕ → ℕ
  edge_number_of F j e i =
      (on_edge G F d e (lift_of G F e d (unit_tuple G F (is_above G x) d j (lower G e))) i
      + (G.prime - 1) * on_edge G F d e (unit_tuple G F (is_above G x) d j (upper G e)) i) % G.prime

module _ {G : Graph} {x : ℕ} {F F' : SheafData} (h : AgreeAbove G x F F') (d : ℕ) where
  vertex_size : vertex_positions G x d F ≡ vertex_positions G x d F'
  vertex_size = fun_ext (λ z. elim (cases_Bool (is_above G x z)) [
    | inl here ↦ ap (λ b. cond (is_above G x z) (stalk_count G.rank b d) 0) (h.degrees z here)
    | inr out ↦
        cond-false {A = ℕ} (is_above G x z) (stalk_count G.rank (F.degrees z) d) 0 out
        ∙ sym (cond-false {A = ℕ} (is_above G x z) (stalk_count G.rank (F'.degrees z) d) 0 out)
  ])

  pub starts_stay : (y : ℕ) → position_start G F (is_above G x) d y ≡ position_start G F' (is_above G x) d y
  starts_stay y = ap (λ f. sum_below f y) vertex_size

  within : (e : ℕ) → is_within G x d e ≡ true → (is_above G x (lower G e) ≡ true) × (is_above G x (upper G e) ≡ true)
  within e = and_parts (is_above G x (lower G e)) (is_above G x (upper G e))

  edge_size : edge_equations G x d F ≡ edge_equations G x d F'
  edge_size = fun_ext (λ e. elim (cases_Bool (is_within G x d e)) [
    | inl here ↦
        ap (λ b. cond (is_within G x d e) (stalk_count (G.rank - 1) b d) 0) (h.degrees (upper G e) (within e here).1)
    | inr out ↦
        cond-false {A = ℕ} (is_within G x d e) (edge_module_count G F d e) 0 out
        ∙ sym (cond-false {A = ℕ} (is_within G x d e) (edge_module_count G F' d e) 0 out)
  ])

  -- the value of a tuple of numbers at a vertex above
  tuple_stays : (v : ℕ → ℕ) (y : ℕ) → is_above G x y ≡ true →
      tuple_of G F (is_above G x) d v y ≡ tuple_of G F' (is_above G x) d v y
  tuple_stays v y here = ap₂ (λ b n. element_of G.rank b d (λ i. v (n + i))) (h.degrees y here) (starts_stay y)

  edge_value : (j e i : ℕ) → e < edge_count G → is_above G x (lower G e) ≡ true → is_above G x (upper G e) ≡ true →
      edge_number_of G x d F j e i ≡ edge_number_of G x d F' j e i
  edge_value j e i is_edge low high =
      let p : ℕ = G.prime in
      let y : ℕ = lower G e in
      let z : ℕ = upper G e in
      let M : List ℕ → List ℕ → (ℕ → Element) → Element → Element → ℕ = λ a b images s t.
      (edge_number p G.rank (label G e) (leading G e) b d (extension G.rank a images d s) i
      + (p - 1) * edge_number p G.rank (label G e) (leading G e) b d t i) % p in
      let s : Element = unit_tuple G F (is_above G x) d j y in
      let t : Element = unit_tuple G F (is_above G x) d j z in
      ap (λ a. M a (F.degrees z) (F.lift e) s t) (h.degrees y low)
      ∙ ap (λ b. M (F'.degrees y) b (F.lift e) s t) (h.degrees z high)
      ∙ ap (λ m. M (F'.degrees y) (F'.degrees z) m s t) (h.lifts e is_edge low)
      ∙ ap₂ (M (F'.degrees y) (F'.degrees z) (F'.lift e)) (tuple_stays (unit j) y low) (tuple_stays (unit j) z high)

  edge_inside : (e i : ℕ) → i < edge_equations G x d F e → is_within G x d e ≡ true
  edge_inside e i inside = elim (cases_Bool (is_within G x d e)) [
    | inl here ↦ here
    | inr out ↦ absurd (
        let none : edge_equations G x d F e ≡ 0 =
        cond-false {A = ℕ} (is_within G x d e) (edge_module_count G F d e) 0 out in
        omega (arith, inside, none)
        )
  ]

pub equations_stay : EquationsStay
equations_stay G F F' x d h = record {
  rows = ap (λ f. sum_below f (edge_count G)) (edge_size h d);
  cols = ap (λ f. sum_below f (vertex_count G)) (vertex_size h d);
  entries = λ k j row column.
      let size : ℕ → ℕ = edge_equations G x d F in
      let below : k < block_start size (edge_count G) =
      omega (arith, row, ap (λ f. sum_below f (edge_count G)) (edge_size h d)) in
      joined_same size (edge_number_of G x d F j) (edge_number_of G x d F' j) (edge_count G)
      (λ e i is_edge inside.
      let at = within h d e (edge_inside h d e i inside) in edge_value h d j e i is_edge at.0 at.1) k below
      ∙ ap (λ f. joined f (edge_number_of G x d F' j) (edge_count G) k) (edge_size h d);
}

module _ {F : Type 0} {s : SheafState F} {x : ℕ} (at : IsNext s x) (from to : Stalk) where
  -- a stalk above x is the same beside both
  same_stalk : (y : ℕ) → x < y → y < vertex_count s.graph →
      stalk_of (with_stalk s from) y ≡ stalk_of (with_stalk s to) y
  same_stalk y past below =
      let above : next_vertex s < y = omega (arith, past, at.next) in
      stalk_kept s from at.left y above below ∙ sym (stalk_kept s to at.left y above below)

  agree_above : AgreeAbove s.graph x (with_draft s from) (with_draft s to)
  agree_above = record {
    degrees = λ y here.
        let higher =
        IsAbove-higher s.graph at.state.over.is_graph y x (above_from_test s.graph x y here) in
        ap (λ (u : Stalk). u.degrees) (same_stalk y higher.number higher.is_vertex);
    lifts = λ e is_edge here.
        let G = s.graph in
        let is = at.state.over.is_graph in
        let low = IsAbove-higher G is (lower G e) x (above_from_test G x (lower G e) here) in
        let below = same_stalk (lower G e) low.number low.is_vertex in
        let above =
        same_stalk (upper G e) (omega (arith, edge_rises G is e is_edge, low.number)) (is.ends e is_edge).1 in
        (written_agree G (λ y. (stalk_of (with_stalk s from) y).degrees) (λ y. (stalk_of (with_stalk s to) y).degrees)
        (λ y. (stalk_of (with_stalk s from) y).lifts) (λ y. (stalk_of (with_stalk s to) y).lifts) e
        (ap (λ (u : Stalk). u.degrees) below) (ap (λ (u : Stalk). u.degrees) above)
        (ap (λ (u : Stalk). u.lifts) below)).lifts;
  }

  same_values : (d : ℕ) (vs : List (List Entry)) →
      (tuples_over s.graph (with_draft s from) x d vs).value ≡ (tuples_over s.graph (with_draft s to) x d vs).value
  same_values d vs =
      let values : (ℕ → ℕ) → ℕ → ℕ → ℕ → ℕ = λ start j y c. vector_at vs j (start y + c) in
      ap values (fun_ext (starts_stay agree_above d))

pub equation_blocks_pass : {F : Type 0} → EquationBlocksPass F
equation_blocks_pass s x d kernel from b t at fits passes built =
    let G = s.graph in
    let same = equations_stay G (with_draft s from) (with_draft s t) x d (agree_above at from t) in (
      fits_equal same fits,
      passes_on_equal same fits G.prime passes,
      equal_values_pass G (with_draft s t) x d (tuples_over G (with_draft s from) x d kernel.basis)
          (tuples_over G (with_draft s t) x d kernel.basis) b.cover refl (same_values at from t d kernel.basis)
          (built_degree_passes at built).cover,
    )
