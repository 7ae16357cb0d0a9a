-- The maps from upper ends: those of the edges going up from a vertex, one edge after another.
use Rattle.std.proofs.Common.{◌≡◌, ℕ, ◌+◌, ◌-◌, ◌<◌, ◌≤◌, List, [], ◌∷◌, ◌++◌, length, get_or, sym, ap, subst, ◌∙◌, inl, inr, arith}
use Rattle.std.specs.List.{All}
use Rattle.std.proofs.lemmas.Bool.{cases_eq}
use Rattle.std.proofs.lemmas.Grind.{get_or_default_zero, same_number_lists}
use Rattle.std.proofs.lemmas.List.{get_or_push, get_or_append_left}
use Rattle.bmp_math.specs.Matrices.{Matrix}
use Rattle.bmp_poly.proofs.OneLabel.{one_label}
use Rattle.bmp_poly.specs.Labels.{prime_of, rank_of, leading_of, coordinate_of}
use Rattle.bmp_module.specs.declared.quotient.Quotient.{Quotient}
use Rattle.bmp_module.specs.declared.normal_table.NormalTable.{NormalTable}
use Rattle.bmp_module.specs.FreeModules.{rank_of as free_rank_of, degrees_of}
use Rattle.bmp_module.specs.QuotientModules.{free_of, label_of}
use Rattle.bmp_module.specs.NormalTables.{label_of as table_label_of}
use Rattle.bmp_graph.specs.Graph.{IsGraph, IsUpRange, upper, label}
use Rattle.bmp_graph.proofs.TableLemmas.{IsUpRange-has}
use Rattle.bmp_graded.proofs.CoordinateLemmas.{length_more}
use Rattle.bmp_sheaf.specs.Coordinates.{leading}
use Rattle.bmp_sheaf.specs.EdgeMaps.{upper_map}
use Rattle.bmp_sheaf.specs.LabelTables.{IsTableOf}
use Rattle.bmp_sheaf.specs.Numbers.{upper_matrix}
use Rattle.bmp_sheaf.specs.Written.{first_edge, up_count}
use Rattle.bmp_sheaf.specs.States.{SheafState, stalk_of, sheaf_of}
use Rattle.bmp_sheaf.specs.UpperTables.{UpperTable, upper_map_of, IsUpperTable, AreUpperTables, IsEdgeModule, IsUpperOf, AreUppers}
use Rattle.bmp_sheaf.proofs.UpEdges.{first_edge_is, up_count_is, up_range_of}

-- degrees within a bound that is at most 6
pub low_degrees : (xs : List ℕ) (most : ℕ) → most ≤ 6 → ((i : ℕ) → i < length xs → get_or xs i 0 ≤ most) →
    All (λ a. a ≤ 6) xs
low_degrees xs most small bound k d below = let here : get_or xs k 0 ≤ most = bound k below in
    omega (arith, get_or_default_zero xs k d below, here)

module _ {F : Type 0} (s : SheafState F) where
  -- a table by the label of the edge's table of normal forms, and of the stalk at the upper end
  pub upper_here : (e : ℕ) (t : NormalTable) (u : UpperTable) → IsTableOf s.graph s.degree e t →
      label_of u.quotient ≡ table_label_of t
      → degrees_of (free_of u.quotient) ≡ (stalk_of s (upper s.graph e)).degrees → IsUpperTable s.degree u →
      IsUpperOf s e u
  upper_here e t u table same above rows = record {
    edge = record {
      rank = u.quotient.agree ∙ ap rank_of same ∙ table.rank;
      degrees = above;
      label_rank = ap rank_of same ∙ table.rank;
      label_prime = ap prime_of same ∙ table.prime;
      label_leading = ap leading_of same ∙ table.leading;
      label_coordinates = ap coordinate_of same ∙ table.coordinates;
    };
    rows = rows;
  }

  -- the label of an edge's module is that of the edge's table of normal forms
  pub edge_label : (e : ℕ) (t : NormalTable) (m : Quotient) → IsTableOf s.graph s.degree e t → IsEdgeModule s e m →
      label_of m ≡ table_label_of t
  edge_label e t m table is =
      let x = label_of m in
      let y = table_label_of t in
      let same : coordinate_of x ≡ coordinate_of y = is.label_coordinates ∙ sym table.coordinates in
      one_label x y (is.label_prime ∙ sym table.prime) (is.label_rank ∙ sym table.rank)
      (same_number_lists x.coords y.coords (x.six ∙ sym y.six) (λ k below. ap (λ (f : ℕ → ℕ). f k) same))

  -- the tables of the edges from `from` on, before e
  pub record UppersBefore (from e : ℕ) (us : List UpperTable) : Type 0 where
    pub counted : length us ≡ e - from
    pub each : (f : ℕ) (u : UpperTable) → from ≤ f → f < e → IsUpperOf s f (get_or us (f - from) u)

  pub uppers_none : (from : ℕ) → UppersBefore from from []
  uppers_none from = record { counted = omega arith; each = λ f u past below. absurd (omega (arith, past, below)) }

  pub uppers_more : (from e : ℕ) (us : List UpperTable) (u : UpperTable) → from ≤ e → UppersBefore from e us →
      IsUpperOf s e u → UppersBefore from (e + 1) (us ++ u ∷ [])
  uppers_more from e us u past h new = record {
    counted = omega (arith, length_more us u, h.counted, past);
    each = λ f v from_on below. elim (cases_eq f e) [
      | inl last ↦
          let at : get_or (us ++ u ∷ []) (f - from) v ≡ u =
          get_or_push us u v (f - from) (omega (arith, h.counted, last)) in
          subst (IsUpperOf s f) (sym at) (subst (λ z. IsUpperOf s z u) (sym last) new)
      | inr other ↦
          let earlier : f < e = omega (arith, below, other) in
          let at : get_or (us ++ u ∷ []) (f - from) v ≡ get_or us (f - from) v =
          get_or_append_left us (u ∷ []) v (f - from) (omega (arith, h.counted, earlier, from_on)) in
          subst (IsUpperOf s f) (sym at) (h.each f v from_on earlier)
    ];
  }

  pub uppers_all : (x from to e : ℕ) (us : List UpperTable) → IsUpRange s.graph x from to → e ≡ to →
      UppersBefore from e us → AreUppers s x us
  uppers_all x from to e us range last h = record {
    counted = h.counted ∙ ap (λ z. z - from) last ∙ sym (up_count_is s.graph x from to range);
    each = λ f u below starts.
        let has = IsUpRange-has s.graph x from to f range below starts in
        subst (λ z. IsUpperOf s f (get_or us (f - z) u)) (sym (first_edge_is s.graph x from to range))
        (h.each f u has.0 (omega (arith, has.1, last)));
  }

  -- the matrix of the map to an edge's module is the edge's
  pub upper_map_is : (e d : ℕ) (m : Quotient) → IsEdgeModule s e m →
      upper_map_of m d ≡ upper_matrix s.graph (sheaf_of s) d e
  upper_map_is e d m is =
      let x = label_of m in
      let n = free_rank_of (free_of m) in
      let into = degrees_of (free_of m) in
      let M : ℕ → ℕ → (ℕ → ℕ) → ℕ → List ℕ → Matrix = λ p r c l b. upper_map p r c l b d in
      ap (λ p. M p n (coordinate_of x) (leading_of x) into) is.label_prime
      ∙ ap (λ r. M s.graph.prime r (coordinate_of x) (leading_of x) into) is.rank
      ∙ ap (λ c. M s.graph.prime s.graph.rank c (leading_of x) into) is.label_coordinates
      ∙ ap (λ l. M s.graph.prime s.graph.rank (label s.graph e) l into) is.label_leading
      ∙ ap (M s.graph.prime s.graph.rank (label s.graph e) (leading s.graph e)) is.degrees

-- the tables of the edges going up from a vertex are tables of maps
pub uppers_kept : {F : Type 0} {s : SheafState F} {x : ℕ} {us : List UpperTable} → IsGraph s.graph → AreUppers s x us →
    AreUpperTables s.degree us
uppers_kept {s = s} {x = x} {us = us} is h = λ k u below.
    let first = first_edge s.graph x in
    let range = up_range_of s.graph is x in
    let inside : first + k < first + up_count s.graph x = omega (arith, below, h.counted) in
    let place : first + k - first ≡ k = omega arith in
    subst (λ z. IsUpperTable s.degree (get_or us z u)) place
    (h.each (first + k) u (omega (arith, inside, range.within)) (range.inside (first + k) (omega arith) inside)).rows
