-- The part of each vertex is a stalk, where all sizes pass: the sheaf is pushed without a fault.
use Rattle.std.proofs.Common.{◌≡◌, ℕ, ◌+◌, ◌-◌, ◌*◌, ◌/◌, ◌%◌, ◌<◌, ◌≤◌, cond, eqb, List, [], ◌∷◌, ◌++◌, length, get_or, take, map, refl, sym, ap, ap₂, subst, ◌∙◌, inl, inr, arith, ne_eqb}
use Rattle.std.specs.List.{All}
use Rattle.std.proofs.Math.ListN.{get_or-map}
use Rattle.std.proofs.lemmas.Bool.{cases_eq, cond-false}
use Rattle.std.proofs.lemmas.List.{length-map, length-take-le, get_or-take, take_more, map-append}
use Rattle.std.proofs.lemmas.List.Elements.{All-nil, All-get_or}
use Rattle.std.proofs.lemmas.Nat.{div_below}
use Rattle.bmp_math.proofs.SumLemmas.{sum_below_same, sum_below-zeros}
use Rattle.bmp_linear.specs.declared.vector.Entry.{Entry}
use Rattle.bmp_linear.specs.SparseVectors.{FitsBelow, ValuesBelow}
use Rattle.bmp_graph.specs.Graph.{Graph, IsGraph, vertex_count, edge_count, lower, upper}
use Rattle.bmp_graph.proofs.GraphLemmas.{edge_rises}
use Rattle.bmp_sheaf.specs.Coordinates.{stalk_count}
use Rattle.bmp_sheaf.specs.Written.{first_edge, up_count}
use Rattle.bmp_sheaf.specs.States.{Stalk, no_stalk, SheafState, stalk_of, next_vertex}
use Rattle.bmp_sheaf.specs.StalkFaults.{IsStalk, HasLifts, LiftFits, BreaksFirst}
use Rattle.bmp_sheaf.proofs.UpEdges.{up_range_of}
use Rattle.bmp_sheaf.specs.declared.fault.SheafFault.{SheafFault}
use Rattle.bmp_sheaf.specs.declared.fault.SheafFault.TheVariants.{DegreeOrder, DegreeOverBound, LiftShape, Memory}
use Rattle.bmp_cert.specs.Counts.{Written, no_part, part_of}
use Rattle.bmp_cert.specs.declared.cert.VertexPart.{VertexPart}
use Rattle.bmp_check.specs.Accepted.{IsCheckable}
use Rattle.bmp_check.specs.Fits.{DegreesFit, ShapesFit}
use Rattle.bmp_check.specs.Methods.{method_of}
use Rattle.bmp_check.specs.Shaped.{cert_stalk}
use Rattle.bmp_check.specs.StalkTasks.{IsSheafUpTo}
use Rattle.bmp_check.specs.Verdicts.{CountPasses, ShapePasses}
use Rattle.bmp_check.proofs.FitLemmas.{shapes_fit}
use Rattle.bmp_check.proofs.FormLemmas.{part_formed, top_formed, vectors_below}

-- degrees and lifts that make a stalk break no rule
pub memory_alone : {F : Type 0} (s : SheafState F) (x : ℕ) (degrees : List ℕ) (lifts : List (List Entry)) →
    IsStalk s x degrees lifts → (f : SheafFault) → BreaksFirst s x degrees lifts f → f ≡ Memory
memory_alone s x degrees lifts stalk (DegreeOrder i) breaks = absurd (breaks.broken (stalk.rising i breaks.below))
memory_alone s x degrees lifts stalk (DegreeOverBound i) breaks =
    absurd (breaks.1.broken (stalk.bound i breaks.1.below))
memory_alone s x degrees lifts stalk (LiftShape i) breaks = elim breaks.2 [
  | inl many ↦ absurd (many.0 stalk.counted)
  | inr first ↦ absurd (first.1.broken (stalk.fit i first.1.below))
]
memory_alone s x degrees lifts stalk Memory breaks = refl

-- no edge goes up from the greatest vertex
no_edges_up : (G : Graph) → IsGraph G → (x : ℕ) → vertex_count G ≤ x + 1 → up_count G x ≡ 0
no_edges_up G is x last =
    sum_below_same (λ e. cond (eqb (lower G e) x) 1 0) (λ e. 0) (edge_count G)
    (λ e below.
    let rises : lower G e < upper G e = edge_rises G is e below in
    let within : upper G e < vertex_count G = (is.ends e below).1 in
    cond-false {A = ℕ} (eqb (lower G e) x) 1 0
    (ne_eqb (lower G e) x (λ same. omega (arith, same, rises, within, last))))
    ∙ sum_below-zeros (edge_count G)

-- the part number i is that of the next vertex of s, and the stalks above it are those of its parts
pub record IsNextPart {F : Type 0} (s : SheafState F) (v : ℕ) (c : Written) (i : ℕ) : Type 0 where
  pub checkable : IsCheckable s.graph v c
  pub counted : CountPasses s.graph c
  pub fits : ShapesFit s.graph (method_of v) c
  pub degree : s.degree ≡ c.degree
  pub pushed : length s.stalks ≡ i
  pub more : i < length c.parts
  pub above : (e : ℕ) → e < edge_count s.graph → lower s.graph e ≡ next_vertex s →
      stalk_of s (upper s.graph e) ≡ cert_stalk (part_of c (upper s.graph e))

module _ {F : Type 0} {s : SheafState F} {v : ℕ} {c : Written} {i : ℕ} (h : IsNextPart s v c i) where
  abbrev G : Graph
  G = s.graph

  abbrev x : ℕ
  x = next_vertex s

  vertex : x ≡ length c.parts - 1 - i
  vertex = let pushed = h.pushed in let counted = h.counted in omega (arith, pushed, counted)

  abbrev part : VertexPart
  part = part_of c x

  degrees_fit : DegreesFit c.degree part.degrees
  degrees_fit = elim (cases_eq i 0) [
    | inl top ↦ let same : vertex_count G - 1 ≡ x = omega (arith, vertex, top, h.counted) in
        subst (λ (y : ℕ). DegreesFit c.degree (part_of c y).degrees) same h.fits.top
    | inr other ↦ (h.fits.vertices x (omega (arith, vertex, other, h.counted, h.more))).degrees
  ]

  top_lifts : i ≡ 0 → part.lifts ≡ []
  top_lifts top =
      let same : x ≡ length c.parts - 1 = omega (arith, vertex, top) in
      ap (λ (y : ℕ). (part_of c y).lifts) same
      ∙ ap (λ (v : VertexPart). v.lifts) (top_formed (G.prime - 1) c h.checkable.formed).1

  pub values_below : All (λ v. ValuesBelow v G.prime) part.lifts
  values_below = elim (cases_eq i 0) [
    | inl top ↦ subst (All (λ (v : List Entry). ValuesBelow v G.prime)) (sym (top_lifts top))
        (All-nil (λ (v : List Entry). ValuesBelow v G.prime))
    | inr other ↦
        let formed = part_formed (G.prime - 1) c h.checkable.formed x (omega (arith, vertex, other, h.more)) in
        vectors_below (G.prime - 1) G.prime (part.edges * length part.degrees) refl part.lifts formed.lifts
  ]

  counts_lifts : HasLifts s x part.degrees part.lifts
  counts_lifts = elim (cases_eq i 0) [
    | inl top ↦
        let none : up_count G x ≡ 0 = no_edges_up G h.checkable.on.graph x (omega (arith, vertex, top, h.counted)) in
        let product : up_count G x * length part.degrees ≡ 0 = ap (λ m. m * length part.degrees) none ∙ omega arith in
        ap length (top_lifts top) ∙ sym product
    | inr other ↦ (h.fits.vertices x (omega (arith, vertex, other, h.counted, h.more))).lift_for_each
  ]

  lift_fits : (j : ℕ) → j < length part.lifts → LiftFits s x part.degrees part.lifts j
  lift_fits j within = elim (cases_eq i 0) [
    | inl top ↦ absurd (omega (arith, within, ap length (top_lifts top)))
    | inr other ↦
        let fit = h.fits.vertices x (omega (arith, vertex, other, h.counted, h.more)) in
        let k = length part.degrees in
        let all : j < up_count G x * k = omega (arith, within, fit.lift_for_each) in
        let some : 0 < k = positive (up_count G x) k j all in
        let place : j / k < up_count G x = div_below j k (up_count G x) some all in
        let e = first_edge G x + j / k in
        let range = up_range_of G h.checkable.on.graph x in
        let is_edge : e < edge_count G = omega (arith, range.within, place) in
        let starts : lower G e ≡ x = range.inside e (omega arith) (omega (arith, place)) in
        let stalk = h.above e is_edge starts in
        subst (λ (t : Stalk). FitsBelow (get_or part.lifts j [])
        (stalk_count G.rank t.degrees (get_or part.degrees (j % k) 0))) (sym stalk) (fit.lifts j within).fits
  ]
    where
      positive : (m k j : ℕ) → j < m * k → 0 < k
      positive m k j below = elim (cases_eq k 0) [
        | inl zero ↦ (let none : m * k ≡ 0 = ap (λ z. m * z) zero ∙ omega arith in absurd (omega (arith, none, below)))
        | inr some ↦ omega arith
      ]

  is_stalk : IsStalk s x part.degrees part.lifts
  is_stalk = record {
    rising = λ j within k next. degrees_fit.rising k j 0 (omega (arith, next)) within;
    bound = λ j within. subst (λ d. get_or part.degrees j 0 ≤ d) (sym h.degree)
        (All-get_or (λ e. e ≤ c.degree) part.degrees j 0 within degrees_fit.most);
    counted = counts_lifts;
    fit = lift_fits;
  }

  -- the part as it is read
  module _ (own : VertexPart) (read : get_or c.parts i no_part ≡ own) where
    is_own : part ≡ own
    is_own = let place : length c.parts - 1 - x ≡ i = omega (arith, vertex, h.more) in
        ap (λ (k : ℕ). get_or c.parts k no_part) place ∙ read

    pub own_is_stalk : IsStalk s x own.degrees own.lifts
    own_is_stalk = subst (λ (v : VertexPart). IsStalk s x v.degrees v.lifts) is_own is_stalk

    pub own_below : All (λ v. ValuesBelow v G.prime) own.lifts
    own_below = subst (λ (v : VertexPart). All (λ w. ValuesBelow w G.prime) v.lifts) is_own values_below

-- ---- the first i stalks of the sheaf of c

module _ {F : Type 0} {s : SheafState F} {c : Written} {i : ℕ} (so_far : IsSheafUpTo s.graph c i s)
    (more : i < length c.parts) where
  pub pushed : length s.stalks ≡ i
  pushed = ap length so_far.stalks ∙ length-map (take i c.parts) cert_stalk ∙ length-take-le i c.parts (omega arith)

  -- the stalks above are there
  pub above_is : CountPasses s.graph c → (y : ℕ) → next_vertex s < y → y < vertex_count s.graph →
      stalk_of s y ≡ cert_stalk (part_of c y)
  above_is counted y above below =
      let k = vertex_count s.graph - 1 - y in
      let earlier : k < i = omega (arith, pushed, counted, above, below) in
      ap (λ (l : List Stalk). get_or l k no_stalk) so_far.stalks
      ∙ get_or-map cert_stalk (take i c.parts) k no_part
      ∙ ap cert_stalk (get_or-take i c.parts k no_part earlier)
      ∙ ap (λ (n : ℕ). cert_stalk (get_or c.parts (n - 1 - y) no_part)) (sym counted)

  pub next_part : {v : ℕ} → IsCheckable s.graph v c → CountPasses s.graph c →
      ShapePasses s.graph (method_of v) c → IsNextPart s v c i
  next_part {v} checkable counted shape =
      let is = checkable.on.graph in
      record {
        checkable = checkable;
        counted = counted;
        fits = shapes_fit s.graph c checkable.formed counted shape;
        degree = so_far.degree;
        pushed = pushed;
        more = more;
        above = λ e is_edge starts.
            let rises : lower s.graph e < upper s.graph e = edge_rises s.graph is e is_edge in
            above_is counted (upper s.graph e) (omega (arith, rises, starts)) (is.ends e is_edge).1;
      }

  pub stalks_more : (own : VertexPart) → get_or c.parts i no_part ≡ own →
      s.stalks ++ cert_stalk own ∷ [] ≡ map cert_stalk (take (i + 1) c.parts)
  stalks_more own read =
      ap₂ (λ (l : List Stalk) (p : VertexPart). l ++ cert_stalk p ∷ []) so_far.stalks (sym read)
      ∙ sym (map-append cert_stalk (take i c.parts) (get_or c.parts i no_part ∷ []))
      ∙ sym (ap (map cert_stalk) (take_more c.parts i no_part more))

-- the same, where the graph is given apart
module _ {F : Type 0} {G : Graph} {c : Written} {i : ℕ} {s : SheafState F} (so_far : IsSheafUpTo G c i s) where
  pub on_own : IsSheafUpTo s.graph c i s
  on_own = record { graph = refl; degree = so_far.degree; stalks = so_far.stalks }

  pub next_of : {v : ℕ} → IsCheckable G v c → CountPasses G c → ShapePasses G (method_of v) c → i < length c.parts →
      IsNextPart s v c i
  next_of {v} checkable counted shape more =
      next_part on_own more (subst (λ (H : Graph). IsCheckable H v c) (sym so_far.graph) checkable)
      (subst (λ (H : Graph). CountPasses H c) (sym so_far.graph) counted)
      (subst (λ (H : Graph). ShapePasses H (method_of v) c) (sym so_far.graph) shape)
