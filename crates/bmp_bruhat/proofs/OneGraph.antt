-- The vertices of an interval have one graph: its edges rise by their ends, so the list is one, and so are the labels.
use Rattle.std.proofs.Common.{◌≡◌, ℕ, ◌<◌, inl, inr, List, [], get_or, map, arith, sym, ap, ap₂, subst, ◌∙◌}
use Rattle.std.proofs.Math.Path.{fun_ext}
use Rattle.std.proofs.lemmas.Bool.{cases_lt}
use Rattle.std.proofs.lemmas.List.{get_or-map, ext_get_or}
use Rattle.bmp_math.proofs.OneLists.{places_one, rising_one, rising_count}
use Rattle.bmp_roots.specs.RootPairs.{CartanMatrix, Vector, RootPair}
use Rattle.bmp_roots.specs.PositiveRoots.{ArePositiveRoots}
use Rattle.bmp_roots.specs.RootSystems.{matrix_of, positive_roots_of}
use Rattle.bmp_roots.specs.declared.root_system.Roots.{Roots}
use Rattle.bmp_roots.proofs.RootsLemmas.{has_positive_roots}
use Rattle.bmp_weyl.specs.Words.{IsRootSystem}
use Rattle.bmp_weyl.proofs.CallLemmas.{root_system}
use Rattle.bmp_weyl.specs.declared.elem.Elem.{Elem}
use Rattle.bmp_interval.specs.Intervals.{IsIntervalOf}
use Rattle.bmp_interval.proofs.OneInterval.{one_interval_of}
use Rattle.bmp_poly.specs.Labels.{prime_of, rank_of, coordinates_of}
use Rattle.bmp_poly.specs.declared.label.Label.{Label}
use Rattle.bmp_poly.proofs.OneLabel.{one_label}
use Rattle.bmp_graph.specs.Graph.{Graph, edge_count, lower, upper, label, label_rank, label_prime, IsGraph}
use Rattle.bmp_graph.specs.declared.edge.Edge.{Edge}
use Rattle.bmp_bruhat.specs.Building.{ComesBefore}
use Rattle.bmp_bruhat.specs.Labels.{IsResidue, IsLabelOf}
use Rattle.bmp_bruhat.specs.Edges.{IsEdge, IsGraphOf, IsBruhatGraph}
use Rattle.bmp_bruhat.proofs.OneResidue.{one_residue}
use Rattle.bmp_bruhat.proofs.OneEdge.{lengths_one, other_edge, one_root_at}

-- ---- edges by their ends
abbrev ends : Graph → ℕ → ℕ × ℕ
ends g e = (lower g e, upper g e)

abbrev Before : ℕ × ℕ → ℕ × ℕ → Type 0
Before k l = ComesBefore k.0 k.1 l.0 l.1

never_before : (k : ℕ × ℕ) → Before k k → ⊥
never_before k (inl less) = absurd (omega arith)
never_before k (inr (same, less)) = absurd (omega arith)

before_chained : (k l m : ℕ × ℕ) → Before k l → Before l m → Before k m
before_chained k l m (inl a) (inl b) = inl (omega arith)
before_chained k l m (inl a) (inr (b, c)) = inl (omega arith)
before_chained k l m (inr (a, c)) (inl b) = inl (omega arith)
before_chained k l m (inr (a, c)) (inr (b, d)) = inr (omega arith, omega arith)

ends_rise : (g : Graph) → IsGraph g → (d e : ℕ) → d < e → e < edge_count g → Before (ends g d) (ends g e)
ends_rise g is d e less l = is.order d e less l

-- ---- what an edge at a place has
module _ (g : Graph) (e : ℕ) (d : Edge) (l : e < edge_count g) where
  lower_at : lower g e ≡ (get_or g.edges e d).lower
  lower_at = get_or-map (λ (x : Edge). x.lower) g.edges e d 0 l

  upper_at : upper g e ≡ (get_or g.edges e d).upper
  upper_at = get_or-map (λ (x : Edge). x.upper) g.edges e d 0 l

  label_at : (i : ℕ) → label g e i ≡ get_or (coordinates_of (get_or g.edges e d).label) i 0
  label_at i = ap (λ (cs : List ℕ). get_or cs i 0) (get_or-map (λ (x : Edge). coordinates_of x.label) g.edges e d [] l)

  rank_at : label_rank g e ≡ rank_of (get_or g.edges e d).label
  rank_at = get_or-map (λ (x : Edge). rank_of x.label) g.edges e d 0 l

  prime_at : label_prime g e ≡ prime_of (get_or g.edges e d).label
  prime_at = get_or-map (λ (x : Edge). prime_of x.label) g.edges e d 0 l

one_edge : (x y : Edge) → x.lower ≡ y.lower → x.upper ≡ y.upper → x.label ≡ y.label → x ≡ y
one_edge x y low high form =
    ap (λ n. made n x.upper x.label) low ∙ ap (λ n. made y.lower n x.label) high ∙ ap (λ f. made y.lower y.upper f) form
  where
    made : ℕ → ℕ → Label → Edge
    made low high form = record { lower = low; upper = high; label = form }

-- coordinates of one rank that agree below it, and are 0 past it
one_coordinates : (x y : Label) → rank_of x ≡ rank_of y →
    ((i : ℕ) → i < rank_of x → get_or (coordinates_of x) i 0 ≡ get_or (coordinates_of y) i 0) →
    coordinates_of x ≡ coordinates_of y
one_coordinates x y rank agree =
    ext_get_or 0 (coordinates_of x) (coordinates_of y) (x.six ∙ sym y.six)
    (λ i l. elim (cases_lt i (rank_of x)) [
      | inl inside ↦ agree i inside
      | inr out ↦ (x.leads.fits i).1 out ∙ sym ((y.leads.fits i).1 (omega arith))
    ])

module _ (m : CartanMatrix) (roots others : List Vector) (system : IsRootSystem m roots)
    (positive : ArePositiveRoots m others)
    (list : List Elem) (p : ℕ) (form : RootPair → Vector) (g h : Graph) (first : IsGraphOf m roots list p form g)
    (second : IsGraphOf m others list p form h) where
  -- each edge of g has the ends of an edge of h
  edges_among : (e : ℕ) → e < edge_count g → (d : ℕ) × (d < edge_count h) × (ends h d ≡ ends g e)
  edges_among e l =
      let given : (q : RootPair) × IsEdge m roots list (lower g e) (upper g e) q ×
      IsLabelOf p g.rank (form q) (label g e) = first.each e l in
      let there = other_edge m roots others system positive list (lower g e) (upper g e) given.0 given.1 in
      let found : (d : ℕ) × (d < edge_count h) × (lower h d ≡ lower g e) × (upper h d ≡ upper g e) =
      second.all (lower g e) (upper g e) given.0 there in
      (found.0, found.1, ap₂ (λ a b. (a, b)) found.2 found.3)

  ranks_same : g.rank ≡ h.rank
  ranks_same = first.rank ∙ sym second.rank

  primes_same : g.prime ≡ h.prime
  primes_same = first.prime ∙ sym second.prime

  lengths_same : g.lengths ≡ h.lengths
  lengths_same =
      first.lengths ∙ ap (λ (measure : Elem → ℕ). map measure list)
      (fun_ext (λ e. lengths_one m roots others system positive e)) ∙ sym second.lengths

  -- edges with the same ends have the same form
  forms_same : (e : ℕ) → e < edge_count g → e < edge_count h → lower g e ≡ lower h e → upper g e ≡ upper h e →
      (i : ℕ) → i < g.rank → label g e i ≡ label h e i
  forms_same e l k low high i inside =
      let given : (q : RootPair) × IsEdge m roots list (lower g e) (upper g e) q ×
      IsLabelOf p g.rank (form q) (label g e) = first.each e l in
      let other : (q : RootPair) × IsEdge m others list (lower h e) (upper h e) q ×
      IsLabelOf p h.rank (form q) (label h e) = second.each e k in
      let root : given.0 ≡ other.0 =
      one_root_at m roots others system positive list (lower g e) (upper g e) (lower h e) (upper h e) given.0 other.0
      low high given.1 other.1 in
      one_residue p (form other.0 i) (label g e i) (label h e i)
      (subst (λ (q : RootPair). IsResidue p (form q i) (label g e i)) root (given.2 i inside))
      (other.2 i (omega (arith, ranks_same)))

  module _ (first_graph : IsGraph g) (second_graph : IsGraph h) (e : ℕ) (d : Edge) (l : e < edge_count g)
      (k : e < edge_count h)
      (low : lower g e ≡ lower h e) (high : upper g e ≡ upper h e) where
    label_ranks : rank_of (get_or g.edges e d).label ≡ g.rank
    label_ranks = sym (rank_at g e d l) ∙ (first_graph.labels e l).0

    label_same : (get_or g.edges e d).label ≡ (get_or h.edges e d).label
    label_same =
        let rank : rank_of (get_or g.edges e d).label ≡ rank_of (get_or h.edges e d).label =
        label_ranks ∙ ranks_same ∙ sym (second_graph.labels e k).0 ∙ rank_at h e d k in
        one_label (get_or g.edges e d).label (get_or h.edges e d).label
        (sym (prime_at g e d l) ∙ (first_graph.labels e l).1 ∙ primes_same ∙ sym (second_graph.labels e k).1
        ∙ prime_at h e d k)
        rank
        (one_coordinates (get_or g.edges e d).label (get_or h.edges e d).label rank
        (λ i inside. sym (label_at g e d l i) ∙ forms_same e l k low high i (omega (arith, label_ranks))
        ∙ label_at h e d k i))

    edge_same : get_or g.edges e d ≡ get_or h.edges e d
    edge_same =
        one_edge (get_or g.edges e d) (get_or h.edges e d)
        (sym (lower_at g e d l) ∙ low ∙ lower_at h e d k) (sym (upper_at g e d l) ∙ high ∙ upper_at h e d k) label_same

pub one_graph : (m : CartanMatrix) (roots others : List Vector) → IsRootSystem m roots → ArePositiveRoots m others
    → (list : List Elem) (p : ℕ) (form : RootPair → Vector) (g h : Graph)
    → IsGraphOf m roots list p form g → IsGraphOf m others list p form h → IsGraph g → IsGraph h → g ≡ h
one_graph m roots others system positive list p form g h first second first_graph second_graph =
    ap (λ n. made n g.prime g.lengths g.edges) (ranks_same m roots others system positive list p form g h first second)
    ∙ ap (λ n. made h.rank n g.lengths g.edges)
    (primes_same m roots others system positive list p form g h first second)
    ∙ ap (λ ls. made h.rank h.prime ls g.edges)
    (lengths_same m roots others system positive list p form g h first second)
    ∙ ap (λ es. made h.rank h.prime h.lengths es) edges
  where
    made : ℕ → ℕ → List ℕ → List Edge → Graph
    made r q ls es = record { rank = r; prime = q; lengths = ls; edges = es }

    rise : (d e : ℕ) → d < e → e < edge_count g → Before (ends g d) (ends g e)
    rise = ends_rise g first_graph

    other_rise : (d e : ℕ) → d < e → e < edge_count h → Before (ends h d) (ends h e)
    other_rise = ends_rise h second_graph

    among : (e : ℕ) → e < edge_count g → (d : ℕ) × (d < edge_count h) × (ends h d ≡ ends g e)
    among = edges_among m roots others system positive list p form g h first second

    back : (e : ℕ) → e < edge_count h → (d : ℕ) × (d < edge_count g) × (ends g d ≡ ends h e)
    back = edges_among m others roots (record { form = system.form; finite = system.finite; positive = positive })
        system.positive list p form h g second first

    edges : g.edges ≡ h.edges
    edges =
        places_one g.edges h.edges
        (rising_count Before never_before before_chained (ends g) (ends h) (edge_count g) (edge_count h) rise other_rise
        among back)
        (λ e d l.
        let there : (e < edge_count h) × (ends h e ≡ ends g e) =
        rising_one Before never_before before_chained (ends g) (ends h) (edge_count g) (edge_count h) rise
        other_rise among back e l in
        edge_same m roots others system positive list p form g h first second first_graph second_graph e d l there.0
        (sym (ap (λ k. k.0) there.1)) (sym (ap (λ k. k.1) there.1)))

-- for root systems of one matrix
pub graph_is_one : (roots others : Roots) → matrix_of roots ≡ matrix_of others →
    (list : List Elem) (p : ℕ) (form : RootPair → Vector) (g h : Graph)
    → IsBruhatGraph roots list p form g → IsBruhatGraph others list p form h → IsGraph g → IsGraph h → g ≡ h
graph_is_one roots others same list p form g h first second =
    one_graph (matrix_of roots) (positive_roots_of roots) (positive_roots_of others) (root_system roots)
    (subst (λ (m : CartanMatrix). ArePositiveRoots m (positive_roots_of others)) (sym same) (has_positive_roots others))
    list p form g h first
    (subst (λ (m : CartanMatrix). IsGraphOf m (positive_roots_of others) list p form h) (sym same) second)

-- a word has one graph
pub graph_of_word : (roots others : Roots) → matrix_of roots ≡ matrix_of others →
    (word : List ℕ) (list other : List Elem) (p : ℕ) (form : RootPair → Vector) (g h : Graph)
    → IsIntervalOf roots word list → IsIntervalOf others word other → IsBruhatGraph roots list p form g →
    IsBruhatGraph others other p form h → IsGraph g → IsGraph h → g ≡ h
graph_of_word roots others same word list other p form g h some more first second =
    graph_is_one roots others same list p form g h first
    (subst (λ (vertices : List Elem). IsBruhatGraph others vertices p form h)
    (sym (one_interval_of roots others same word list other some more)) second)
