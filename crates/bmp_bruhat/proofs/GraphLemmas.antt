-- The edges that were found make a graph, which is the Bruhat graph of the interval.
use Rattle.std.proofs.Common.{◌≡◌, ℕ, ◌<◌, inl, List, [], length, get_or, map, Some, slice_get, refl, arith, sym, ap, subst, ◌∙◌}
use Rattle.std.proofs.lemmas.List.{length-map, get_or-map}
use Rattle.std.proofs.lemmas.Option.{slice_get_within, get_or_from_slice_get}
use Rattle.bmp_roots.specs.RootPairs.{CartanMatrix, Vector, RootPair}
use Rattle.bmp_roots.specs.Pairs.{pair_of}
use Rattle.bmp_roots.specs.RootSystems.{matrix_of, positive_roots_of}
use Rattle.bmp_roots.specs.declared.root_system.Roots.{Roots}
use Rattle.bmp_weyl.specs.Elements.{element_length}
use Rattle.bmp_weyl.specs.declared.elem.Elem.{Elem}
use Rattle.bmp_interval.specs.Intervals.{IsInterval}
use Rattle.bmp_poly.specs.Labels.{rank_of, prime_of, coordinates_of, coordinate_of}
use Rattle.bmp_graph.specs.Graph.{Graph, vertex_count, edge_count, length_at, lower, upper, label, HasEnds, HasLabel}
use Rattle.bmp_graph.specs.Faults.{HoldsBelow, KeepsLength, KeepsOrder, BreaksFirst}
use Rattle.bmp_graph.specs.declared.edge.Edge.{Edge}
use Rattle.bmp_graph.specs.declared.fault.GraphFault.{GraphFault}
use Rattle.bmp_graph.specs.declared.fault.GraphFault.TheVariants.{Empty, LengthFalls, EdgeEnds, EdgeOrder, LabelOf, Memory}
use Rattle.bmp_bruhat.specs.Labels.{IsLabelOf}
use Rattle.bmp_bruhat.specs.Edges.{IsEdge, IsBruhatGraph}
use Rattle.bmp_bruhat.specs.Building.{ComesBefore, IsFound, HasEdgesUpTo, IsLabeled, AreLabeled}
use Rattle.bmp_bruhat.specs.declared.root_edge.RootEdge.{RootEdge}
use Rattle.bmp_bruhat.proofs.EdgeLemmas.{some_at, edge_of_root}

-- all rules of graphs
pub record KeepsRules (g : Graph) : Type 0 where
  pub has_vertex : 0 < vertex_count g
  pub lengths : HoldsBelow (vertex_count g) (KeepsLength g)
  pub ends : HoldsBelow (edge_count g) (HasEnds g)
  pub order : HoldsBelow (edge_count g) (KeepsOrder g)
  pub labels : HoldsBelow (edge_count g) (HasLabel g)

-- where they hold only memory can be wanting
pub only_memory : (g : Graph) (fault : GraphFault) → KeepsRules g → BreaksFirst g fault → (fault ≡ Memory → ⊥) → ⊥
only_memory g Empty rules breaks other = let some = rules.has_vertex in omega arith
only_memory g (LengthFalls x) rules breaks other = breaks.1.broken (rules.lengths x breaks.1.within)
only_memory g (EdgeEnds e) rules breaks other = breaks.2.broken (rules.ends e breaks.2.within)
only_memory g (EdgeOrder e) rules breaks other = breaks.3.broken (rules.order e breaks.3.within)
only_memory g (LabelOf e) rules breaks other = breaks.4.broken (rules.labels e breaks.4.within)
only_memory g Memory rules breaks other = other refl

abbrev pub record_of : ℕ → ℕ → List ℕ → List Edge → Graph
record_of k p ls es = record { rank = k; prime = p; lengths = ls; edges = es }

-- what a graph is made of
pub record HasParts (roots : Roots) (list : List Elem) (p : ℕ) (form : RootPair → Vector) (word lengths : List ℕ)
    (found : List RootEdge) (edges : List Edge) : Type 0 where
  pub interval : IsInterval (matrix_of roots) (positive_roots_of roots) word list
  pub some : 0 < length list
  pub measured : lengths ≡ map (element_length (positive_roots_of roots)) list
  pub all : HasEdgesUpTo roots list (length list) 0 found
  pub labels : AreLabeled roots p form (length found) found edges

module _ {roots : Roots} {list : List Elem} {p : ℕ} {form : RootPair → Vector} {word lengths : List ℕ}
    {found : List RootEdge} {edges : List Edge}
    (parts : HasParts roots list p form word lengths found edges) where
  abbrev pub made : Graph
  made = record { rank = (matrix_of roots).rank; prime = p; lengths = lengths; edges = edges }

  abbrev m : CartanMatrix
  m = matrix_of roots

  abbrev positive : List Vector
  positive = positive_roots_of roots

  count : length lengths ≡ length list
  count = ap length parts.measured ∙ length-map list (element_length positive)

  length_is : (x : ℕ) (e : Elem) → x < length list → length_at made x ≡ element_length positive (get_or list x e)
  length_is x e h = ap (λ ls. get_or ls x 0) parts.measured ∙ get_or-map (element_length positive) list x e 0 h

  number_is : (number : Edge → ℕ) (e : ℕ) (d : Edge) → slice_get edges e ≡ Some d →
      get_or (map number edges) e 0 ≡ number d
  number_is number e d at = get_or-map number edges e d 0 (slice_get_within edges e d at)
      ∙ ap number (get_or_from_slice_get edges e d d at)

  form_is : (e : ℕ) (d : Edge) → slice_get edges e ≡ Some d → label made e ≡ coordinate_of d.label
  form_is e d at =
      ap (λ (cs : List ℕ). λ i. get_or cs i 0)
      (get_or-map (λ (d : Edge). coordinates_of d.label) edges e d [] (slice_get_within edges e d at)
      ∙ ap (λ (d : Edge). coordinates_of d.label) (get_or_from_slice_get edges e d d at))

  -- the edge at a place, as it was found and with its label
  record EdgeAt (e : ℕ) : Type 0 where
    from : RootEdge
    edge : Edge
    from_at : slice_get found e ≡ Some from
    edge_at : slice_get edges e ≡ Some edge
    labeled : IsLabeled roots p form from edge
    is_found : IsFound roots list (length list) 0 from

  edge_of : (e : ℕ) → e < length edges → EdgeAt e
  edge_of e h =
      let before : e < length found = omega (arith, parts.labels.as_long) in
      let d = some_at found e before in
      let o = some_at edges e h in
      record {
        from = d.0;
        edge = o.0;
        from_at = d.1;
        edge_at = o.1;
        labeled = subst (λ z. IsLabeled roots p form d.0 z) (get_or_from_slice_get edges e o.0 o.0 o.1)
            (parts.labels.each e d.0 o.0 before d.1);
        is_found = subst (λ z. IsFound roots list (length list) 0 z) (get_or_from_slice_get found e d.0 d.0 d.1)
            (parts.all.each e d.0 before);
      }

  lower_is : (e : ℕ) (a : EdgeAt e) → lower made e ≡ a.from.lower
  lower_is e a = number_is (λ (d : Edge). d.lower) e a.edge a.edge_at ∙ a.labeled.lower

  upper_is : (e : ℕ) (a : EdgeAt e) → upper made e ≡ a.from.upper
  upper_is e a = number_is (λ (d : Edge). d.upper) e a.edge a.edge_at ∙ a.labeled.upper

  ends_of : (x y : ℕ) (q : RootPair) → IsEdge m positive list x y q → (x < length lengths) × (y < length lengths) ×
      (length_at made x < length_at made y)
  ends_of x y q edge =
      let low = slice_get_within list x edge.low edge.low_is in
      let high = slice_get_within list y edge.high edge.high_is in
      let low_length = length_is x edge.low low
      ∙ ap (element_length positive) (get_or_from_slice_get list x edge.low edge.low edge.low_is) in
      let high_length =
      length_is y edge.high high
      ∙ ap (element_length positive) (get_or_from_slice_get list y edge.high edge.high edge.high_is) in
      let longer = edge.longer in
      let vertices = count in
      (omega arith, omega arith, omega arith)

  pub keeps_rules : KeepsRules made
  keeps_rules = record {
    has_vertex = let vertices = count in let some = parts.some in omega arith;
    lengths = λ x h w next.
        let vertices = count in
        let first = some_at list w (omega arith) in
        let rises = parts.interval.rising w x first.0 (omega arith) (omega arith) in
        omega (arith, length_is w first.0 (omega arith), length_is x first.0 (omega arith));
    ends = λ e h.
        let a = edge_of e h in
        rw (lower_is e a, upper_is e a)
        (ends_of a.from.lower a.from.upper (pair_of a.is_found.edge.pair) a.is_found.edge.edge);
    order = λ e h d next.
        let before : d < length edges = omega arith in
        let a = edge_of e h in
        let b = edge_of d before in
        let inside : e < length found = omega (arith, parts.labels.as_long) in
        rw (lower_is e a, upper_is e a, lower_is d b, upper_is d b)
        (let order = parts.all.order d e a.from (omega arith) inside in
        subst (λ (z : RootEdge). ComesBefore z.lower z.upper a.from.lower a.from.upper)
        (get_or_from_slice_get found d b.from a.from b.from_at)
        (subst (λ (z : RootEdge). ComesBefore (get_or found d a.from).lower (get_or found d a.from).upper z.lower
        z.upper) (get_or_from_slice_get found e a.from a.from a.from_at) order));
    labels = λ e h.
        let a = edge_of e h in
        let form = a.labeled.label a.is_found.edge.pair a.is_found.edge.pair_is in (
          number_is (λ (d : Edge). rank_of d.label) e a.edge a.edge_at ∙ form.rank,
          number_is (λ (d : Edge). prime_of d.label) e a.edge a.edge_at ∙ form.prime,
        );
  }

  pub is_bruhat : IsBruhatGraph roots list p form made
  is_bruhat = record {
    rank = refl;
    prime = refl;
    lengths = parts.measured;
    all = λ x y q edge.
        let numbered = edge_of_root roots list x y q edge in
        let has = parts.all.all x y numbered.0 numbered.1 (inl (slice_get_within list x edge.low edge.low_is)) in
        let inside : has.place < length edges = omega (arith, has.within, parts.labels.as_long) in
        let a = edge_of has.place inside in
        let same = get_or_from_slice_get found has.place a.from a.from a.from_at in (
          has.place,
          inside,
          lower_is has.place a ∙ ap (λ (d : RootEdge). d.lower) (sym same) ∙ has.lower a.from,
          upper_is has.place a ∙ ap (λ (d : RootEdge). d.upper) (sym same) ∙ has.upper a.from,
        );
    each = λ e h.
        let a = edge_of e h in
        let q : RootPair = pair_of a.is_found.edge.pair in
        let labeled = a.labeled.label a.is_found.edge.pair a.is_found.edge.pair_is in (
          q,
          subst (λ v. IsEdge m positive list v (upper made e) q) (sym (lower_is e a))
              (subst (λ v. IsEdge m positive list a.from.lower v q) (sym (upper_is e a)) a.is_found.edge.edge),
          subst (λ a. IsLabelOf p (matrix_of roots).rank (form q) a) (sym (form_is e a.edge a.edge_at))
              labeled.residues,
        );
  }

  -- a graph of these parts, however they were read
  made_of : (k : ℕ) (ls : List ℕ) (es : List Edge) → k ≡ (matrix_of roots).rank → ls ≡ lengths → es ≡ edges
      → record_of k p ls es ≡ made
  made_of k ls es rank_is lengths_are edges_are =
      ap (λ n. record_of n p ls es) rank_is ∙ ap (λ xs. record_of (matrix_of roots).rank p xs es) lengths_are
      ∙ ap (λ ds. record_of (matrix_of roots).rank p lengths ds) edges_are

  pub bruhat_of_parts : (k : ℕ) (ls : List ℕ) (es : List Edge) → k ≡ (matrix_of roots).rank → ls ≡ lengths → es ≡ edges
      → (g : Graph) → g ≡ record_of k p ls es → IsBruhatGraph roots list p form g
  bruhat_of_parts k ls es rank_is lengths_are edges_are g is =
      subst (λ h. IsBruhatGraph roots list p form h) (sym (is ∙ made_of k ls es rank_is lengths_are edges_are))
      is_bruhat

  pub no_fault_of_parts : (k : ℕ) (ls : List ℕ) (es : List Edge) → k ≡ (matrix_of roots).rank → ls ≡ lengths →
      es ≡ edges
      → (fault : GraphFault) → BreaksFirst (record_of k p ls es) fault → (fault ≡ Memory → ⊥) → ⊥
  no_fault_of_parts k ls es rank_is lengths_are edges_are fault breaks other =
      only_memory made fault keeps_rules
      (subst (λ h. BreaksFirst h fault) (made_of k ls es rank_is lengths_are edges_are) breaks) other
