-- The labels of a job: where it has a graph, no label is zero; else the first that is zero is the first rule that
-- fails.
use Rattle.std.proofs.Common.{◌≡◌, ◌≢◌, ℕ, ◌<◌, List, [], ◌∷◌, length, get_or, Some, slice_get, ℤ, pos, sym, ap, subst, ◌∙◌, arith}
use Rattle.std.proofs.lemmas.List.{get_or-map}
use Rattle.std.proofs.lemmas.Option.{get_or_from_slice_get}
use Rattle.std.proofs.lemmas.Int.{ints}
use Rattle.bmp_math.specs.Integers.{Divides}
use Rattle.bmp_roots.specs.RootPairs.{CartanMatrix, Vector, RootPair}
use Rattle.bmp_roots.specs.PositiveRoots.{ArePositiveRoots}
use Rattle.bmp_roots.specs.RootSystems.{matrix_of, positive_roots_of}
use Rattle.bmp_roots.specs.declared.root_system.Roots.{Roots}
use Rattle.bmp_roots.proofs.RootsLemmas.{has_positive_roots}
use Rattle.bmp_weyl.specs.Words.{IsRootSystem}
use Rattle.bmp_weyl.specs.declared.elem.Elem.{Elem}
use Rattle.bmp_weyl.proofs.CallLemmas.{root_system}
use Rattle.bmp_interval.specs.Intervals.{IsIntervalOf}
use Rattle.bmp_interval.proofs.OneInterval.{one_interval_of}
use Rattle.bmp_poly.specs.Labels.{rank_of, coordinates_of, leading_of}
use Rattle.bmp_graph.specs.Graph.{Graph, IsGraph, edge_count, lower, upper, label}
use Rattle.bmp_graph.specs.declared.edge.Edge.{Edge}
use Rattle.bmp_bruhat.specs.Labels.{form_in, IsResidue, IsZeroForm, IsLabelOf}
use Rattle.bmp_bruhat.specs.Edges.{IsEdge, IsGraphOf, IsBruhatGraph, HasZeroLabel, IsFirstZeroLabel}
use Rattle.bmp_bruhat.proofs.EdgeLemmas.{some_at, edge_is_unique}
use Rattle.bmp_bruhat.proofs.OneEdge.{other_edge}
use Rattle.bmp_bruhat.proofs.OneResidue.{one_residue}
use Rattle.bmp_cert.specs.declared.job.Job.{Job}
use Rattle.bmp_cert.specs.declared.job_fault.JobFault.TheVariants.{ZeroLabel}
use Rattle.bmp_cert.specs.JobGraphs.{matrix_of_job, by_weights, form_of_job, IsSystemOf}
use Rattle.bmp_cert.specs.JobRules.{HasZeroLabelAt, HasLabels, size_rules, KeepsAll, IsFirstFault}
use Rattle.bmp_cert.proofs.RuleLemmas.{fails_behind}

-- ---- in a graph no label is zero

label_leads : (g : Graph) → IsGraph g → (e : ℕ) → e < edge_count g → (l : ℕ) × (l < g.rank) × (label g e l ≢ 0)
label_leads g is e within =
    let some : (d : Edge) × (slice_get g.edges e ≡ Some d) = some_at g.edges e within in
    let d : Edge = some.0 in
    let at : get_or g.edges e d ≡ d = get_or_from_slice_get g.edges e d d some.1 in
    let rank : rank_of d.label ≡ g.rank =
    sym (get_or-map (λ (x : Edge). rank_of x.label) g.edges e d 0 within ∙ ap (λ (x : Edge). rank_of x.label) at)
    ∙ (is.labels e within).0 in
    let form : label g e (leading_of d.label) ≡ get_or (coordinates_of d.label) (leading_of d.label) 0 =
    ap (λ (cs : List ℕ). get_or cs (leading_of d.label) 0)
    (get_or-map (λ (x : Edge). coordinates_of x.label) g.edges e d [] within
    ∙ ap (λ (x : Edge). coordinates_of x.label) at) in
    let here = d.label.leads.here in
    (leading_of d.label, omega (arith, here, rank), λ zero. d.label.leads.first.not_zero (sym form ∙ zero))

-- a multiple of p has the residue 0
zero_residue : (p : ℕ) (z : ℤ) (n : ℕ) → IsResidue p z n → Divides p z → n ≡ 0
zero_residue p z n is divides =
    one_residue p z n 0 is (omega (arith, is.0), (divides.0, omega (arith, ints, divides.1)))

module _ (m : CartanMatrix) (roots others : List Vector) (system : IsRootSystem m roots)
    (positive : ArePositiveRoots m others)
    (list : List Elem) (p : ℕ) (form : RootPair → Vector) (g : Graph) (bruhat : IsGraphOf m roots list p form g)
    (graph : IsGraph g) where
  no_zero_label : (x y : ℕ) → HasZeroLabel m others list p form x y → ⊥
  no_zero_label x y z =
      let other : IsRootSystem m others = record { form = system.form; finite = system.finite; positive = positive } in
      let edge : IsEdge m roots list x y z.pair =
      other_edge m others roots other system.positive list x y z.pair z.edge in
      let found = bruhat.all x y z.pair edge in
      let given = bruhat.each found.0 found.1 in
      let there : IsEdge m roots list x y given.0 =
      subst (λ v. IsEdge m roots list v y given.0) found.2
      (subst (λ v. IsEdge m roots list (lower g found.0) v given.0) found.3 given.1) in
      let root : z.pair ≡ given.0 = edge_is_unique m roots system list x y z.pair given.0 edge there in
      let leads = label_leads g graph found.0 found.1 in
      let zero : Divides p (form given.0 leads.0) =
      subst (λ (q : RootPair). Divides p (form q leads.0)) root
      (z.zero leads.0 (omega (arith, leads.1, bruhat.rank))) in
      leads.2 (zero_residue p (form given.0 leads.0) (label g found.0 leads.0) (given.2 leads.0 leads.1) zero)

-- ---- the labels of a job

module _ (j : Job) (roots : Roots) (vertices : List Elem) (system : IsSystemOf j roots)
    (interval : IsIntervalOf roots j.word vertices) where
  -- forms by the matrix of the root system are those of the job
  pub of_job : (P : (RootPair → Vector) → Type 0) → P (form_in (matrix_of roots) (by_weights j.lattice)) →
      P (form_of_job j)
  of_job P h = subst (λ (m : CartanMatrix). P (form_in m (by_weights j.lattice))) system.matrix h

  pub graph_has_labels : (g : Graph) → IsBruhatGraph roots vertices j.prime (form_of_job j) g → IsGraph g → HasLabels j
  graph_has_labels g bruhat graph = λ x y z.
      let same = z.system.matrix ∙ sym system.matrix in
      let list : z.vertices ≡ vertices =
      one_interval_of z.roots roots same j.word z.vertices vertices z.interval interval in
      let there : HasZeroLabel (matrix_of roots) (positive_roots_of z.roots) vertices j.prime (form_of_job j) x y =
      subst (λ (m : CartanMatrix). HasZeroLabel m (positive_roots_of z.roots) vertices j.prime (form_of_job j) x y) same
      (subst (λ (vs : List Elem). HasZeroLabel (matrix_of z.roots) (positive_roots_of z.roots) vs j.prime
      (form_of_job j) x y) list z.zero) in
      no_zero_label (matrix_of roots) (positive_roots_of roots) (positive_roots_of z.roots) (root_system roots)
      (subst (λ (m : CartanMatrix). ArePositiveRoots m (positive_roots_of z.roots)) same (has_positive_roots z.roots))
      vertices j.prime (form_of_job j) g bruhat graph x y there

  -- the first zero label is the first fault of a job that keeps the rules before
  pub label_fault : (x y : ℕ) → KeepsAll size_rules j →
      IsFirstZeroLabel (matrix_of roots) (positive_roots_of roots) vertices j.prime (form_of_job j) x y →
      IsFirstFault j (ZeroLabel x y)
  label_fault x y before first =
      let here : HasZeroLabelAt j x y =
      record { roots = roots; vertices = vertices; system = system; interval = interval; zero = first.here } in
      record {
        fails = fails_behind j size_rules (HasLabels ∷ []) 0 before (λ labels. labels x y here);
        values = record { roots = roots; vertices = vertices; system = system; interval = interval; first = first };
      }
