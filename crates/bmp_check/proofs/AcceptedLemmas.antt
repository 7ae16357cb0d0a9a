-- What an accepted certificate writes can be checked on the graph of its job.
use Rattle.std.proofs.Common.{◌≡◌, ℕ, zero, suc, ◌+◌, ◌-◌, ◌<◌, ◌≤◌, Bool, true, IsTrue, List, [], ◌∷◌, length, get_or, refl, sym, ap, subst, ◌∙◌, inl, inr, arith}
use Rattle.std.proofs.Math.Logic.{∥∥₁_elim}
use mathlib.Core.Bool.{Bool-set}
use native.Mathlib.Nat.{ℕ_set}
use native.Mathlib.Bridge.{le_prop}
use Rattle.std.proofs.lemmas.List.{length-map, get_or-map}
use Rattle.bmp_math.specs.Lists.{Member, HasEachOnce}
use Rattle.bmp_math.proofs.ListLemmas.{member_at}
use Rattle.bmp_field.specs.Primes.{is_listed}
use Rattle.bmp_roots.specs.RootPairs.{CartanMatrix, Vector}
use Rattle.bmp_roots.specs.RootSystems.{matrix_of, positive_roots_of}
use Rattle.bmp_weyl.specs.Words.{IsRootSystem}
use Rattle.bmp_weyl.specs.Elements.{IsProduct, element_length, word_of}
use Rattle.bmp_weyl.specs.declared.elem.Elem.{Elem}
use Rattle.bmp_weyl.proofs.CallLemmas.{root_system}
use Rattle.bmp_weyl.proofs.ElementLemmas.{same_element, element_length-product}
use Rattle.bmp_interval.specs.Intervals.{IsInterval}
use Rattle.bmp_interval.proofs.IntervalLemmas.{only_longest}
use Rattle.bmp_graph.specs.Graph.{Graph, vertex_count, length_at}
use Rattle.bmp_graph.specs.Graph.{IsGraph, IsBefore, lower, upper}
use Rattle.bmp_cover.specs.BradenMacPherson.{IsTopVertex}
use Rattle.bmp_interval.specs.declared.interval.Interval.{Interval}
use Rattle.bmp_cert.specs.declared.job.Job.{Job}
use Rattle.bmp_cert.specs.declared.lattice.Lattice.{Lattice}
use Rattle.bmp_cert.specs.declared.lattice.Lattice.TheVariants.{Plain, Root, Weight}
use Rattle.bmp_cert.specs.Versions.{IsVersion, IsVersionOf}
use Rattle.bmp_cert.specs.JobGraphs.{IsJobGraph, IsPrepared}
use Rattle.bmp_cert.specs.JobRules.{HasPrime, rules, KeepsAll}
use Rattle.bmp_cert.proofs.RuleLemmas.{keeps_prime, keeps_degree}
use Rattle.bmp_cert.proofs.GraphLemmas.{prepared_graph}
use Rattle.bmp_cert.specs.declared.cert.Cert.{Cert}
use Rattle.bmp_cert.specs.CertGrammar.{HavePartLines, IsWellFormed}
use Rattle.bmp_cert.specs.Counts.{written_by}
use Rattle.bmp_check.specs.BlockData.{top_vertex}
use Rattle.bmp_check.specs.Accepted.{IsCheckableGraph, IsCheckable, AcceptedIsCheckable}

-- ---- the greatest element of an interval

once_apart : {X : Type 0} (xs : List X) (i j : ℕ) (d : X) → HasEachOnce xs → i < j → j < length xs →
    get_or xs i d ≡ get_or xs j d → ⊥
once_apart {X = X} [] i j d once before within same = absurd (omega arith)
once_apart {X = X} (x ∷ xs) i zero d once before within same = absurd (omega arith)
once_apart {X = X} (x ∷ xs) zero (suc j) d once before within same =
    once.0 (subst (λ (z : X). Member z xs) (sym same) (member_at xs j d (omega arith)))
once_apart {X = X} (x ∷ xs) (suc i) (suc j) d once before within same =
    once_apart xs i j d once.1 (omega arith) (omega arith) same

module _ (m : CartanMatrix) (roots : List Vector) (system : IsRootSystem m roots) (word : List ℕ) (list : List Elem)
    (interval : IsInterval m roots word list) where
  -- the last vertex is longer than each other
  last_is_longest : (x : ℕ) (d : Elem) → x + 1 < length list →
      element_length roots (get_or list x d) < element_length roots (get_or list (length list - 1) d)
  last_is_longest x d within =
      let inside : x < length list = omega arith in
      let product : IsProduct m word (get_or list (length list - 1) d) = interval.top d in
      let whole : element_length roots (get_or list (length list - 1) d) ≡ length word =
      element_length-product m roots system word (get_or list (length list - 1) d) product ∙ interval.reduced in
      elim (only_longest m roots system word product.letters interval.reduced (get_or list x d)
      (interval.vertices.each (get_or list x d) (member_at list x d inside))) [
        | inl equal ↦
            absurd (once_apart list x (length list - 1) d interval.vertices.once (omega arith) (omega arith)
            (same_element m word word (get_or list x d) (get_or list (length list - 1) d) equal product refl))
        | inr shorter ↦ omega (arith, shorter, whole)
      ]

-- ---- the graph of a job

module _ {j : Job} {G : Graph} (of : IsJobGraph j G) where
  abbrev roots : List Vector
  roots = positive_roots_of of.roots

  length_is : (x : ℕ) (d : Elem) → x < length of.vertices →
      length_at G x ≡ element_length roots (get_or of.vertices x d)
  length_is x d within = ap (λ (ls : List ℕ). get_or ls x 0) of.bruhat.lengths
      ∙ get_or-map (element_length roots) of.vertices x d 0 within

  count : vertex_count G ≡ length of.vertices
  count = ap length of.bruhat.lengths ∙ length-map of.vertices (element_length roots)

  last_is_top : IsTopVertex G (top_vertex G)
  last_is_top =
      let counted : vertex_count G ≡ length of.vertices = count in
      let some : 0 < vertex_count G = of.graph.has_vertex in
      let none : Elem = record { rank = 0; entries = [] } in
      record {
        vertex = omega arith;
        longest = λ x within other.
            let low = length_is x none (omega arith) in
            let high : length_at G (top_vertex G)
            ≡ element_length roots (get_or of.vertices (length of.vertices - 1) none) =
            ap (λ n. length_at G (n - 1)) count ∙ length_is (length of.vertices - 1) none (omega arith) in
            omega (
              arith,
              low,
              high,
              last_is_longest (matrix_of of.roots) roots (root_system of.roots) (word_of j.word) of.vertices
                  of.interval.interval x none (omega arith),
            );
      }

  on_job : HasPrime j → IsCheckableGraph G
  on_job prime =
      let form = of.roots.form in
      let rank = of.bruhat.rank in
      let few = of.interval.interval.few in
      record {
        graph = of.graph;
        prime = subst (λ p. IsTrue (is_listed p)) (sym of.bruhat.prime) prime;
        some_variables = let least = form.at_least_one in omega (arith, least, rank);
        few_variables = let most = form.at_most_six in omega (arith, most, rank);
        few_vertices = omega (arith, few, count);
        last_is_top = last_is_top;
      }

-- ---- a certificate

known_version : (l : Lattice) (v : ℕ) → IsVersionOf l v → IsVersion v
known_version Plain v h = (h.0, omega (arith, h.1))
known_version Root v h = (omega (arith, h), omega (arith, h))
known_version Weight v h = (omega (arith, h), omega (arith, h))

checkable_on : (G : Graph) (c : Cert) → IsWellFormed c → IsCheckableGraph G → c.job.degree ≤ 6 → G.prime ≡ c.job.prime →
    IsCheckable G c.version (written_by c)
checkable_on G c formed on degree prime = record {
  version = known_version c.job.lattice c.version formed.version;
  on = on;
  degree = degree;
  formed = subst (λ p. HavePartLines c.version (p - 1) c.job.degree c.vertices) (sym prime) formed.vertices;
}

pub accepted_is_checkable : AcceptedIsCheckable
accepted_is_checkable G c accepted =
    checkable_on G c accepted.formed (on_job accepted.graph (keeps_prime c.job accepted.rules))
    (keeps_degree c.job accepted.rules) accepted.graph.bruhat.prime

-- ---- from what is kept with an accepted job

before_prop : (g : Graph) (d e : ℕ) → IsProp (IsBefore g d e)
before_prop g d e (inl p) (inl q) = ap inl (le_prop p q)
before_prop g d e (inl p) (inr q) = absurd (omega (arith, p, q.0))
before_prop g d e (inr p) (inl q) = absurd (omega (arith, q, p.0))
before_prop g d e (inr p) (inr q) =
    let same : IsProp ((lower g d ≡ lower g e) × (upper g d < upper g e)) = hlevel (le_prop, ℕ_set) in ap inr (same p q)

graph_prop : (g : Graph) → IsProp (IsGraph g)
graph_prop g = hlevel (le_prop, ℕ_set, before_prop)

true_prop : (b : Bool) → IsProp (IsTrue b)
true_prop b = Bool-set b true

top_prop : (g : Graph) (x : ℕ) → IsProp (IsTopVertex g x)
top_prop g x = hlevel (le_prop)

checkable_prop : (g : Graph) → IsProp (IsCheckableGraph g)
checkable_prop g = hlevel (le_prop, graph_prop, true_prop, top_prop)

pub job_is_checkable :
    (c : Cert) (interval : Interval) (G : Graph) → IsWellFormed c → ∥ IsPrepared c.job interval G ∥₁ →
    ∥ KeepsAll rules c.job ∥₁ →
    IsCheckable G c.version (written_by c)
job_is_checkable c interval G formed prepared keeps =
    let of : IsPrepared c.job interval G → IsJobGraph c.job G = prepared_graph c.job interval G in
    checkable_on G c formed
    (∥∥₁_elim prepared (checkable_prop G)
    (λ p. ∥∥₁_elim keeps (checkable_prop G) (λ k. on_job (of p) (keeps_prime c.job k))))
    (∥∥₁_elim keeps le_prop (λ k. keeps_degree c.job k))
    (∥∥₁_elim prepared (ℕ_set G.prime c.job.prime) (λ p. p.bruhat.prime))
