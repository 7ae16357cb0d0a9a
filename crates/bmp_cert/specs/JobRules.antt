-- The rules of a job, in the order in which they are tried.
--   HasMatrix j            its rows form a Cartan matrix of rank 1 to 6
--   HasRoots j             its root system is finite within the limits
--   HasPrime j             its number of field elements is a prime up to 61
--   HasLetters j           the letters of its word are from 1 to the rank
--   HasReducedWord j       its word is as long as its product
--   HasInterval j          there are at most 4,096 vertices below the word
--   HasDegree j            its degree bound is at most 6
--   IsSmall j              it has at most 400,000 vertices times monomials of the greatest degree
--   HasLabels j            no edge has the label zero
--   HasGkmGraph j          no two edges at one vertex of its moment graph have parallel labels
--   system_rules, letter_rules, interval_rules, size_rules, graph_rules, rules
--                          lists of rules, each begun with the one before: what the root system needs, the word, the
--                          interval, the sizes, and the graph; and all rules
--   KeepsAll rules j       each rule of the list holds
--   FailsAt rules n j      the rule number n of the list, from 0, fails, and those before it hold
--   place_of f             the number of the rule that the fault f speaks of
--   HasValues f j          the values of the fault are those of the job
--   IsFirstFault j f       f is the first rule that fails, with its values
--   IsErrorOf j e          the same of an error, where want of memory says nothing
use Rattle.std.specs.Prelude.{◌≡◌, ◌≤◌, ◌+◌, ◌*◌, ◌++◌, ℕ, zero, suc, List, [], ◌∷◌, length, IsTrue}
use Rattle.std.specs.List.{All}
use Rattle.bmp_field.specs.Primes.{is_listed}
use Rattle.bmp_roots.specs.RootPairs.{HasCartanForm, HasFiniteSystem}
use Rattle.bmp_roots.specs.RootSystems.{matrix_of, positive_roots_of}
use Rattle.bmp_roots.specs.CartanRules.{HasShape, BreaksFirst}
use Rattle.bmp_roots.specs.Pairs.{root_pair, IsRefused}
use Rattle.bmp_roots.specs.declared.root_system.Roots.{Roots}
use Rattle.bmp_weyl.specs.Words.{length_of}
use Rattle.bmp_weyl.specs.Elements.{IsLetter, IsFirstBadLetter, word_of}
use Rattle.bmp_weyl.specs.declared.elem.Elem.{Elem}
use Rattle.bmp_interval.specs.Limits.{max_vertices}
use Rattle.bmp_interval.specs.Intervals.{IsIntervalOf}
use Rattle.bmp_poly.specs.Exponents.{count}
use Rattle.bmp_graph.specs.Graph.{Graph, HasGkm}
use Rattle.bmp_graph.specs.Faults.{IsFirstParallelPair}
use Rattle.bmp_bruhat.specs.Edges.{HasZeroLabel, IsFirstZeroLabel}
use Rattle.bmp_cert.specs.Limits.{max_degree, max_size}
use Rattle.bmp_cert.specs.JobGraphs.{matrix_of_job, form_of_job, IsSystemOf, IsJobInterval, IsJobGraph}
use Rattle.bmp_cert.specs.declared.job.Job.{Job}
use Rattle.bmp_cert.specs.declared.job_fault.JobFault.{JobFault}
use Rattle.bmp_cert.specs.declared.job_fault.JobFault.TheVariants.{Cartan, Finite, Prime, Letter, Reduced, TooMany, DegreeBound, TooLarge, ZeroLabel, Gkm}
use Rattle.bmp_cert.specs.declared.job_fault.JobError.{JobError}
use Rattle.bmp_cert.specs.declared.job_fault.JobError.TheVariants.{Fault, Memory}

-- ---- the rules

abbrev pub Rule : Type 1
Rule = Job → Type 0

abbrev pub HasMatrix : Rule
HasMatrix j = HasShape j.cartan j.rank × HasCartanForm (matrix_of_job j)

abbrev pub HasRoots : Rule
HasRoots j = HasFiniteSystem (matrix_of_job j)

abbrev pub HasPrime : Rule
HasPrime j = IsTrue (is_listed j.prime)

abbrev pub HasLetters : Rule
HasLetters j = All (IsLetter j.rank) j.word

-- the length of the product of the word
pub record HasLength (j : Job) (n : ℕ) : Type 0 where
  pub roots : Roots
  pub system : IsSystemOf j roots
  pub length_is : n ≡ length_of (matrix_of roots) (positive_roots_of roots) (word_of j.word)

abbrev pub HasReducedWord : Rule
HasReducedWord j = HasLength j (length j.word)

-- an interval has at most 4,096 vertices
abbrev pub HasInterval : Rule
HasInterval j = (vertices : List Elem) × IsJobInterval j vertices

abbrev pub HasDegree : Rule
HasDegree j = j.degree ≤ max_degree

-- how many vertices there are, times how many monomials of the greatest degree
pub record HasSize (j : Job) (n : ℕ) : Type 0 where
  pub vertices : List Elem
  pub interval : IsJobInterval j vertices
  pub size : n ≡ length vertices * count j.rank j.degree

abbrev pub IsSmall : Rule
IsSmall j = (n : ℕ) × HasSize j n × (n ≤ max_size)

-- the label of an edge from x up to y is zero
pub record HasZeroLabelAt (j : Job) (x y : ℕ) : Type 0 where
  pub roots : Roots
  pub vertices : List Elem
  pub system : IsSystemOf j roots
  pub interval : IsIntervalOf roots j.word vertices
  pub zero : HasZeroLabel (matrix_of roots) (positive_roots_of roots) vertices j.prime (form_of_job j) x y

abbrev pub HasLabels : Rule
HasLabels j = (x y : ℕ) → HasZeroLabelAt j x y → ⊥

-- x and y are the first such vertices, by the lower and then by the upper one
pub record IsFirstZeroLabelAt (j : Job) (x y : ℕ) : Type 0 where
  pub roots : Roots
  pub vertices : List Elem
  pub system : IsSystemOf j roots
  pub interval : IsIntervalOf roots j.word vertices
  pub first : IsFirstZeroLabel (matrix_of roots) (positive_roots_of roots) vertices j.prime (form_of_job j) x y

abbrev pub HasGkmGraph : Rule
HasGkmGraph j = (g : Graph) × IsJobGraph j g × HasGkm g

-- ---- lists of rules

abbrev pub system_rules : List Rule
system_rules = HasMatrix ∷ HasRoots ∷ []

abbrev pub letter_rules : List Rule
letter_rules = system_rules ++ HasPrime ∷ HasLetters ∷ []

abbrev pub interval_rules : List Rule
interval_rules = letter_rules ++ HasReducedWord ∷ HasInterval ∷ []

abbrev pub size_rules : List Rule
size_rules = interval_rules ++ HasDegree ∷ IsSmall ∷ []

abbrev pub graph_rules : List Rule
graph_rules = size_rules ++ HasLabels ∷ []

abbrev pub rules : List Rule
rules = graph_rules ++ HasGkmGraph ∷ []

abbrev pub KeepsAll : List Rule → Rule
KeepsAll [] j = Unit {0}
KeepsAll (rule ∷ others) j = rule j × KeepsAll others j

abbrev pub FailsAt : List Rule → ℕ → Rule
FailsAt [] n j = ⊥
FailsAt (rule ∷ others) zero j = rule j → ⊥
FailsAt (rule ∷ others) (suc n) j = rule j × FailsAt others n j

-- ---- the first rule that fails

abbrev pub place_of : JobFault → ℕ
place_of (Cartan f) = 0
place_of (Finite e) = 1
place_of (Prime p) = 2
place_of (Letter e) = 3
place_of (Reduced n) = 4
place_of (TooMany n) = 5
place_of (DegreeBound d) = 6
place_of (TooLarge n) = 7
place_of (ZeroLabel x y) = 8
place_of (Gkm p) = 9

abbrev pub HasValues : JobFault → Job → Type 0
HasValues (Cartan f) j = BreaksFirst j.cartan j.rank f
HasValues (Finite e) j = IsRefused (matrix_of_job j) e.kind (root_pair e.root e.coroot)
HasValues (Prime p) j = p ≡ j.prime
HasValues (Letter e) j = IsFirstBadLetter j.rank j.word e.place
HasValues (Reduced n) j = HasLength j n
HasValues (TooMany n) j = n ≡ max_vertices + 1
HasValues (DegreeBound d) j = d ≡ j.degree
HasValues (TooLarge n) j = HasSize j n
HasValues (ZeroLabel x y) j = IsFirstZeroLabelAt j x y
HasValues (Gkm p) j = (g : Graph) × IsJobGraph j g × IsFirstParallelPair g p.vertex p.first p.second

pub record IsFirstFault (j : Job) (f : JobFault) : Type 0 where
  pub fails : FailsAt rules (place_of f) j
  pub values : HasValues f j

abbrev pub IsErrorOf : Job → JobError → Type 0
IsErrorOf j (Fault f) = IsFirstFault j f
IsErrorOf j Memory = Unit {0}
