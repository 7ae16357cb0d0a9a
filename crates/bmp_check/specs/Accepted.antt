-- What can be checked, and what passing gives. In the order to read:
--   IsCheckableGraph G  G is a moment graph over a field of the list, of rank 1 to 6 and at most 4,096 vertices, whose
--                       last vertex alone is the longest
--   IsCheckable G v c   the parts of c have lines of the version v, which is 1, 2 or 3, on such a graph, up to a degree
--                       of at most 6
--   PassedIsBradenMacPherson
--                       where no comparison fails, the sheaf that is written is a Braden-MacPherson sheaf up to the
--                       degree bound
--   PassedGeneratorsAreBounded
--                       each of its generators has a degree of at most that bound
--   PassedCountsAreDimensions
--                       and its numbers of generators are dimensions
--   NoneFailsBesidePasses
--                       none of its comparisons is the first that fails, then
--   IsAccepted G c      the certificate c is well formed, and its job keeps all rules and has the graph G
--   AcceptedIsCheckable what such a certificate writes can be checked on G
use Rattle.std.specs.Prelude.{ℕ, ◌-◌, ◌≤◌, IsTrue}
use Rattle.bmp_field.specs.Primes.{is_listed}
use Rattle.bmp_graph.specs.Graph.{Graph, IsGraph, vertex_count}
use Rattle.bmp_cover.specs.BradenMacPherson.{IsTopVertex, IsBradenMacPherson, HasGeneratorsUpTo}
use Rattle.bmp_cover.specs.Counts.{CountsAreDimensions}
use Rattle.bmp_cert.specs.declared.cert.Cert.{Cert}
use Rattle.bmp_cert.specs.CertGrammar.{HavePartLines, IsWellFormed}
use Rattle.bmp_cert.specs.Counts.{Written, written_by}
use Rattle.bmp_cert.specs.Versions.{IsVersion}
use Rattle.bmp_cert.specs.JobGraphs.{IsJobGraph}
use Rattle.bmp_cert.specs.JobRules.{rules, KeepsAll}
use Rattle.bmp_check.specs.declared.refusal.Refusal.{Refusal}
use Rattle.bmp_check.specs.BlockData.{top_vertex}
use Rattle.bmp_check.specs.PartsSheaf.{parts_sheaf}
use Rattle.bmp_check.specs.Verdicts.{Passes, IsFirstRefusal}

pub record IsCheckableGraph (G : Graph) : Type 0 where
  pub graph : IsGraph G
  pub prime : IsTrue (is_listed G.prime)
  pub some_variables : 1 ≤ G.rank
  pub few_variables : G.rank ≤ 6
  pub few_vertices : vertex_count G ≤ 4096
  pub last_is_top : IsTopVertex G (top_vertex G)

pub record IsCheckable (G : Graph) (v : ℕ) (c : Written) : Type 0 where
  pub version : IsVersion v
  pub on : IsCheckableGraph G
  pub degree : c.degree ≤ 6
  pub formed : HavePartLines v (G.prime - 1) c.degree c.parts

abbrev pub PassedIsBradenMacPherson : Type 0
PassedIsBradenMacPherson = (G : Graph) (v : ℕ) (c : Written) → IsCheckable G v c → Passes G v c →
    IsBradenMacPherson G (parts_sheaf G c) c.degree (top_vertex G)

abbrev pub PassedGeneratorsAreBounded : Type 0
PassedGeneratorsAreBounded = (G : Graph) (v : ℕ) (c : Written) → IsCheckable G v c → Passes G v c →
    HasGeneratorsUpTo G (parts_sheaf G c) c.degree

abbrev pub PassedCountsAreDimensions : Type 0
PassedCountsAreDimensions = (G : Graph) (v : ℕ) (c : Written) → IsCheckable G v c → Passes G v c →
    CountsAreDimensions G (parts_sheaf G c) c.degree (top_vertex G)

abbrev pub NoneFailsBesidePasses : Type 0
NoneFailsBesidePasses = (G : Graph) (v : ℕ) (c : Written) (r : Refusal) → Passes G v c → IsFirstRefusal G v c r → ⊥

pub record IsAccepted (G : Graph) (c : Cert) : Type 0 where
  pub formed : IsWellFormed c
  pub rules : KeepsAll rules c.job
  pub graph : IsJobGraph c.job G

abbrev pub AcceptedIsCheckable : Type 0
AcceptedIsCheckable = (G : Graph) (c : Cert) → IsAccepted G c → IsCheckable G c.version (written_by c)
