-- The graphs and the parts of the tests.
--   IsLine G              two vertices, of which the last is the longer, over two elements
--   IsDiagonalSquare G    four vertices, of which the last alone is the longest, over three elements
--   ArePartsOf v p c      the text of c is of the version v and over the prime p, up to degree 1
use Rattle.std.specs.Prelude.{◌≡◌, ℕ, [], ◌∷◌}
use Rattle.bmp_graph.specs.Graph.{Graph, IsGraph}
use Rattle.bmp_cert.specs.declared.cert.Cert.{Cert}
use Rattle.bmp_cert.specs.CertGrammar.{IsWellFormed}

pub record IsLine (G : Graph) : Type 0 where
  pub graph : IsGraph G
  pub rank : G.rank ≡ 1
  pub prime : G.prime ≡ 2
  pub vertices : G.lengths ≡ 0 ∷ 1 ∷ []

pub record IsDiagonalSquare (G : Graph) : Type 0 where
  pub graph : IsGraph G
  pub rank : G.rank ≡ 2
  pub prime : G.prime ≡ 3
  pub vertices : G.lengths ≡ 0 ∷ 1 ∷ 1 ∷ 2 ∷ []

pub record ArePartsOf (v p : ℕ) (c : Cert) : Type 0 where
  pub formed : IsWellFormed c
  pub version : c.version ≡ v
  pub prime : c.job.prime ≡ p
  pub degree : c.job.degree ≡ 1
