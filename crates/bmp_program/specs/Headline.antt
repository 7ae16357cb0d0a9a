-- What status 0 of `check` says of the input and of the lines written.
--   Certifies c G input      c is the certificate that the input is the text of, and the only one, of version 1, 2 or
--                            3; its job keeps all rules, and G is the moment graph of the job; the sheaf that c writes
--                            down on G is a Braden-MacPherson sheaf in every degree up to that of the job; each of its
--                            generators has such a degree; and its numbers of generators are dimensions, at each vertex
--                            and in each of these degrees
--   IsCertified left before after
--                            where the source tells its bytes, they are such a certificate, and the sink took the lines
--                            of its numbers of generators
use Rattle.std.specs.Prelude.{◌≡◌, ℕ, List, Option, IfSome}
use Rattle.bmp_ports.specs.Ports.{Takes}
use Rattle.bmp_graph.specs.Graph.{Graph}
use Rattle.bmp_cover.specs.BradenMacPherson.{IsBradenMacPherson, HasGeneratorsUpTo}
use Rattle.bmp_cover.specs.Counts.{CountsAreDimensions}
use Rattle.bmp_cert.specs.declared.cert.Cert.{Cert}
use Rattle.bmp_cert.specs.CertGrammar.{cert_text, IsWellFormed}
use Rattle.bmp_cert.specs.Counts.{written_by}
use Rattle.bmp_cert.specs.JobGraphs.{IsJobGraph}
use Rattle.bmp_cert.specs.JobRules.{rules, KeepsAll}
use Rattle.bmp_cert.specs.Versions.{IsVersion}
use Rattle.bmp_check.specs.BlockData.{top_vertex}
use Rattle.bmp_check.specs.PartsSheaf.{parts_sheaf}
use Rattle.bmp_report.specs.RankLines.{cert_rank_lines}

pub record Certifies (c : Cert) (G : Graph) (input : List ℕ) : Type 0 where
  pub well_formed : IsWellFormed c
  pub is_text : input ≡ cert_text c
  pub only : (d : Cert) → IsWellFormed d → input ≡ cert_text d → d ≡ c
  pub version : IsVersion c.version
  pub rules : KeepsAll rules c.job
  pub graph : IsJobGraph c.job G
  pub sheaf : IsBradenMacPherson G (parts_sheaf G (written_by c)) c.job.degree (top_vertex G)
  pub bounded : HasGeneratorsUpTo G (parts_sheaf G (written_by c)) c.job.degree
  pub dimensions : CountsAreDimensions G (parts_sheaf G (written_by c)) c.job.degree (top_vertex G)

abbrev pub IsCertified : Option (List ℕ) → Option (List ℕ) → Option (List ℕ) → Type 0
IsCertified left before after =
    IfSome left (λ input. (c : Cert) × ((G : Graph) × Certifies c G input × Takes before after (cert_rank_lines c)))
