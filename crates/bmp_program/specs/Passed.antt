-- That no comparison of the check of an input fails.
--   HasPassed left   where the source tells its bytes, they are the text of a certificate, and on the graph of its job
--                    no comparison of the certificate fails
use Rattle.std.specs.Prelude.{ℕ, List, Option, IfSome}
use Rattle.bmp_graph.specs.Graph.{Graph}
use Rattle.bmp_cert.specs.declared.cert.Cert.{Cert}
use Rattle.bmp_cert.specs.Counts.{written_by}
use Rattle.bmp_cert.specs.JobGraphs.{IsJobGraph}
use Rattle.bmp_check.specs.Verdicts.{Passes}
use Rattle.bmp_program.specs.Reports.{IsCertOf}

abbrev pub HasPassed : Option (List ℕ) → Type 0
HasPassed left =
    IfSome left (λ input. (c : Cert) ×
    ((G : Graph) × IsCertOf c input × IsJobGraph c.job G × Passes G c.version (written_by c)))
