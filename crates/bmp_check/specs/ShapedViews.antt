-- What a certificate in memory whose sizes all fit is about. In the order to read:
--   written_in g   a degree bound and parts in memory
--   method_in g    the method of their evidence
--   graph_in s     the moment graph
--   cert_in s      what is written of it
--   sizes_in s     the table of its sizes
--   sheaf_in s     the sheaf
--   version_in s, method_at s
--                  the version of its evidence, and the method
--   IsWhole s      it can be checked, the number of its vertices and all sizes pass, and the table and the sheaf are
--                  its own
use Rattle.std.specs.Prelude.{ℕ}
use Rattle.bmp_field.specs.declared.prime.PrimeField.{PrimeField}
use Rattle.bmp_graph.specs.Graph.{Graph}
use Rattle.bmp_sheaf.specs.States.{SheafState}
use Rattle.bmp_cert.specs.Counts.{Written}
use Rattle.bmp_check.specs.declared.given.Given.{Given}
use Rattle.bmp_check.specs.declared.shaped.Shaped.{Shaped}
use Rattle.bmp_check.specs.declared.sizes.SizeTable.{SizeTable}
use Rattle.bmp_check.specs.declared.method.Method.{Method}
use Rattle.bmp_check.specs.Methods.{method_of}
use Rattle.bmp_check.specs.Shaped.{IsShaped}

abbrev pub written_in : Given → Written
written_in g = record { degree = g.degree; parts = g.parts.now }

abbrev pub method_in : Given → Method
method_in g = method_of g.version

abbrev pub graph_in : Shaped → Graph
graph_in s = s.graph.now

abbrev pub cert_in : Shaped → Written
cert_in s = written_in s.given

abbrev pub version_in : Shaped → ℕ
version_in s = s.given.version

abbrev pub method_at : Shaped → Method
method_at s = method_of (version_in s)

abbrev pub sizes_in : Shaped → SizeTable
sizes_in s = s.sizes

abbrev pub sheaf_in : Shaped → SheafState PrimeField
sheaf_in s = s.sheaf

abbrev pub IsWhole : Shaped → Type 0
IsWhole s = IsShaped (graph_in s) (version_in s) (cert_in s) (sizes_in s) (sheaf_in s)
