-- The sheaf that the parts of the vertices write down.
--   parts_sheaf G c     on the graph G: the generators of each vertex in their degrees, and a lift of each for each
--                       edge up
use Rattle.bmp_graph.specs.Graph.{Graph}
use Rattle.bmp_sheaf.specs.Sheaves.{SheafData}
use Rattle.bmp_sheaf.specs.Written.{written_sheaf}
use Rattle.bmp_cert.specs.Counts.{Written, part_of}

abbrev pub parts_sheaf : Graph → Written → SheafData
parts_sheaf G c = written_sheaf G (λ x. (part_of c x).degrees) (λ x. (part_of c x).lifts)
