use Rattle.std.proofs.Common.{◌≤◌, length, take}
use Rattle.bmp_roots.specs.RootSystems.{matrix_of}
use Rattle.bmp_weyl.specs.Elements.{word_of}
use Rattle.bmp_interval.specs.Limits.{max_vertices}
use Rattle.bmp_interval.specs.Vertices.{HasVertices}
use Rattle.bmp_interval.proofs.growth.vertices.Given as goal

abbrev pub invariant-loop-letter : goal.invariant-loop-letter
invariant-loop-letter l =
    HasVertices (matrix_of l.roots) (word_of (take l.letter-index l.word)) l.set.keys ×
    (length l.set.keys ≤ max_vertices)
