-- The main law of Braden-MacPherson sheaves, as a statement.
--   CountsOfAllAreDimensions     the numbers of their generators are dimensions, at each vertex and in each degree
use Rattle.std.specs.Prelude.{ℕ, ◌<◌, ◌≤◌}
use Rattle.bmp_graph.specs.Graph.{Graph}
use Rattle.bmp_sheaf.specs.Sheaves.{SheafData}
use Rattle.bmp_cover.specs.BradenMacPherson.{IsBradenMacPherson}
use Rattle.bmp_cover.specs.Counts.{CountsAreDimensions}

-- over the numbers modulo p, p not 0, and in at most six variables
abbrev pub CountsOfAllAreDimensions : Type 0
CountsOfAllAreDimensions =
    (G : Graph) (F : SheafData) (most top : ℕ) → 0 < G.prime → G.rank ≤ 6 →
    IsBradenMacPherson G F most top → CountsAreDimensions G F most top
