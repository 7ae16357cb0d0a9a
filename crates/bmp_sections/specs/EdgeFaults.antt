-- What the check of a tuple answers, of the tuple over the vertices above x, of degree d, with the numbers t at its
-- positions.
-- In the order to read:
--   IsCompatible G F x d t            the tuple is a section over the vertices above x
--   equation_of G F x d t k           the value of its equation k
--   IsFirstEdgeFault G F x d t fault  the equation of this edge and coordinate has another value than 0, and each
--                                     before it has 0
use Rattle.std.specs.Prelude.{◌≡◌, ◌≢◌, ℕ, ◌+◌, ◌<◌, IsTrue}
use Rattle.bmp_graph.specs.Graph.{Graph, edge_count, lower}
use Rattle.bmp_sheaf.specs.Sheaves.{SheafData}
use Rattle.bmp_sheaf.specs.Coordinates.{edge_module_count}
use Rattle.bmp_sections.specs.Sections.{IsSection, above}
use Rattle.bmp_sections.specs.Positions.{tuple_of, equation_start}
use Rattle.bmp_sections.specs.Numbers.{is_above, equation_number}
use Rattle.bmp_sections.specs.declared.compatible.EdgeFault.{EdgeFault}

module _ (G : Graph) (F : SheafData) (x d : ℕ) (t : ℕ → ℕ) where
  abbrev pub IsCompatible : Type 0
  IsCompatible = IsSection G F (above G x) d (tuple_of G F (is_above G x) d t)

  abbrev pub equation_of : ℕ → ℕ
  equation_of k = equation_number G F (is_above G x) d (tuple_of G F (is_above G x) d t) k

  -- equations stand edge after edge, and on an edge by coordinate
  pub record IsFirstEdgeFault (fault : EdgeFault) : Type 0 where
    pub edge : fault.edge < edge_count G
    pub starts_above : IsTrue (is_above G x (lower G fault.edge))
    pub place : fault.place < edge_module_count G F d fault.edge
    pub left_is : fault.left ≡ equation_of (equation_start G F (is_above G x) d fault.edge + fault.place)
    pub right_is : fault.right ≡ 0
    pub differs : fault.left ≢ fault.right
    pub earlier : (k : ℕ) → k < equation_start G F (is_above G x) d fault.edge + fault.place → equation_of k ≡ 0
