-- The stalks and edges of a sheaf as graded modules by coordinates, and its maps as maps of these. In the order to
-- read:
--   stalk_module G F x      the stalk at the vertex x: a free module
--   edge_module G F e       the module of the edge e: that of its upper end, modulo the label
--   from_lower G F e        the map from the stalk at the lower end of e: the coordinates on e of the lift
--   from_upper G F e        the map from the stalk at the upper end
use Rattle.std.specs.Prelude.{ℕ, ◌-◌}
use Rattle.bmp_graded.specs.Graded.{Graded}
use Rattle.bmp_graded.specs.Modules.{free}
use Rattle.bmp_graded.specs.Quotients.{quotient}
use Rattle.bmp_graph.specs.Graph.{Graph, lower, upper, label}
use Rattle.bmp_sheaf.specs.Sheaves.{SheafData, lift_of}
use Rattle.bmp_sheaf.specs.Coordinates.{element_of, leading}
use Rattle.bmp_sheaf.specs.Numbers.{on_edge}

module _ (G : Graph) (F : SheafData) where
  abbrev pub stalk_module : ℕ → Graded
  stalk_module x = free G.rank (F.degrees x)

  abbrev pub edge_module : ℕ → Graded
  edge_module e = quotient G.prime (G.rank - 1) (leading G e) (label G e) (F.degrees (upper G e))

  -- of degree d, with the coordinates u
  abbrev pub from_lower : ℕ → ℕ → (ℕ → ℕ) → ℕ → ℕ
  from_lower e d u = on_edge G F d e (lift_of G F e d (element_of G.rank (F.degrees (lower G e)) d u))

  abbrev pub from_upper : ℕ → ℕ → (ℕ → ℕ) → ℕ → ℕ
  from_upper e d u = on_edge G F d e (element_of G.rank (F.degrees (upper G e)) d u)
