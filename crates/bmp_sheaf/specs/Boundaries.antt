-- Boundaries that are written down, in the first row of a scratch. In the order to read:
--   IsRunWritten f start n old new        from the place `start` on stand the numbers f 0, .., f (n - 1). What stands
--                                         before them, the length and the second row are as they were
--   lift_numbers G F d e u                the coordinates on the edge e of the lift of the element with the coordinates
--                                         u, of degree d
--   IsBoundaryWritten G F x d u old new   the row begins with the boundary coordinates, at the vertex x, of that
--                                         element
use Rattle.std.specs.Prelude.{◌≡◌, ℕ, ◌+◌, ◌<◌, length, slice_index}
use Rattle.bmp_linear.specs.RowTables.{Work}
use Rattle.bmp_graph.specs.Graph.{Graph, lower}
use Rattle.bmp_sheaf.specs.Sheaves.{SheafData, lift_of, boundary_of_element}
use Rattle.bmp_sheaf.specs.Coordinates.{element_of, boundary_count}
use Rattle.bmp_sheaf.specs.Numbers.{on_edge, boundary_number}

pub record KeepsRest (old new : Work) : Type 0 where
  pub first : length new.first ≡ length old.first
  pub second : new.second ≡ old.second

pub record IsRunWritten (f : ℕ → ℕ) (start n : ℕ) (old new : Work) : Type 0 where
  pub numbers : (i : ℕ) → i < n → slice_index new.first (start + i) ≡ f i
  pub before : (k : ℕ) → k < start → slice_index new.first k ≡ slice_index old.first k
  pub rest : KeepsRest old new

module _ (G : Graph) (F : SheafData) where
  abbrev pub lift_numbers : ℕ → ℕ → (ℕ → ℕ) → ℕ → ℕ
  lift_numbers d e u = on_edge G F d e (lift_of G F e d (element_of G.rank (F.degrees (lower G e)) d u))

  pub record IsBoundaryWritten (x d : ℕ) (u : ℕ → ℕ) (old new : Work) : Type 0 where
    pub numbers :
        (k : ℕ) → k < boundary_count G F x d →
        slice_index new.first k ≡ boundary_number G F x d
        (boundary_of_element G F d (element_of G.rank (F.degrees x) d u)) k
    pub rest : KeepsRest old new
