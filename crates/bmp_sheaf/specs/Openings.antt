-- Stalks that are added for all vertices of one length.
--   IsOpened old new k n     new is old with a stalk more, whatever it is, at each vertex of length k that old lacks,
--                            if these come next; there are n
use Rattle.std.specs.Prelude.{◌≡◌, ℕ, ◌+◌, ◌<◌, ◌≤◌, take, length}
use Rattle.bmp_graph.specs.Graph.{vertex_count, length_at}
use Rattle.bmp_sheaf.specs.States.{SheafState, next_vertex}

pub record IsOpened {A : Type 0} (old new : SheafState A) (k n : ℕ) : Type 0 where
  pub begins : old ≡ record new { stalks = take (length old.stalks) new.stalks }
  pub counted : length new.stalks ≡ length old.stalks + n
  pub few : length new.stalks ≤ vertex_count old.graph
  pub own :
      (y : ℕ) → y + length old.stalks < vertex_count old.graph → vertex_count old.graph ≤ y + length new.stalks →
      length_at old.graph y ≡ k
  pub all : (length new.stalks < vertex_count new.graph) × (length_at new.graph (next_vertex new) ≡ k) → ⊥
