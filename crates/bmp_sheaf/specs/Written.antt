-- Sheaves that are written down by vectors of coordinates: for each vertex a list of degrees and a list of lifts, by
-- edge going up from it and then by generator. In the order to read:
--   first_edge G x                the number of the first edge going up from x, where there is one
--   up_count G x                  how many edges go up from x
--   IsUpPlace G x e k             the edge e is number k, from 0, of those that go up from x
--   lift_place G degrees e g      where the lift of the generator g on the edge e stands among the lifts of the lower
--                                 end
--   written_sheaf G degrees lifts the sheaf
use Rattle.std.specs.Prelude.{◌≡◌, ℕ, ◌+◌, ◌-◌, ◌*◌, ◌<◌, ◌≤◌, ◌==◌, nat_lt, if◌then◌else◌, List, [], length, slice_index, slice_index_or}
use Rattle.bmp_math.specs.Sums.{sum_below}
use Rattle.bmp_linear.specs.declared.vector.Entry.{Entry}
use Rattle.bmp_linear.specs.SparseVectors.{number_at}
use Rattle.bmp_graph.specs.Graph.{Graph, edge_count, lower, upper}
use Rattle.bmp_sheaf.specs.Sheaves.{SheafData}
use Rattle.bmp_sheaf.specs.Coordinates.{element_of}

-- edges are in the order of their lower ends, so that it is how many start below x
abbrev pub first_edge : Graph → ℕ → ℕ
first_edge G x = sum_below (λ e. if nat_lt (lower G e) x then 1 else 0) (edge_count G)

abbrev pub up_count : Graph → ℕ → ℕ
up_count G x = sum_below (λ e. if lower G e == x then 1 else 0) (edge_count G)

pub record IsUpPlace (G : Graph) (x e k : ℕ) : Type 0 where
  pub first : first_edge G x ≤ e
  pub place : k ≡ e - first_edge G x
  pub within : k < up_count G x

abbrev pub lift_place : Graph → (ℕ → List ℕ) → ℕ → ℕ → ℕ
lift_place G degrees e g = (e - first_edge G (lower G e)) * length (degrees (lower G e)) + g

-- the lift of a generator is an element of its degree at the upper end, by its coordinates
abbrev pub written_sheaf : Graph → (ℕ → List ℕ) → (ℕ → List (List Entry)) → SheafData
written_sheaf G degrees lifts = record {
  degrees = degrees;
  lift = λ e g.
      element_of G.rank (degrees (upper G e)) (slice_index (degrees (lower G e)) g)
      (number_at (slice_index_or (lifts (lower G e)) (lift_place G degrees e g) []));
}
