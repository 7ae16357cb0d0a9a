-- How many coordinates there are, as they are counted in memory.
use Rattle.std.proofs.Common.{◌≡◌, ℕ, ◌+◌, ◌<◌, ◌≤◌, max, length, ap, inl, inr, arith}
use Rattle.std.proofs.lemmas.Bool.{cases_eq}
use Rattle.bmp_graph.specs.Graph.{vertex_count}
use Rattle.bmp_sheaf.specs.Coordinates.{stalk_count, boundary_count}
use Rattle.bmp_sheaf.specs.States.{SheafState, stalk_of, IsThere, sheaf_of, IsRoom}

-- most is the least number of places that have room for each vertex before x
pub record IsRoomBefore {F : Type 0} (s : SheafState F) (d x most : ℕ) : Type 0 where
  pub room : (y : ℕ) → IsThere s y → y < x → (stalk_count s.graph.rank (stalk_of s y).degrees d ≤ most) ×
      (boundary_count s.graph (sheaf_of s) y d ≤ most)
  pub least : (n : ℕ) → IsRoom s d n → most ≤ n

module _ {F : Type 0} (s : SheafState F) (d : ℕ) where
  pub room_none : (x : ℕ) → x + length s.stalks ≤ vertex_count s.graph → IsRoomBefore s d x 0
  room_none x none =
      record { room = λ y there before. absurd (omega (arith, there.1, before, none)); least = λ n room. omega arith }

  pub room_more : (x old stalk mid boundary new : ℕ) → IsThere s x →
      stalk ≡ stalk_count s.graph.rank (stalk_of s x).degrees d → boundary ≡ boundary_count s.graph (sheaf_of s) x d →
      mid ≡ max old stalk → new ≡ max mid boundary → IsRoomBefore s d x old → IsRoomBefore s d (x + 1) new
  room_more x old stalk mid boundary new there stalk_is boundary_is mid_is new_is h =
      let first : stalk ≤ new = omega arith in
      let second : boundary ≤ new = omega arith in
      record {
        room = λ y is before. elim (cases_eq y x) [
          | inl same ↦ (
            omega (
              arith,
              first,
              stalk_is,
              ap (λ z. stalk_count s.graph.rank (stalk_of s z).degrees d) same,
            ),
            omega (arith, second, boundary_is, ap (λ z. boundary_count s.graph (sheaf_of s) z d) same),
          )
          | inr other ↦ let room = h.room y is (omega (arith, before, other)) in
              (omega (arith, room.0, mid_is, new_is), omega (arith, room.1, mid_is, new_is))
        ];
        least = λ n room. omega (arith, h.least n room, (room x there).0, (room x there).1);
      }

  pub room_whole : (x most : ℕ) → vertex_count s.graph ≤ x → IsRoomBefore s d x most → IsRoom s d most
  room_whole x most whole h y there = h.room y there (omega (arith, there.0, whole))
