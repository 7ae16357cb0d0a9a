use Rattle.std.proofs.Common.{◌≡◌, ℕ, ◌+◌, ◌<◌, length, slice_get, Some}
use Rattle.bmp_sections.proofs.index.SectionIndex.fill_edge.Given as goal

-- the coordinates so far have their places
abbrev pub invariant-loop-coordinate : goal.invariant-loop-coordinate
invariant-loop-coordinate l = record {
  equations : l.self.equations ≡ l.fn.self.equations + l.coordinate;
  added : (i : ℕ) → i < l.coordinate → slice_get l.self.places.items (l.fn.self.equations + i)
      ≡ Some (record { edge = l.edge; coordinate = i });
  kept : (k : ℕ) → k < l.fn.self.equations → slice_get l.self.places.items k ≡ slice_get l.fn.self.places.items k;
  positions : l.self.positions ≡ l.fn.self.positions;
  starts : l.self.starts.items ≡ l.fn.self.starts.items;
  places : length l.self.places.items ≡ length l.fn.self.places.items;
}
