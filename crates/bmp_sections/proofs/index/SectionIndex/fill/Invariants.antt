use Rattle.std.proofs.Common.{◌≡◌, length}
use Rattle.bmp_sheaf.specs.States.{sheaf_of}
use Rattle.bmp_sections.specs.Indexes.{IsIndexedBelow}
use Rattle.bmp_sections.proofs.index.SectionIndex.fill.Given as goal

-- the vertices so far
abbrev pub invariant-loop-y : goal.invariant-loop-y
invariant-loop-y g l = record {
  indexed : IsIndexedBelow l.sheaf.graph (sheaf_of l.sheaf) l.x l.d l.y l.self;
  starts : length l.self.starts.items ≡ length l.fn.self.starts.items;
  places : length l.self.places.items ≡ length l.fn.self.places.items;
}
