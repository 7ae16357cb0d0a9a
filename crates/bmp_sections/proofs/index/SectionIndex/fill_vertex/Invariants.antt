use Rattle.std.proofs.Common.{◌≡◌, length}
use Rattle.bmp_sheaf.specs.States.{sheaf_of}
use Rattle.bmp_sections.proofs.IndexLemmas.{IsFilledTo}
use Rattle.bmp_sections.proofs.index.SectionIndex.fill_vertex.Given as goal

-- the positions up to y, and the equations of the edges so far
abbrev pub invariant-loop-edge : goal.invariant-loop-edge
invariant-loop-edge g l = record {
  filled : IsFilledTo l.sheaf.graph (sheaf_of l.sheaf) l.x l.d l.y l.edge l.self;
  starts : length l.self.starts.items ≡ length l.fn.self.starts.items;
  places : length l.self.places.items ≡ length l.fn.self.places.items;
}
