use Rattle.std.proofs.Common.{◌≡◌, ◌+◌, length, take}
use Rattle.bmp_cert.specs.Counts.{part_of}
use Rattle.bmp_check.specs.Sizes.{listed, lift_size}
use Rattle.bmp_check.proofs.SizeCheckLemmas.{Passed}
use Rattle.bmp_check.specs.ShapedViews.{written_in}
use Rattle.bmp_check.proofs.shape_sizes.check_vertex_sizes.Given as goal

-- the lifts so far have passed
abbrev pub invariant-lifts : goal.invariant-lifts
invariant-lifts l = record {
  passed : Passed l.initial.at l.at
      (take l.i (listed (lift_size l.graph (written_in l.c) l.x) (length (part_of (written_in l.c) l.x).lifts)));
  index : l.at.index ≡ l.initial.at.index + l.i;
}
