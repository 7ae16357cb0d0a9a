use Rattle.bmp_check.specs.ShapedViews.{method_in, written_in}
use Rattle.bmp_check.specs.TupleCounts.{HasTupleCounts}
use Rattle.bmp_check.proofs.tuple_counts.TupleCounts.new.Given as goal

-- the degrees so far
abbrev pub invariant-degrees : goal.invariant-degrees
invariant-degrees l = HasTupleCounts l.graph (method_in l.c) (written_in l.c) l.d l.numbers.items
