use Rattle.std.proofs.Common.{get_or}
use Rattle.bmp_module.specs.Tables.{HasNormalColumns}
use Rattle.bmp_module.proofs.normal_table.columns.Given as goal

-- the columns so far
abbrev pub invariant-loop-t : goal.invariant-loop-t
invariant-loop-t g l =
    HasNormalColumns l.fn.label.prime l.fn.label.rank (λ k. get_or l.fn.label.coords k 0) l.fn.label.leading l.fn.degree
    l.t l.numbers.items
