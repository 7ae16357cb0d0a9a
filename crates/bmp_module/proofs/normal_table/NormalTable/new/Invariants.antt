use Rattle.std.proofs.Common.{◌≡◌, length, map, get_or}
use Rattle.bmp_module.specs.Tables.{HasNormalForms}
use Rattle.bmp_module.proofs.normal_table.NormalTable.new.Given as goal

-- the degrees so far
abbrev pub invariant-loop-s : goal.invariant-loop-s
invariant-loop-s g l =
    (length l.table.items ≡ l.s)
    × HasNormalForms l.fn.label.prime l.fn.label.rank (λ k. get_or l.fn.label.coords k 0) l.fn.label.leading
    (map (λ v. v.items) l.table.items)
