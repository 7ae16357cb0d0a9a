use Rattle.std.proofs.Common.{◌≡◌, ◌+◌, sum, drop}
use Rattle.bmp_module.proofs.blocks.degree_of.Given as goal

abbrev pub invariant-loop-exponent : goal.invariant-loop-exponent
invariant-loop-exponent l = l.degree + sum (drop l.exponent-index l.m) ≡ sum l.m
