use Rattle.bmp_module.proofs.Dividing.{DividedBelow}
use Rattle.bmp_module.proofs.blocks.divided.Given as goal

abbrev pub invariant-loop-k : goal.invariant-loop-k
invariant-loop-k l = DividedBelow l.e l.m l.rest l.k
