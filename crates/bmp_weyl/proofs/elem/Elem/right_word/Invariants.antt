use Rattle.bmp_roots.specs.RootSystems.{positive_roots_of}
use Rattle.bmp_weyl.specs.Elements.{element_length}
use Rattle.bmp_weyl.proofs.CallLemmas.{HasLeft}
use Rattle.bmp_weyl.proofs.elem.Elem.right_word.Given as goal

abbrev pub invariant-loop-k : goal.invariant-loop-k
invariant-loop-k l = HasLeft l.roots l.self l.word l.rest

abbrev pub decreases-loop-k : goal.decreases-loop-k
decreases-loop-k l = element_length (positive_roots_of l.roots) l.rest
