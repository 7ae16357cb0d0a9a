use Rattle.bmp_roots.specs.Pairs.{root_pair}
use Rattle.bmp_bruhat.specs.Labels.{form_in}
use Rattle.bmp_bruhat.proofs.ResidueLemmas.{HasResidues}
use Rattle.bmp_bruhat.proofs.label.residues.Given as goal

-- the residues so far
abbrev pub invariant-loop-j : goal.invariant-loop-j
invariant-loop-j l = HasResidues l.prime (form_in l.cartan l.weight (root_pair l.root l.root)) l.j l.coords
