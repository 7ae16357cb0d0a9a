use Rattle.std.proofs.Common.{w32, arith, subst, ◌∙◌}
use mir.Val.{SFits}
use Rattle.std.proofs.lemmas.Int.{ints, to_z-of_z}
use Rattle.bmp_roots.specs.Pairs.{root_pair}
use Rattle.bmp_bruhat.specs.Labels.{form_in, IsResidue}
use Rattle.bmp_bruhat.proofs.ResidueLemmas.{HasResidues-more}
use Rattle.bmp_bruhat.proofs.label.residues.Goals as goal

pub loop-j-preserved : goal.loop-j-preserved
loop-j-preserved c =
    let fits : SFits w32 c.coordinate.result = omega (arith, ints, c.coordinate.ensures.within) in
    let same = to_z-of_z w32 c.coordinate.result fits ∙ c.coordinate.ensures.value in
    HasResidues-more c.args.prime (form_in c.args.cartan.now c.args.weight (root_pair c.args.root.now c.args.root.now))
    c.loop-j.j c.residue.result c.loop-j.coords c.loop-j.invariant
    (omega (arith, c.requires.rank, c.rank-j-end.ensures.value, c.loop-j-test.true))
    (subst (λ z. IsResidue c.args.prime z c.residue.result) same c.residue.ensures)

pub returns-clause-residues : goal.returns-clause-residues
returns-clause-residues c =
    λ j h. c.loop-j.invariant.residue j (omega (arith, c.rank-j-end.ensures.value, c.loop-j-test.false))
