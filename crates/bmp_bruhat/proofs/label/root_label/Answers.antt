use Rattle.std.proofs.Common.{subst}
use Rattle.bmp_roots.specs.Pairs.{pair_of}
use Rattle.bmp_roots.specs.RootSystems.{matrix_of}
use Rattle.bmp_poly.specs.Labels.{IsFault, IsLabelOf}
use Rattle.bmp_poly.specs.declared.label.LabelFault.{LabelFault}
use Rattle.bmp_bruhat.specs.Labels.{form_in}
use Rattle.bmp_bruhat.proofs.LabelLemmas.{label_of_form, form_is_zero, residues_of_pair}
use Rattle.bmp_bruhat.proofs.label.root_label.Goals as goal

pub returns-in-Ok : goal.returns-in-Ok
returns-in-Ok c =
    λ pair at.
    let are = residues_of_pair c.args.roots.now c.args.i c.args.weight c.args.prime c.pair.result.0
    c.residues-coords.result c.cartan.result.now c.cartan.ensures.matrix c.pair.ensures.root
    (record { residues = c.residues-coords.ensures.residues; past = c.residues-coords.ensures.past }) pair at in
    label_of_form c.args.prime (matrix_of c.args.roots.now).rank
    (form_in (matrix_of c.args.roots.now) c.args.weight (pair_of pair)) c.residues-coords.result are c.in-Ok.label
    (subst (λ r. IsLabelOf c.args.prime r c.residues-coords.result c.in-Ok.label) c.rank.ensures.value
    c.in-Ok.ensures.ok)

pub returns-in-Err-Zero : goal.returns-in-Err-Zero
returns-in-Err-Zero c =
    λ pair at.
    let are = residues_of_pair c.args.roots.now c.args.i c.args.weight c.args.prime c.pair.result.0
    c.residues-coords.result c.cartan.result.now c.cartan.ensures.matrix c.pair.ensures.root
    (record { residues = c.residues-coords.ensures.residues; past = c.residues-coords.ensures.past }) pair at in
    form_is_zero c.args.prime (matrix_of c.args.roots.now).rank
    (form_in (matrix_of c.args.roots.now) c.args.weight (pair_of pair)) c.residues-coords.result are
    (subst (λ r. IsFault c.args.prime r c.residues-coords.result LabelFault.Zero) c.rank.ensures.value
    (rw c.in-Err-Zero.field-0-is at c.in-Err-Zero.ensures.fault))
