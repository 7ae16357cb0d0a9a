use Rattle.std.proofs.Common.{[], refl}
use Rattle.bmp_roots.specs.RootSystems.{matrix_of, positive_roots_of}
use Rattle.bmp_weyl.proofs.CallLemmas.{root_system}
use Rattle.bmp_weyl.proofs.ElementLemmas.{same_element}
use Rattle.bmp_weyl.proofs.SimpleLemmas.{identity_is}
use Rattle.bmp_hecke.proofs.elements.identity.Goals as goal

pub returns-clause-value : goal.returns-clause-value
returns-clause-value c =
    same_element (matrix_of c.args.roots.now) [] [] c.identity.result _ c.identity.ensures
    (identity_is (matrix_of c.args.roots.now) (positive_roots_of c.args.roots.now) (root_system c.args.roots.now)) refl

pub returns-clause-element : goal.returns-clause-element
returns-clause-element c = ([], c.identity.ensures)
