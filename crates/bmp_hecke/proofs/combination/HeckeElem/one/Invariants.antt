use Rattle.std.proofs.Common.{◌≡◌, [], ◌++◌}
use Rattle.bmp_roots.specs.RootSystems.{matrix_of}
use Rattle.bmp_hecke.specs.Bars.{identity_combination}
use Rattle.bmp_weyl.specs.SimpleProducts.{tabulated, identity_element}
use Rattle.bmp_hecke.specs.WeylGroups.{group_of}
use Rattle.bmp_hecke.specs.Combinations.{place_value}
use Rattle.bmp_hecke.proofs.combination.HeckeElem.one.Given as goal

abbrev pub invariant-loop-i : goal.invariant-loop-i
invariant-loop-i l =
    l.coefficients.items
    ≡ [] ++ tabulated l.i (place_value (identity_combination (group_of l.roots) (identity_element (matrix_of l.roots))))
