use Rattle.std.proofs.Common.{◌-◌, refl, ap₂, arith}
use Rattle.bmp_sheaf.specs.States.{no_stalk}
use Rattle.bmp_sheaf.proofs.OpeningLemmas.{none_opened, one_opened, all_opened}
use Rattle.bmp_sheaf.proofs.sheaf.Sheaf.open_vertices.Goals as goal

pub vertices-init : goal.vertices-init
vertices-init g c = none_opened (omega (arith, c.pushed-from.ensures.count, c.pushed-from.ensures.within))

pub vertices-preserved : goal.vertices-preserved
vertices-preserved g c =
    let next = c.vertices-test.ensures.0 refl in
    one_opened c.vertices.invariant no_stalk c.in_ok-push_empty.ensures next.0 next.1

pub returns : goal.returns
returns g c =
    all_opened c.vertices.invariant (λ next. let other = c.vertices-test.ensures.1 next in cc)
    (ap₂ (λ a b. a - b) c.pushed.ensures.count c.pushed-from.ensures.count)
