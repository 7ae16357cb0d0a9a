use Rattle.std.proofs.Common.{List, take, sym, ap, ◌∙◌}
use Rattle.std.specs.Arc.{arc_value}
use Rattle.std.proofs.lemmas.List.{take-map}
use Rattle.bmp_sheaf.specs.States.{Stalk, SheafState}
use Rattle.bmp_sheaf.specs.StalkTables.{stalk_in}
use Rattle.bmp_sheaf.proofs.FirstStalks.{kept_first}
use Rattle.bmp_sheaf.proofs.sheaf.Sheaf.first.Goals as goal

pub invariant_of-result : goal.invariant_of-result
invariant_of-result g c =
    rw (c.in_ok-try_clone.ensures, c.in_ok-stalks.ensures, c.in_ok-uppers.ensures)
    (kept_first c.self.invariant c.args.count)

pub returns : goal.returns
returns g c =
    let b = arc_value c.self.inside.setting in
    let first : SheafState g.row.F.Denot → SheafState g.row.F.Denot =
    λ s. record s { stalks = take c.args.count s.stalks } in
    rw (c.in_ok-try_clone.ensures, c.in_ok-stalks.ensures)
    (ap (λ (ys : List Stalk). record { graph = b.graph; field = b.field; degree = b.degree; stalks = ys })
    (sym (take-map stalk_in c.args.count c.self.inside.stalks)) ∙ ap first c.self.view_is)
