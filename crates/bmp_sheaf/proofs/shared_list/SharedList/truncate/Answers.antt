use Rattle.std.proofs.Common.{take, ap, ◌∙◌}
use Rattle.std.specs.Arc.{arc_value}
use Rattle.bmp_sheaf.proofs.SharedLists.{first_values}
use Rattle.bmp_sheaf.proofs.shared_list.SharedList.truncate.Goals as goal

pub returns : goal.returns
returns g c =
    let k = c.self.inside.shared in
    let n = c.args.count in
    let xs = (arc_value c.self.inside.beginning).items in
    rw (c.truncate.ensures.items, c.saturating_sub-left.ensures)
    (first_values arc_value k xs c.self.inside.rest.items c.self.invariant n ∙ ap (take n) c.self.view_is)
