use Rattle.std.proofs.Common.{◌+◌, ◌-◌, ◌<◌, List, length, get_or, map, sym, ap, subst, ◌∙◌, arith}
use Rattle.std.specs.Arc.{arc_value}
use Rattle.std.proofs.lemmas.List.{length-map, map_more, take_all}
use Rattle.bmp_sheaf.specs.States.{Stalk}
use Rattle.bmp_sheaf.specs.StalkTables.{no_table, stalk_in, state_of, IsKept}
use Rattle.bmp_sheaf.proofs.FirstStalks.{kept_first}
use Rattle.bmp_sheaf.proofs.sheaf.Sheaf.pop_vertex.Goals as goal

pub invariant_of-self : goal.invariant_of-self
invariant_of-self g c =
    let b = arc_value c.self.inside.setting in
    subst (λ ts. IsKept (g.F.Field.size b.field) (state_of b.graph b.field b.degree ts) b.tables c.self.inside.uppers
    ts)
    (sym c.truncate.ensures) (kept_first c.self.invariant (c.len-count.result - 1))

pub returns : goal.returns
returns g c =
    let b = arc_value c.self.inside.setting in
    let ts = c.self.inside.stalks in
    let m = c.len-count.result - 1 in
    let some : 0 < length (map stalk_in ts) = rw (← c.self.view_is) at c.requires in
    rw c.truncate.ensures (
      stalk_in (get_or ts m no_table),
      sym c.self.view_is
          ∙ ap (λ (ys : List Stalk). record { graph = b.graph; field = b.field; degree = b.degree; stalks = ys })
          (ap (map stalk_in) (sym (take_all (m + 1) ts (omega (arith, c.len-count.ensures))))
          ∙ map_more stalk_in ts m no_table (omega (arith, c.len-count.ensures, some, length-map ts stalk_in))),
    )
