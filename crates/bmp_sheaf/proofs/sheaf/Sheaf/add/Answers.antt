use Rattle.std.proofs.Common.{◌≡◌, ◌<◌, length, map, sym, ap, subst, ◌∙◌, arith}
use Rattle.std.specs.Arc.{arc_value}
use Rattle.bmp_graph.specs.Graph.{vertex_count}
use Rattle.bmp_sheaf.specs.States.{SheafState, next_vertex, with_stalk}
use Rattle.bmp_sheaf.specs.StalkTables.{StalkTable, IsStalkTable, stalk_in}
use Rattle.bmp_sheaf.specs.UpperTables.{AreUpperTables}
use Rattle.bmp_sheaf.proofs.NewStalks.{kept_beside, tables_came, kept_more}
use Rattle.bmp_sheaf.proofs.sheaf.Sheaf.add.Given.{Over}
use Rattle.bmp_sheaf.proofs.sheaf.Sheaf.add.Goals.{After-keep_all}
use Rattle.bmp_sheaf.proofs.sheaf.Sheaf.add.Goals as goal

tables : (g : Over) (c : After-keep_all g) → AreUpperTables (arc_value c.self.inside.setting).degree c.keep_all.new.self
tables g c =
    let s = c.args.self.now in
    let h = c.self.invariant in
    let t = arc_value c.args.part in
    let uppers : map arc_value c.deref-2.result.now ≡ t.uppers =
    ap (map arc_value) c.deref-2.ensures.value
    ∙ ap (λ (u : StalkTable). u.uppers) (c.behind-part.view_is ∙ c.deref.ensures) in
    c.keep_all.ensures (arc_value c.self.inside.setting).degree h.upper_maps
    (rw uppers (tables_came h s (stalk_in t) (next_vertex s) t.uppers c.self.view_is c.requires.table.uppers))

pub invariant_of-self : goal.invariant_of-self
invariant_of-self g c =
    kept_beside c.self.invariant c.keep_all.new.self (tables g (goal.at.invariant_of-self g c).After-keep_all)

pub invariant_of-self-in_err-push : goal.invariant_of-self-in_err-push
invariant_of-self-in_err-push g c =
    rw c.in_err-push.ensures.err
    (kept_beside c.self.invariant c.keep_all.new.self
    (tables g (goal.at.invariant_of-self-in_err-push g c).After-keep_all))

pub invariant_of-self-2 : goal.invariant_of-self-2
invariant_of-self-2 g c =
    let b = arc_value c.self.inside.setting in
    let t = arc_value c.args.part in
    let h = kept_beside c.self.invariant c.keep_all.new.self
    (tables g (goal.at.invariant_of-self-2 g c).After-keep_all) in
    let new = subst (λ (z : SheafState g.row.F.Denot). IsStalkTable (with_stalk z (stalk_in t)) (next_vertex z) t)
    (sym c.self.view_is) c.requires.table in
    let left = subst (λ (z : SheafState g.row.F.Denot). length z.stalks < vertex_count z.graph) (sym c.self.view_is)
    c.requires.left in
    rw c.in_ok-push.ensures.ok (kept_more h t (omega (arith, left, h.stalks.as_many)) new)
