use Rattle.std.proofs.Common.{◌≡◌, ◌-◌, sym, ap, subst, arith}
use Rattle.std.specs.Prelude.{OnOk}
use Rattle.std.specs.Arc.{arc_value}
use Rattle.bmp_graph.specs.Graph.{vertex_count}
use Rattle.bmp_sheaf.specs.States.{next_vertex, with_stalk}
use Rattle.bmp_sheaf.specs.StalkTables.{IsStalkTable}
use Rattle.bmp_sheaf.proofs.NewStalks.{stalk_is, table_taken}
use Rattle.bmp_sheaf.proofs.sheaf.Sheaf.adopt.Given.{Over}
use Rattle.bmp_sheaf.proofs.sheaf.Sheaf.adopt.Goals.{In_ok-part}
use Rattle.bmp_sheaf.proofs.sheaf.Sheaf.adopt.Goals as goal

table_is : (g : Over) (c : In_ok-part g) →
    IsStalkTable c.args.other.now (next_vertex c.args.self.now) (arc_value c.in_ok-part.part)
table_is g c =
    let x : c.vertices.result - 1 - c.pushed.result ≡ next_vertex c.args.self.now =
    omega (arith, c.vertices.ensures.count, ap vertex_count c.graph.ensures.graph, c.pushed.ensures.count) in
    subst (λ y. IsStalkTable c.args.other.now y (arc_value c.in_ok-part.part)) x
    (rw c.in_ok-part.ensures c.shared_part.ensures.table)

pub add-requires-clause-table : goal.add-requires-clause-table
add-requires-clause-table g c =
    table_taken c.args.self.now c.args.other.now c.requires.left c.graph.ensures.state.over.is_graph c.requires.graph
    (arc_value c.in_ok-part.part)
    (table_is g (goal.at.add-requires-clause-table g c).In_ok-part) c.requires.degree c.requires.above

pub returns-clause-ok : goal.returns-clause-ok
returns-clause-ok g c =
    subst (λ z. OnOk c.add.result (c.add.new.self ≡ with_stalk c.args.self.now z))
    (sym (stalk_is (table_is g (goal.at.returns-clause-ok g c).In_ok-part)))
    c.add.ensures.ok
