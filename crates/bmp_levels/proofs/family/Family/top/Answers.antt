use Rattle.std.proofs.Common.{◌∙◌, List, length, ap, subst}
use Rattle.bmp_poly.specs.Exponents.{count}
use Rattle.bmp_graph.specs.Graph.{Graph, vertex_count}
use Rattle.bmp_linear.specs.declared.vector.Entry.{Entry}
use Rattle.bmp_levels.specs.Runs.{FamilyTable, IsRunAdded}
use Rattle.bmp_levels.proofs.TopRuns.{IsTopMade, top_holds, top_same}
use Rattle.bmp_levels.proofs.family.Family.top.Goals as goal

pub returns : goal.returns
returns g c =
    let none = c.in_ok-family.family in
    let made : IsTopMade c.args.sheaf.now c.args.d c.count-size.result c.in_ok-units.field-0 c.in_ok-family.family
    c.add_vertex.new.self =
    record {
      has = c.requires.top;
      size_is =
          c.count-size.ensures.number
          ∙ ap (λ r. count r c.args.d) (c.rank.ensures.value ∙ ap (λ (G : Graph). G.rank) c.graph-graph.ensures.graph);
      are = c.in_ok-units.ensures;
      empty = ap (λ (f : FamilyTable). length f.runs) c.in_ok-family.ensures;
      vertices =
          ap (λ (f : FamilyTable). f.vertices) c.in_ok-family.ensures ∙ c.vertices.ensures.count
          ∙ ap vertex_count c.graph-graph.ensures.graph;
      counted = ap (λ (f : FamilyTable). f.count) c.in_ok-family.ensures;
      added =
          subst
          (λ (vs : List (List Entry)). IsRunAdded c.count-size.result vs c.in_ok-units.field-0 none
          c.add_vertex.new.self)
          c.new-none.ensures c.in_ok-add_vertex.ensures.added;
    } in
    record { holds = top_holds made; family = top_same made }
