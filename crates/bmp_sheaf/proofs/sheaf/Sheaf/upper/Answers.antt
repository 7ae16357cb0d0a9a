use Rattle.std.proofs.Common.{◌≡◌, sym, ap, subst, ◌∙◌}
use Rattle.bmp_graph.specs.Graph.{lower}
use Rattle.bmp_sheaf.specs.UpperTables.{IsUpperOf}
use Rattle.bmp_sheaf.proofs.UpEdges.{GoesUp}
use Rattle.bmp_sheaf.proofs.StalkTableLemmas.{upper_read}
use Rattle.bmp_sheaf.proofs.sheaf.Sheaf.upper.Goals as goal

pub returns-clause-upper : goal.returns-clause-upper
returns-clause-upper g c =
    let s = c.args.self.now in
    let e = c.args.e in
    let x = c.edge.result.now.lower in
    let starts : x ≡ lower s.graph e = c.edge.ensures.lower ∙ ap (λ G. lower G e) c.graph.ensures.graph in
    let up : GoesUp s.graph x e c.up_place.result =
    record { is_edge = c.requires.edge; starts = sym starts; at = rw starts c.up_place.ensures } in
    let uppers = rw (← c.part.view_is) at c.part-part.ensures.table.uppers in
    subst (IsUpperOf s e) (sym c.deref.ensures)
    (upper_read c.part.inside.uppers.items uppers up c.index.result.now c.index.ensures)
