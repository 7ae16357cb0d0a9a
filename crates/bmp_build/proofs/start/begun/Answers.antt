use Rattle.std.proofs.Common.{◌≡◌, List, length, sym, ap, subst, arith}
use Rattle.std.specs.Prelude.{All}
use Rattle.std.proofs.lemmas.List.Elements.{All-nil}
use Rattle.bmp_graph.specs.Graph.{IsGraph, vertex_count}
use Rattle.bmp_linear.specs.declared.vector.Entry.{Entry}
use Rattle.bmp_linear.specs.SparseVectors.{ValuesBelow}
use Rattle.bmp_sheaf.specs.States.{next_vertex}
use Rattle.bmp_sheaf.specs.StalkFaults.{IsStalk}
use Rattle.bmp_cert.specs.declared.cert.VertexPart.{VertexPart}
use Rattle.bmp_build.proofs.Beginning.{top_is_stalk}
use Rattle.bmp_build.proofs.start.begun.Goals as goal

pub push_part-requires-clause-left : goal.push_part-requires-clause-left
push_part-requires-clause-left g c =
    let s = c.in_ok-sheaf.sheaf in
    let some = c.requires.on.graph.has_vertex in
    let vertices : vertex_count s.graph ≡ vertex_count c.args.graph.now =
    ap (λ t. vertex_count t.graph) c.in_ok-sheaf.ensures in
    omega (arith, some, vertices, ap (λ t. length t.stalks) c.in_ok-sheaf.ensures)

pub push_part-requires-clause-values : goal.push_part-requires-clause-values
push_part-requires-clause-values g c =
    subst (λ (p : VertexPart). All (λ v. ValuesBelow v c.in_ok-sheaf.sheaf.graph.prime) p.lifts) (sym c.requires.top)
    (All-nil (λ (v : List Entry). ValuesBelow v c.in_ok-sheaf.sheaf.graph.prime))

pub push_part-requires-clause-stalk : goal.push_part-requires-clause-stalk
push_part-requires-clause-stalk g c =
    let s = c.in_ok-sheaf.sheaf in
    let is : IsGraph s.graph =
    subst (λ t. IsGraph t.graph) (sym c.in_ok-sheaf.ensures) c.requires.on.graph in
    subst (λ (p : VertexPart). IsStalk s (next_vertex s) p.degrees p.lifts) (sym c.requires.top)
    (top_is_stalk is (ap (λ t. t.stalks) c.in_ok-sheaf.ensures))
