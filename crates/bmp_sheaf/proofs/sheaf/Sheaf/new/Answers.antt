use Rattle.std.proofs.Common.{◌≤◌, subst, arith}
use Rattle.bmp_graded.specs.NormalForms.{HasInverses}
use Rattle.bmp_sheaf.specs.Fields.{IsOverField}
use Rattle.bmp_sheaf.proofs.NewStalks.{kept_none}
use Rattle.bmp_sheaf.proofs.sheaf.Sheaf.new.Goals as goal

pub invariant_of-result : goal.invariant_of-result
invariant_of-result g c =
    let G = c.args.graph.now in
    let two : 2 ≤ G.prime = omega (arith, g.met.F.Field.laws.at_least_two c.args.f, c.requires.prime) in
    let over : IsOverField G =
    record {
      is_graph = c.vertices.ensures.graph;
      two = two;
      inverses = subst HasInverses c.requires.prime (g.met.F.Field.laws.inverse c.args.f);
    } in
    rw (c.in_ok-new-2.ensures.ok, c.in_ok-copy.ensures, c.in_ok-stalks.ensures, c.in_ok-new-3.ensures)
    (kept_none (g.F.Field.size c.args.f) G c.args.f c.args.degree c.in_ok-new.field-0 c.requires.prime
    (record {
      over = over;
      some = omega (arith, c.rank-rank.ensures.value, c.rank-rank.ensures.range.0);
      wide = omega (arith, c.rank-rank.ensures.value, c.rank-rank.ensures.range.1);
      few = omega (arith, c.vertices.ensures.count, c.vertices.ensures.range);
      bound = c.requires.degree;
    })
    c.in_ok-new.ensures.tables)
