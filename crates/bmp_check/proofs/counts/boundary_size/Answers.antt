use Rattle.std.proofs.Common.{◌≡◌, ◌+◌, sym, ap, ap₂, ◌∙◌, arith}
use Rattle.bmp_sheaf.specs.Coordinates.{boundary_start}
use Rattle.bmp_sheaf.proofs.UpEdges.{boundary_starts, boundary_goes_on, boundary_ends, up_few}
use Rattle.bmp_check.specs.PartsSheaf.{parts_sheaf}
use Rattle.bmp_check.proofs.EdgeSizes.{edge_size}
use Rattle.bmp_check.specs.ShapedViews.{written_in}
use Rattle.bmp_check.proofs.counts.boundary_size.Goals as goal

pub edges-init : goal.edges-init
edges-init c = record {
  so_far = sym (boundary_starts c.args.graph.now c.args.x c.up-from.result.0 c.up-from.result.1 c.up-from.ensures.range
      (parts_sheaf c.args.graph.now (written_in c.args.c.now)) c.args.d);
  small = omega arith;
}

pub overflow_add-size : goal.overflow_add-size
overflow_add-size c =
    let few = up_few c.args.graph.now c.args.x c.up-from.result.0 c.up-from.result.1 c.up-from.ensures.range
    c.up-from.ensures.graph in
    omega (
      arith,
      few,
      c.requires.few,
      c.edges.invariant.small,
      c.stalk_size-size.ensures.smaller,
      c.rank-rank.ensures.range,
      c.edges-test.true,
    )

pub edges-preserved : goal.edges-preserved
edges-preserved c =
    let G = c.args.graph.now in
    let size = edge_size G (written_in c.args.c.now) c.rank-rank.result c.edges.e c.edge.result.now.upper c.args.d
    c.stalk_size-size.result c.part_of-upper.result.now
    c.rank-rank.ensures.value c.edge.ensures.upper c.part_of-upper.ensures c.stalk_size-size.ensures.number in
    record {
      so_far = ap₂ (λ a b. a + b) c.edges.invariant.so_far size
          ∙ sym (boundary_goes_on G c.args.x c.up-from.result.0 c.up-from.result.1 c.up-from.ensures.range
          (parts_sheaf G (written_in c.args.c.now)) c.args.d c.edges.e (omega (arith, c.edges.auto.e))
          c.edges-test.true);
      small = omega (
        arith,
        c.edges.invariant.small,
        c.stalk_size-size.ensures.smaller,
        c.rank-rank.ensures.range,
        c.edges.auto.e,
      );
    }

pub returns-clause-number : goal.returns-clause-number
returns-clause-number c =
    let G = c.args.graph.now in
    let F = parts_sheaf G (written_in c.args.c.now) in
    let end : c.edges.e ≡ c.up-from.result.1 = omega (arith, c.edges.auto, c.up-from.ensures.range.ordered) in
    c.edges.invariant.so_far ∙ ap (boundary_start G F c.args.x c.args.d) end
    ∙ boundary_ends G c.args.x c.up-from.result.0 c.up-from.result.1 c.up-from.ensures.range F c.args.d

pub returns-clause-small : goal.returns-clause-small
returns-clause-small c =
    let few = up_few c.args.graph.now c.args.x c.up-from.result.0 c.up-from.result.1 c.up-from.ensures.range
    c.up-from.ensures.graph in
    omega (arith, few, c.requires.few, c.edges.invariant.small, c.edges.auto, c.up-from.ensures.range.ordered)
