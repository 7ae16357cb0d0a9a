use Rattle.std.proofs.Common.{rules, arith, ◌+◌, ◌<◌, ◌≤◌, ◌^◌, length}
use Rattle.bmp_module.proofs.TupledPlaces.{part_small}
use Rattle.bmp_module.proofs.TupledSums.{dim_step, dim_fits, dim_end}
use Rattle.bmp_module.proofs.tuple.TupleGradedModule.dim.Goals as goal

pub dim-dim-requires-clause-small : goal.dim-dim-requires-clause-small
dim-dim-requires-clause-small g c =
    let inside : c.loop-k.k < length c.args.self.now.parts.items = search rules in
    part_small g.M.GradedModule.graded c.args.d (2 ^ 64) c.args.self.now.parts.items c.loop-k.k c.index.result.now
    c.index.ensures inside c.requires.small

pub overflow_add-dim : goal.overflow_add-dim
overflow_add-dim g c =
    let inside : c.loop-k.k < length c.args.self.now.parts.items = search rules in
    let more : c.loop-k.dim + c.dim-dim.result < 2 ^ 64 =
    dim_fits g.M.GradedModule.graded c.args.d (2 ^ 64) c.args.self.now.parts.items c.loop-k.k c.loop-k.dim
    c.dim-dim.result c.index.result.now inside c.index.ensures c.dim-dim.ensures c.requires.small
    c.loop-k.invariant in
    omega (arith, more)

pub loop-k-preserved : goal.loop-k-preserved
loop-k-preserved g c =
    let inside : c.loop-k.k < length c.args.self.now.parts.items = search rules in
    dim_step g.M.GradedModule.graded c.args.d c.args.self.now.parts.items c.loop-k.k c.loop-k.dim c.dim-dim.result
    c.index.result.now inside c.index.ensures c.dim-dim.ensures c.loop-k.invariant

pub returns : goal.returns
returns g c =
    let past : length c.args.self.now.parts.items ≤ c.loop-k.k = search rules in
    dim_end g.M.GradedModule.graded c.args.d c.args.self.now.parts.items c.loop-k.k c.loop-k.dim past c.loop-k.invariant
