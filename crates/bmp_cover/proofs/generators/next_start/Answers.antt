use Rattle.std.proofs.Common.{arith}
use Rattle.bmp_module.specs.FreeModules.{rank_of, degrees_of}
use Rattle.bmp_cover.proofs.GeneratorLemmas.{next_is, next_within}
use Rattle.bmp_cover.proofs.generators.next_start.Goals as goal

pub overflow_add-result : goal.overflow_add-result
overflow_add-result c =
    let m = c.args.module.now in
    let next = next_is (rank_of m) (degrees_of m) c.args.d c.args.g c.args.start c.coordinates_of-own.result
    c.requires.start c.coordinates_of-own.ensures in
    omega (arith, next, c.requires.few, next_within (rank_of m) (degrees_of m) c.args.d c.args.g c.requires.generator)

pub returns : goal.returns
returns c =
    let m = c.args.module.now in
    next_is (rank_of m) (degrees_of m) c.args.d c.args.g c.args.start c.coordinates_of-own.result c.requires.start
    c.coordinates_of-own.ensures
