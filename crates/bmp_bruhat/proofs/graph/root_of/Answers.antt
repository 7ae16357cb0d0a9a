use Rattle.std.proofs.Common.{◌≡◌, ◌<◌, length, slice_index_or, arith, rules, ap, subst, below_more}
use Rattle.bmp_roots.specs.Pairs.{pair_of}
use Rattle.bmp_roots.specs.RootSystems.{matrix_of, positives}
use Rattle.bmp_roots.specs.declared.root_pair.Pair.{Pair}
use Rattle.bmp_weyl.specs.Elements.{IsReflection}
use Rattle.bmp_interval.specs.IntervalViews.{system_of, vertices_of}
use Rattle.bmp_bruhat.specs.Edges.{IsEdgeOfRoot}
use Rattle.bmp_bruhat.proofs.RootLemmas.{root_operands, root_found, root_other, root_missed}
use Rattle.bmp_bruhat.proofs.graph.root_of.Goals as goal

pub mul-product-requires : goal.mul-product-requires
mul-product-requires c =
    let count = ap (λ z. length (positives z)) c.roots-roots.ensures in
    let inside : c.loop-i.i < length (positives (system_of c.args.interval.now)) =
    omega (arith, c.positive-i-end.ensures.value) in
    let reflects = subst
    (λ z. (d : Pair) → IsReflection (matrix_of z) (pair_of (slice_index_or (positives z) c.loop-i.i d))
    c.reflection.result) c.roots-roots.ensures c.reflection.ensures.reflection in
    root_operands (system_of c.args.interval.now) (vertices_of c.args.interval.now) c.args.edge.now.lower
    c.args.edge.now.upper c.requires _ _ c.elem-low.ensures.value c.elem-high.ensures.value
    c.loop-i.i inside c.reflection.result reflects

pub returns-then-is_same : goal.returns-then-is_same
returns-then-is_same c =
    let count = ap (λ z. length (positives z)) c.roots-roots.ensures in
    let inside : c.loop-i.i < length (positives (system_of c.args.interval.now)) =
    omega (arith, c.positive-i-end.ensures.value) in
    let reflects = subst
    (λ z. (d : Pair) → IsReflection (matrix_of z) (pair_of (slice_index_or (positives z) c.loop-i.i d))
    c.reflection.result) c.roots-roots.ensures c.reflection.ensures.reflection in
    let same : c.mul-product.result ≡ c.elem-high.result.now = search rules in
    root_found (system_of c.args.interval.now) (vertices_of c.args.interval.now) c.args.edge.now.lower
    c.args.edge.now.upper c.requires _ _ c.elem-low.ensures.value c.elem-high.ensures.value
    c.loop-i.i inside c.reflection.result reflects c.mul-product.result c.mul-product.ensures.product same

pub loop-i-preserved : goal.loop-i-preserved
loop-i-preserved c =
    let count = ap (λ z. length (positives z)) c.roots-roots.ensures in
    let inside : c.loop-i.i < length (positives (system_of c.args.interval.now)) =
    omega (arith, c.positive-i-end.ensures.value) in
    let reflects = subst
    (λ z. (d : Pair) → IsReflection (matrix_of z) (pair_of (slice_index_or (positives z) c.loop-i.i d))
    c.reflection.result) c.roots-roots.ensures c.reflection.ensures.reflection in
    let apart : c.mul-product.result ≡ c.elem-high.result.now → ⊥ = search rules in
    below_more (λ j. IsEdgeOfRoot (system_of c.args.interval.now) (vertices_of c.args.interval.now)
    c.args.edge.now.lower c.args.edge.now.upper j → ⊥) c.loop-i.i c.loop-i.invariant
    (root_other (system_of c.args.interval.now) (vertices_of c.args.interval.now) c.args.edge.now.lower
    c.args.edge.now.upper c.requires _ _ c.elem-low.ensures.value c.elem-high.ensures.value
    c.loop-i.i inside c.reflection.result reflects c.mul-product.result c.mul-product.ensures.product apart)

pub unreachable-requires : goal.unreachable-requires
unreachable-requires c =
    let count = ap (λ z. length (positives z)) c.roots-roots.ensures in
    root_missed (system_of c.args.interval.now) (vertices_of c.args.interval.now) c.args.edge.now.lower
    c.args.edge.now.upper c.loop-i.i c.requires
    (omega (arith, c.positive-i-end.ensures.value)) c.loop-i.invariant
