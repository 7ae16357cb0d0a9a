use Rattle.std.proofs.Common.{◌≡◌, ◌∙◌, ◌+◌, ◌-◌, ℕ, List, suc, get_or, ap, refl, arith}
use Rattle.bmp_poly.specs.Exponents.{count}
use Rattle.bmp_graph.specs.Graph.{vertex_count}
use Rattle.bmp_levels.proofs.CountLemmas.{counted_first, count_is, counted_more}
use Rattle.bmp_levels.proofs.counts.longer_counts.Goals as goal

pub loop-b-init : goal.loop-b-init
loop-b-init g c =
    counted_first c.args.graph.now c.args.d (g.B.LevelBlocks.block c.args.blocks.now) c.from-sum.result
    c.in_ok-counts.counts.items (c.in_ok-counts.ensures ∙ c.vertices-vertices.ensures.count)
    (c.from-sum.ensures ∙ c.count.ensures.number ∙ ap (λ r. count r c.args.d) c.rank.ensures.value)
    (omega (arith, c.from-sum.ensures, c.count.ensures.most))

pub loop-b-preserved : goal.loop-b-preserved
loop-b-preserved g c =
    let G = c.args.graph.now in
    let block = g.B.LevelBlocks.block c.args.blocks.now in
    let is = c.vertices-vertices.ensures.graph in
    let h = c.loop-b.invariant in
    let x = c.vertices-vertices.result - 1 - c.loop-b.b in
    let at : (c.vertices-vertices.result - 1 - c.loop-b.b) + suc c.loop-b.b ≡ vertex_count c.args.graph.now =
    omega (arith, c.vertices-vertices.ensures.count, c.loop-b-test.true) in
    counted_more G c.args.d block x is h at c.longer_count.result c.from-sum-in-loop-b.result
    (c.loop-b.sum + c.from-sum-in-loop-b.result)
    (count_is G c.args.d block x is h at c.longer_count.result
    (λ more same. c.longer_count.ensures.same more same
    ∙ ap (λ (xs : List ℕ). get_or xs (x + 1) 0) c.deref.ensures.value)
    c.longer_count.ensures.shorter)
    (c.from-sum-in-loop-b.ensures ∙ c.basis_len.ensures)
    (omega (arith, c.from-sum-in-loop-b.ensures, c.basis_len.type_inv)) refl
