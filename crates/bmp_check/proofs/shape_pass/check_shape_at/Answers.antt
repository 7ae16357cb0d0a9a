use Rattle.std.proofs.Common.{◌≡◌, ◌+◌, ◌-◌, ◌∙◌, ◌++◌, length, get_or, ap, subst, sym, arith}
use Rattle.std.proofs.lemmas.Result.{err_from_is_err_and}
use Rattle.std.specs.List.Sorted.{IsStrictlyIncreasing}
use Rattle.bmp_linear.specs.declared.blocks.DegreeBlock.{DegreeBlock}
use Rattle.bmp_cert.specs.declared.cert.VertexPart.{VertexPart}
use Rattle.bmp_check.specs.declared.method.Method.{Method}
use Rattle.bmp_check.specs.BlockData.{block_of, no_block}
use Rattle.bmp_check.specs.Sizes.{vertex_sizes, sizes_of_block, block_sizes}
use Rattle.bmp_check.specs.SizeChecks.{Compares}
use Rattle.bmp_check.proofs.FormLemmas.{part_formed, block_formed, pivots_rise}
use Rattle.bmp_check.proofs.SizeCheckLemmas.{exit_compares, stops, then_compares}
use Rattle.bmp_check.proofs.ShapeLemmas.{start, sizes_first, sizes_later, answers_shape, block_compares}
use Rattle.bmp_check.specs.ShapedViews.{method_in, written_in}
use Rattle.bmp_check.proofs.shape_pass.check_shape_at.Goals as goal
use Rattle.bmp_check.proofs.shape_pass.check_shape_at.Goals.{then-d-eq0+in_ok-check_vertex_sizes, else-d-eq0}

pub returns-in_err-check_vertex_sizes : goal.returns-in_err-check_vertex_sizes
returns-in_err-check_vertex_sizes c =
    let G = c.args.graph.now in
    let cert = written_in c.args.c.now in
    let r = c.in_err-check_vertex_sizes.field-0.0 in
    let sizes = vertex_sizes G cert c.args.x ++ block_sizes G (method_in c.args.c.now) cert c.args.x c.args.d in
    let p = err_from_is_err_and c.from_residual.result c.from_residual.ensures.1 in
    answers_shape G (method_in c.args.c.now) cert c.args.x c.args.d c.check_vertex_sizes.new.at sizes
    c.from_residual.result (sizes_first G (method_in c.args.c.now) cert c.args.x c.args.d c.if-d-eq0.true)
    (exit_compares (start c.args.x c.args.d) c.check_vertex_sizes.new.at sizes c.from_residual.result p.0 r p.1 p.2
    (stops (start c.args.x c.args.d) (vertex_sizes G cert c.args.x)
    (block_sizes G (method_in c.args.c.now) cert c.args.x c.args.d) r c.in_err-check_vertex_sizes.ensures.compares))

pub block_of-requires : goal.block_of-requires
block_of-requires c =
    let formed = part_formed (c.args.graph.now.prime - 1) (written_in c.args.c.now) c.requires.ready.formed c.args.x
    (omega (arith, c.requires.vertex, c.requires.ready.vertices)) in
    omega (arith, formed.blocks.0, c.requires.degree, ap (λ (v : VertexPart). length v.blocks) c.part_of.ensures)

pub check_block_sizes-requires-clause-pivots : goal.check_block_sizes-requires-clause-pivots
check_block_sizes-requires-clause-pivots c =
    let cert = written_in c.args.c.now in
    let formed = part_formed (c.args.graph.now.prime - 1) cert c.requires.ready.formed c.args.x
    (omega (arith, c.requires.vertex, c.requires.ready.vertices)) in
    let here = block_formed (c.args.graph.now.prime - 1) (cert.degree + 1) _ _ c.args.d formed.blocks
    (omega (arith, c.requires.degree)) in
    let is : c.block_of.result.now ≡ block_of cert c.args.x c.args.d =
    c.block_of.ensures ∙ ap (λ (v : VertexPart). get_or v.blocks c.args.d no_block) c.part_of.ensures in
    subst (λ (b : DegreeBlock). IsStrictlyIncreasing b.kernel.pivots) (sym is) (pivots_rise _ _ here.pivots)

pub returns : goal.returns
returns c =
    let G = c.args.graph.now in
    let cert = written_in c.args.c.now in
    let x = c.args.x in
    let d = c.args.d in
    let new = c.check_block_sizes.new.at in
    let result = c.check_block_sizes.result in
    let is : c.block_of.result.now ≡ block_of cert x d =
    c.block_of.ensures ∙ ap (λ (v : VertexPart). get_or v.blocks d no_block) c.part_of.ensures in
    let compared = subst
    (λ (m : Method). Compares c.if-d-eq0.at new (sizes_of_block m c.block-counts.result c.block_of.result.now)
    result) c.method.ensures c.check_block_sizes.ensures in
    let block = block_compares G (method_in c.args.c.now) cert x d c.if-d-eq0.at new c.block-counts.result
    c.block_of.result.now result c.block-counts.ensures is compared in
    elim c.if-d-eq0.branch [
      | then-d-eq0+in_ok-check_vertex_sizes w ↦
          answers_shape G (method_in c.args.c.now) cert x d new
          (vertex_sizes G cert x ++ block_sizes G (method_in c.args.c.now) cert x d) result
          (sizes_first G (method_in c.args.c.now) cert x d w.if-d-eq0.true)
          (then_compares (start x d) w.check_vertex_sizes.new.at new (vertex_sizes G cert x)
          (block_sizes G (method_in c.args.c.now) cert x d) result w.in_ok-check_vertex_sizes.ensures.compares
          (subst (λ s. Compares s new (block_sizes G (method_in c.args.c.now) cert x d) result) w.at-is block))
      | else-d-eq0 w ↦
          answers_shape G (method_in c.args.c.now) cert x d new (block_sizes G (method_in c.args.c.now) cert x d) result
          (sizes_later G (method_in c.args.c.now) cert x d w.if-d-eq0.false)
          (subst (λ s. Compares s new (block_sizes G (method_in c.args.c.now) cert x d) result) w.at-is block)
    ]
