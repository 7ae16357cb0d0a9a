use Rattle.std.proofs.Common.{ap, sym, subst, ◌∙◌}
use Rattle.std.proofs.lemmas.Result.{err_from_is_err_and}
use Rattle.bmp_cert.specs.Counts.{Written}
use Rattle.bmp_check.specs.declared.shaped.Shaped.{Shaped}
use Rattle.bmp_check.specs.Pieces.{HaveRoom}
use Rattle.bmp_check.specs.ShapedViews.{graph_in, version_in, cert_in}
use Rattle.bmp_check.proofs.WholeLemmas.{all_pass, block_refused}
use Rattle.bmp_check.proofs.Soundness.{passed_is_braden_macpherson, passed_generators_are_bounded, passed_counts_are_dimensions}
use Rattle.bmp_check.proofs.whole.check_graph_with.Goals as goal

pub returns-clause-passes : goal.returns-clause-passes
returns-clause-passes g c =
    let w : Written = record { degree = c.args.degree; parts = c.args.parts.now } in
    let shaped = c.shaped_of-shaped.ensures in
    let set = c.in_ok-setting.ensures.shaped in
    all_pass c.args.graph.now c.args.version w (ap graph_in set ∙ shaped.graph) (ap version_in set ∙ shaped.version)
    (ap cert_in set ∙ shaped.cert) c.in_ok-sizes.ensures.count c.in_ok-sizes.ensures.shape
    c.in_ok-check_top.ensures.first c.in_ok-check_blocks.ensures.ok

pub returns-clause-sheaf : goal.returns-clause-sheaf
returns-clause-sheaf g c =
    let w : Written = record { degree = c.args.degree; parts = c.args.parts.now } in
    passed_is_braden_macpherson c.args.graph.now c.args.version w c.requires.checkable (returns-clause-passes g c)

pub returns-clause-bounded : goal.returns-clause-bounded
returns-clause-bounded g c =
    let w : Written = record { degree = c.args.degree; parts = c.args.parts.now } in
    passed_generators_are_bounded c.args.graph.now c.args.version w c.requires.checkable (returns-clause-passes g c)

pub returns-clause-dimensions : goal.returns-clause-dimensions
returns-clause-dimensions g c =
    let w : Written = record { degree = c.args.degree; parts = c.args.parts.now } in
    passed_counts_are_dimensions c.args.graph.now c.args.version w c.requires.checkable (returns-clause-passes g c)

pub returns-in_err-check_blocks-clause-refused : goal.returns-in_err-check_blocks-clause-refused
returns-in_err-check_blocks-clause-refused g c =
    let w : Written = record { degree = c.args.degree; parts = c.args.parts.now } in
    let r = c.in_err-check_blocks.field-0.0 in
    let shaped = c.shaped_of-shaped.ensures in
    let set = c.in_ok-setting.ensures.shaped in
    let p =
    err_from_is_err_and c.from_residual-in_err-check_blocks.result c.from_residual-in_err-check_blocks.ensures.1 in
    rw (p.1, p.2) (
      block_refused c.args.graph.now c.args.version w (ap graph_in set ∙ shaped.graph)
          (ap version_in set ∙ shaped.version) (ap cert_in set ∙ shaped.cert) r
          c.in_ok-sizes.ensures.count
          c.in_ok-sizes.ensures.shape c.in_ok-check_top.ensures.first c.in_err-check_blocks.ensures.first,
      c.in_err-check_blocks.ensures.differ,
    )

pub check_blocks-requires-clause-room : goal.check_blocks-requires-clause-room
check_blocks-requires-clause-room g c = λ κs within.
    subst (λ (u : Shaped). HaveRoom u c.deref_mut.result.now) c.shaped.ensures
    (subst (HaveRoom c.shaped.result.now) (sym c.deref_mut.ensures.value) c.in_ok-pieces.ensures.room)
