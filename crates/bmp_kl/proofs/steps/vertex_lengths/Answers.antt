use Rattle.std.proofs.Common.{◌∙◌, ◌++◌, ◌∷◌, [], arith, ap₂, sym}
use Rattle.std.proofs.lemmas.List.{map_more}
use Rattle.bmp_roots.specs.RootSystems.{matrix_of, positive_roots_of}
use Rattle.bmp_weyl.specs.Elements.{element_length}
use Rattle.bmp_weyl.specs.SimpleProducts.{identity_element}
use Rattle.bmp_interval.specs.IntervalViews.{system_of, vertices_of}
use Rattle.bmp_kl.proofs.steps.vertex_lengths.Goals as goal

pub loop-x-preserved : goal.loop-x-preserved
loop-x-preserved c =
    c.in_ok-push.ensures.items
    ∙ ap₂ (λ a b. a ++ b ∷ []) c.loop-x.invariant
    (c.length.ensures (identity_element (matrix_of (system_of c.args.interval.now))))
    ∙ sym (map_more (element_length (positive_roots_of (system_of c.args.interval.now)))
    (vertices_of c.args.interval.now) c.loop-x.x _
    (omega (arith, c.len-x-end.ensures.value)))
