use Rattle.std.proofs.Common.{◌∙◌, sym, ap}
use Rattle.std.proofs.lemmas.Option.{get_or_from_slice_get}
use Rattle.bmp_roots.specs.RootSystems.{matrix_of, positive_roots_of}
use Rattle.bmp_roots.specs.declared.root_system.Roots.{Roots}
use Rattle.bmp_weyl.specs.Elements.{element_length}
use Rattle.bmp_interval.specs.IntervalViews.{system_of, word_below, vertices_of}
use Rattle.bmp_report.proofs.MatrixLemmas.{vertex_element, vertex_printed}
use Rattle.bmp_report.proofs.graph.push_vertex.Goals as goal

pub push_matrix-requires-clause-element : goal.push_matrix-requires-clause-element
push_matrix-requires-clause-element c =
    vertex_element (system_of c.args.interval.now) (word_below c.args.interval.now) c.elem.result.now
    c.elem.ensures.vertex

pub returns : goal.returns
returns c = λ e found.
    rw (
      c.in_ok-push.ensures.items,
      c.in_ok-push_matrix.ensures,
      c.in_ok-push_number-2.ensures.ok,
      c.in_ok-push_number.ensures.ok,
      c.in_ok-extend_from_slice.ensures.items,
    )
    (vertex_printed c.args.out.now.items (system_of c.args.interval.now) c.args.x c.from.result c.length.result
    c.from-2.result c.rank.result e c.elem.result.now
    c.from.ensures c.from-2.ensures (c.length.ensures c.elem.result.now
    ∙ ap (element_length (positive_roots_of (system_of c.args.interval.now)))
    (sym (c.elem.ensures.value c.elem.result.now)))
    (c.rank.ensures.value ∙ ap (λ (roots : Roots). (matrix_of roots).rank) c.roots.ensures)
    (c.elem.ensures.value e ∙ get_or_from_slice_get (vertices_of c.args.interval.now) c.args.x e e found))
