use Rattle.std.proofs.Common.{◌≡◌, ℕ, ◌+◌, ◌-◌, ap, ◌∙◌, arith}
use Rattle.std.specs.Fmt.{decimal}
use Rattle.bmp_text.proofs.PrintingLoops.{range_words_on}
use Rattle.bmp_poly.specs.Labels.{coordinate_of}
use Rattle.bmp_graph.specs.Graph.{label}
use Rattle.bmp_report.proofs.graph.push_label.Goals as goal

pub coordinates-preserved : goal.coordinates-preserved
coordinates-preserved c =
    let place : c.coordinates.i + 1 - 1 ≡ c.coordinates.i = omega arith in
    let is : c.from.result ≡ label c.args.graph.now c.args.e c.coordinates.i =
    c.from.ensures ∙ (c.coordinate.ensures
    ∙ (ap (λ (k : ℕ). coordinate_of c.edge-edge.result.now.label k) place
    ∙ ap (λ (f : ℕ → ℕ). f c.coordinates.i) c.edge-edge.ensures.label)) in
    rw (c.in_ok-push_number.ensures.ok, is)
    (range_words_on (λ i. decimal (label c.args.graph.now c.args.e i)) c.coordinates.out.items _ c.coordinates.i
    (c.rank-rank.result - c.coordinates.i) (c.rank-rank.result - (c.coordinates.i + 1)) (omega arith)
    c.coordinates.invariant)
