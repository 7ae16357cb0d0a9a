use Rattle.std.proofs.Common.{◌<◌, ◌∙◌, length, arith}
use Rattle.std.proofs.lemmas.List.{length-set}
use Rattle.bmp_sections.proofs.IndexLemmas.{places_more, places_kept}
use Rattle.bmp_sections.proofs.index.SectionIndex.fill_edge.Goals as goal

pub loop-coordinate-preserved : goal.loop-coordinate-preserved
loop-coordinate-preserved c =
    let old = c.args.self.now in
    let s = c.loop-coordinate.self in
    let i = c.loop-coordinate.invariant in
    let n = c.loop-coordinate.coordinate in
    let within : c.loop-coordinate.self.equations < length c.loop-coordinate.self.places.items = omega arith in
    record {
      equations = omega arith;
      added = places_more s.places.items old.equations c.args.edge n s.equations i.equations within i.added;
      kept = λ k below. places_kept s.places.items old.equations n s.equations
          (record { edge = c.args.edge; coordinate = n }) i.equations k below ∙ i.kept k below;
      positions = i.positions;
      starts = i.starts;
      places = length-set s.places.items s.equations (record { edge = c.args.edge; coordinate = n }) ∙ i.places;
    }
