use Rattle.std.proofs.Common.{◌≡◌, ◌+◌, ◌*◌, List, length, get_or, ap, ◌∙◌}
use Rattle.std.specs.Prelude.{slice_index}
use Rattle.bmp_linear.specs.declared.vector.Entry.{Entry}
use Rattle.bmp_linear.specs.SparseVectors.{number_at}
use Rattle.bmp_graph.specs.Graph.{lower, upper}
use Rattle.bmp_sheaf.specs.Coordinates.{element_of}
use Rattle.bmp_sheaf.specs.Elements.{Element}
use Rattle.bmp_sheaf.specs.States.{stalk_of}
use Rattle.bmp_sheaf.proofs.StalkTableLemmas.{lift_kept, lift_kept_values, lift_kept_fits}
use Rattle.bmp_sheaf.proofs.sheaf.Sheaf.lift.Goals as goal

pub returns-clause-element : goal.returns-clause-element
returns-clause-element g c =
    let s = c.args.self.now in
    let element : List Entry → Element =
    λ w. element_of s.graph.rank (stalk_of s (upper s.graph c.args.e)).degrees
    (slice_index (stalk_of s (lower s.graph c.args.e)).degrees c.args.g) (number_at w) in
    let v = c.index-as_slice-place.result in
    let t = c.part-part.result.now in
    let place = c.up_place.result * c.generators.result + c.args.g in
    let starts : c.edge.result.now.lower ≡ lower c.args.self.now.graph c.args.e =
    c.edge.ensures.lower ∙ ap (λ G. lower G c.args.e) c.graph.ensures.graph in
    let many : c.generators.result ≡ length t.degrees = rw (← c.part.view_is) c.generators.ensures in
    let read : v ≡ get_or t.lifts place v =
    c.index-as_slice-place.is
    ∙ ap (λ xs. get_or xs place v) (c.as_slice.ensures.items ∙ ap (λ t. t.lifts) c.part.view_is) in
    ap element (lift_kept c.args.self.now c.edge.result.now.lower t c.part-part.ensures.table c.args.e c.requires.edge
    starts c.up_place.result c.args.g c.up_place.ensures c.requires.generator c.generators.result v many read)

pub returns-clause-fits : goal.returns-clause-fits
returns-clause-fits g c =
    let v = c.index-as_slice-place.result in
    let t = c.part-part.result.now in
    let place = c.up_place.result * c.generators.result + c.args.g in
    let starts : c.edge.result.now.lower ≡ lower c.args.self.now.graph c.args.e =
    c.edge.ensures.lower ∙ ap (λ G. lower G c.args.e) c.graph.ensures.graph in
    let many : c.generators.result ≡ length t.degrees = rw (← c.part.view_is) c.generators.ensures in
    let read : v ≡ get_or t.lifts place v =
    c.index-as_slice-place.is
    ∙ ap (λ xs. get_or xs place v) (c.as_slice.ensures.items ∙ ap (λ t. t.lifts) c.part.view_is) in
    lift_kept_fits c.args.self.now c.edge.result.now.lower t c.part-part.ensures.table c.args.e c.requires.edge starts
    c.up_place.result c.args.g c.up_place.ensures c.requires.generator c.generators.result v many read

pub returns-clause-values : goal.returns-clause-values
returns-clause-values g c =
    let v = c.index-as_slice-place.result in
    let t = c.part-part.result.now in
    let place = c.up_place.result * c.generators.result + c.args.g in
    let starts : c.edge.result.now.lower ≡ lower c.args.self.now.graph c.args.e =
    c.edge.ensures.lower ∙ ap (λ G. lower G c.args.e) c.graph.ensures.graph in
    let many : c.generators.result ≡ length t.degrees = rw (← c.part.view_is) c.generators.ensures in
    let read : v ≡ get_or t.lifts place v =
    c.index-as_slice-place.is
    ∙ ap (λ xs. get_or xs place v) (c.as_slice.ensures.items ∙ ap (λ t. t.lifts) c.part.view_is) in
    lift_kept_values c.args.self.now c.edge.result.now.lower t c.part-part.ensures.table c.args.e c.requires.edge starts
    c.up_place.result c.args.g c.up_place.ensures c.requires.generator c.generators.result v many read
