use Rattle.std.proofs.Common.{◌<◌, ◌∙◌, length, sym, ap, subst}
use Rattle.bmp_linear.specs.SparseVectors.{number_at}
use Rattle.bmp_sheaf.specs.Sheaves.{boundary_of_element}
use Rattle.bmp_sheaf.specs.Coordinates.{boundary_count, element_of}
use Rattle.bmp_sheaf.specs.Numbers.{boundary_number}
use Rattle.bmp_sheaf.specs.States.{sheaf_of}
use Rattle.bmp_sections.specs.TupleLists.{tuples_in}
use Rattle.bmp_cover.specs.CoverChecks.{ComparesCover, IsFirstCoverFailure}
use Rattle.bmp_cover.specs.declared.kind.Kind.TheVariants.{Cover}
use Rattle.bmp_cover.proofs.BoundaryParts.{one_value}
use Rattle.bmp_cover.proofs.CompareLemmas.{single_boundary}
use Rattle.bmp_cover.proofs.CoverSides.{cover_sides, cover_left, cover_right}
use Rattle.bmp_cover.proofs.FaultLemmas.{difference_moved, index_passes, index_fails}
use Rattle.bmp_cover.proofs.covers.check_covers.Goals as goal

pub compare_boundary-requires-clause-values : goal.compare_boundary-requires-clause-values
compare_boundary-requires-clause-values g c =
    one_value c.args.sheaf.now.graph.prime c.loop-index.index c.graph.ensures.state.over.two

pub returns-in-Some-clause-fault : goal.returns-in-Some-clause-fault
returns-in-Some-clause-fault g c =
    let G = c.args.sheaf.now.graph in
    let F = sheaf_of c.args.sheaf.now in
    let x = c.args.x in
    let d = c.args.d in
    let list = g.T.Sections.list c.args.tuples.now in
    let e = c.args.e.now in
    let i = c.loop-index.index in
    let n = boundary_count G F x d in
    let over = c.graph.ensures.state.over in
    let is_tuple = subst (λ m. c.loop-index.index < m) (c.len-index-end.ensures ∙ c.requires.fits.covers)
    c.loop-index-test.true in
    let moved =
    difference_moved _ _ (cover_left G F x d list e i) (cover_right G F x d list e i) n c.in-Some.difference
    (λ k l. c.boundary.ensures.numbers k l
    ∙ ap (λ v. boundary_number G F x d (boundary_of_element G F d (element_of G.rank (F.degrees x) d (number_at v)))
    k) c.at.ensures)
    (single_boundary G over F x d (tuples_in G F d list) list.count i is_tuple) c.in-Some.ensures.compared in
    subst (IsFirstCoverFailure (ComparesCover G F x d list e)) (sym c.fault.ensures)
    (index_fails (ComparesCover G F x d list e) Cover i n (cover_left G F x d list e i) (cover_right G F x d list e i)
    (cover_sides G F x d list e i is_tuple) c.loop-index.invariant.passed c.in-Some.difference moved)

pub loop-index-preserved : goal.loop-index-preserved
loop-index-preserved g c =
    let G = c.args.sheaf.now.graph in
    let F = sheaf_of c.args.sheaf.now in
    let x = c.args.x in
    let d = c.args.d in
    let list = g.T.Sections.list c.args.tuples.now in
    let e = c.args.e.now in
    let i = c.loop-index.index in
    let n = boundary_count G F x d in
    let over = c.graph.ensures.state.over in
    let is_tuple = subst (λ m. c.loop-index.index < m) (c.len-index-end.ensures ∙ c.requires.fits.covers)
    c.loop-index-test.true in
    record {
      passed =
          index_passes (ComparesCover G F x d list e) Cover i n (cover_left G F x d list e i)
          (cover_right G F x d list e i) (cover_sides G F x d list e i is_tuple) c.loop-index.invariant.passed
          (λ k l.
          sym (c.boundary.ensures.numbers k l
          ∙ ap (λ v. boundary_number G F x d
          (boundary_of_element G F d (element_of G.rank (F.degrees x) d (number_at v))) k) c.at.ensures)
          ∙ c.in_default.ensures.compared k l
          ∙ single_boundary G over F x d (tuples_in G F d list) list.count i is_tuple k l);
      room = ap length c.compare_boundary.ensures.first ∙ c.boundary.ensures.rest.first ∙ c.loop-index.invariant.room;
    }
