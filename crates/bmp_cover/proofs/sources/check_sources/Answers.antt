use Rattle.std.proofs.Common.{◌≢◌, ◌+◌, ◌<◌, ◌∙◌, [], length, refl, sym, ap, ap₂, subst, arith}
use Rattle.std.specs.Prelude.{slice_index, slice_index_or}
use Rattle.bmp_linear.specs.RowTables.{Work}
use Rattle.bmp_linear.specs.SparseVectors.{number_at}
use Rattle.bmp_sheaf.specs.Sheaves.{boundary_of_element, boundary_of_tuple}
use Rattle.bmp_sheaf.specs.Coordinates.{boundary_count, stalk_count, stalk_start}
use Rattle.bmp_sheaf.specs.Numbers.{boundary_number, unit_at}
use Rattle.bmp_sheaf.specs.States.{sheaf_of}
use Rattle.bmp_sections.specs.TupleLists.{tuples_in}
use Rattle.bmp_cover.specs.Evidence.{combined_tuple}
use Rattle.bmp_cover.specs.CoverChecks.{ComparesSource, IsFirstCoverFailure}
use Rattle.bmp_cover.specs.declared.kind.Kind.TheVariants.{Source}
use Rattle.bmp_cover.proofs.CoverSides.{source_sides, source_left, source_right, no_source}
use Rattle.bmp_cover.proofs.EvidenceLemmas.{generator_place_below}
use Rattle.bmp_cover.proofs.FaultLemmas.{pass_none, difference_moved, index_passes, index_fails, index_skipped}
use Rattle.bmp_cover.proofs.GeneratorLemmas.{start_none, own_place, place_within, place_after_new, place_after_other}
use Rattle.bmp_cover.proofs.sources.check_sources.Goals as goal
use Rattle.bmp_cover.proofs.sources.check_sources.Goals.{then-degree_of-d+in_default, else-degree_of-d}

pub loop-g-init : goal.loop-g-init
loop-g-init g c =
    let s = c.args.sheaf.now in
    record {
      passed = pass_none
          (ComparesSource s.graph (sheaf_of s) c.args.x c.args.d (g.T.Sections.list c.args.tuples.now) c.args.e.now);
      own = start_none s.graph.rank ((sheaf_of s).degrees c.args.x) c.args.d;
      next = refl;
      room = refl;
    }

pub generator_boundary-requires-clause-place : goal.generator_boundary-requires-clause-place
generator_boundary-requires-clause-place g c =
    let G = c.args.sheaf.now.graph in
    let F = sheaf_of c.args.sheaf.now in
    let h = c.loop-g.g in
    let degrees = c.stalk-module.ensures.degrees in
    let below = subst (λ m. c.loop-g.g < m) (c.generators-g-end.ensures ∙ ap length degrees) c.loop-g-test.true in
    let is_new = ap (λ l. slice_index l c.loop-g.g) (sym degrees) ∙ sym c.degree_of.ensures ∙ c.if-degree_of-d.true in
    subst (λ k. k < stalk_count c.args.sheaf.now.graph.rank ((sheaf_of c.args.sheaf.now).degrees c.args.x) c.args.d)
    (sym (own_place G F c.args.x c.args.d h c.loop-g.own c.loop-g.invariant.own))
    (generator_place_below G F c.args.x c.args.d c.stalk-module.ensures.state.over h c.stalk-module.ensures.state.wide
    below is_new)

pub at-source-requires : goal.at-source-requires
at-source-requires g c =
    let F = sheaf_of c.args.sheaf.now in
    let degrees = c.stalk-module.ensures.degrees in
    let below = subst (λ m. c.loop-g.g < m) (c.generators-g-end.ensures ∙ ap length degrees) c.loop-g-test.true in
    let is_new = ap (λ l. slice_index l c.loop-g.g) (sym degrees) ∙ sym c.degree_of.ensures ∙ c.if-degree_of-d.true in
    omega (
      arith,
      c.loop-g.invariant.next,
      c.requires.fits.sources,
      place_within F c.args.x c.args.d c.loop-g.g below is_new,
    )

pub returns-in-Some-clause-fault : goal.returns-in-Some-clause-fault
returns-in-Some-clause-fault g c =
    let G = c.args.sheaf.now.graph in
    let F = sheaf_of c.args.sheaf.now in
    let x = c.args.x in
    let d = c.args.d in
    let list = g.T.Sections.list c.args.tuples.now in
    let e = c.args.e.now in
    let h = c.loop-g.g in
    let n = boundary_count G F x d in
    let degrees = c.stalk-module.ensures.degrees in
    let below = subst (λ m. c.loop-g.g < m) (c.generators-g-end.ensures ∙ ap length degrees) c.loop-g-test.true in
    let is_new = ap (λ l. slice_index l c.loop-g.g) (sym degrees) ∙ sym c.degree_of.ensures ∙ c.if-degree_of-d.true in
    let own = own_place G F x d h c.loop-g.own c.loop-g.invariant.own in
    let written = c.entries.ensures.items ∙ c.at-source.ensures
    ∙ ap (λ m. slice_index_or c.args.e.now.sources m []) c.loop-g.invariant.next in
    let moved =
    difference_moved _ _ (source_left G F x d list e h) (source_right G F x d list e h) n c.in-Some.difference
    (λ k l. c.generator_boundary.ensures.numbers k l
    ∙ ap (λ j. boundary_number G F x d (boundary_of_element G F d (unit_at G.rank (F.degrees x) d j)) k) own)
    (λ k l. ap (λ v. boundary_number G F x d
    (boundary_of_tuple G (combined_tuple (number_at v) (tuples_in G F d list) list.count)) k) written)
    c.in-Some.ensures.compared in
    subst (IsFirstCoverFailure (ComparesSource G F x d list e)) (sym c.fault.ensures)
    (index_fails (ComparesSource G F x d list e) Source h n (source_left G F x d list e h)
    (source_right G F x d list e h) (source_sides G F x d list e h below is_new) c.loop-g.invariant.passed
    c.in-Some.difference moved)

pub loop-g-preserved : goal.loop-g-preserved
loop-g-preserved g c =
    let G = c.args.sheaf.now.graph in
    let F = sheaf_of c.args.sheaf.now in
    let x = c.args.x in
    let d = c.args.d in
    let list = g.T.Sections.list c.args.tuples.now in
    let e = c.args.e.now in
    let h = c.loop-g.g in
    let n = boundary_count G F x d in
    let degrees = c.stalk-module.ensures.degrees in
    let below = subst (λ m. c.loop-g.g < m) (c.generators-g-end.ensures ∙ ap length degrees) c.loop-g-test.true in
    let degree = ap (λ l. slice_index l c.loop-g.g) (sym degrees) ∙ sym c.degree_of.ensures in
    let after = c.next_start-own.ensures
    ∙ ap₂ (λ r l. stalk_start r l c.args.d (c.loop-g.g + 1)) c.stalk-module.ensures.rank degrees in
    let own = own_place G F x d h c.loop-g.own c.loop-g.invariant.own in
    elim c.if-degree_of-d.branch [
      | then-degree_of-d+in_default w ↦
          let is_new = degree ∙ w.if-degree_of-d.true in
          let written = w.entries.ensures.items ∙ w.at-source.ensures
          ∙ ap (λ m. slice_index_or c.args.e.now.sources m []) c.loop-g.invariant.next in
          record {
            passed =
                index_passes (ComparesSource G F x d list e) Source h n (source_left G F x d list e h)
                (source_right G F x d list e h) (source_sides G F x d list e h below is_new)
                c.loop-g.invariant.passed
                (λ k l.
                sym (w.generator_boundary.ensures.numbers k l
                ∙ ap (λ j. boundary_number G F x d (boundary_of_element G F d (unit_at G.rank (F.degrees x) d j)) k)
                own)
                ∙ w.in_default.ensures.compared k l
                ∙ ap (λ v. boundary_number G F x d
                (boundary_of_tuple G (combined_tuple (number_at v) (tuples_in G F d list) list.count)) k) written);
            own = after;
            next = w.next-is ∙ ap (λ m. m + 1) c.loop-g.invariant.next ∙ sym (place_after_new F x d h below is_new);
            room = ap (λ (t : Work). length t.first) w.s-is ∙ ap length w.compare_boundary.ensures.first
                ∙ w.generator_boundary.ensures.rest.first ∙ c.loop-g.invariant.room;
          }
      | else-degree_of-d w ↦
          let other : slice_index ((sheaf_of c.args.sheaf.now).degrees c.args.x) c.loop-g.g ≢ c.args.d =
          λ same. w.if-degree_of-d.false (sym degree ∙ same) in
          record {
            passed = index_skipped (ComparesSource G F x d list e) h (no_source G F x d list e h other)
                c.loop-g.invariant.passed;
            own = after;
            next = w.next-is ∙ c.loop-g.invariant.next ∙ sym (place_after_other F x d h below other);
            room = ap (λ (t : Work). length t.first) w.s-is ∙ c.loop-g.invariant.room;
          }
    ]
