use Rattle.std.proofs.Common.{◌≢◌, ◌+◌, ◌%◌, ◌<◌, ◌∙◌, [], length, refl, sym, ap, ap₂, subst, arith}
use Rattle.std.specs.Prelude.{slice_index, slice_index_or}
use Rattle.bmp_math.specs.Matrices.{Matrix, NumbersBelow, combination}
use Rattle.bmp_math.specs.Vectors.{unit}
use Rattle.bmp_linear.specs.Evidence.{vector_at}
use Rattle.bmp_linear.specs.RowTables.{Work}
use Rattle.bmp_linear.specs.SparseVectors.{number_at}
use Rattle.bmp_sheaf.specs.Coordinates.{stalk_count, stalk_start}
use Rattle.bmp_sheaf.specs.Numbers.{boundary_matrix}
use Rattle.bmp_sheaf.specs.States.{sheaf_of}
use Rattle.bmp_sheaf.proofs.BoundaryMaps.{boundary_numbers_below}
use Rattle.bmp_cover.specs.Evidence.{generator_place}
use Rattle.bmp_cover.specs.CoverChecks.{source_place, ComparesDual, IsFirstCoverFailure}
use Rattle.bmp_cover.specs.Differences.{IsFirstDifference}
use Rattle.bmp_cover.specs.declared.kind.Kind.TheVariants.{Dual}
use Rattle.bmp_cover.proofs.BoundaryParts.{boundary_matrix_is, no_list}
use Rattle.bmp_cover.proofs.CoverSides.{dual_sides, dual_left, no_dual}
use Rattle.bmp_cover.proofs.FaultLemmas.{pass_none, difference_moved, index_passes, index_fails, index_skipped}
use Rattle.bmp_cover.proofs.GeneratorLemmas.{start_none, own_place, place_within, place_after_new, place_after_other}
use Rattle.bmp_cover.proofs.duals.check_duals.Goals as goal
use Rattle.bmp_cover.proofs.duals.check_duals.Goals.{then-degree_of-d+in_default, else-degree_of-d}

pub loop-g-init : goal.loop-g-init
loop-g-init g c =
    let s = c.args.sheaf.now in
    record {
      passed = pass_none (ComparesDual s.graph (sheaf_of s) c.args.x c.args.d c.args.e.now);
      own = start_none s.graph.rank ((sheaf_of s).degrees c.args.x) c.args.d;
      next = refl;
      room = refl;
    }

pub at-requires : goal.at-requires
at-requires g c =
    let F = sheaf_of c.args.sheaf.now in
    let degrees = c.stalk-module.ensures.degrees in
    let below = subst (λ m. c.loop-g.g < m) (c.generators-g-end.ensures ∙ ap length degrees) c.loop-g-test.true in
    let is_new = ap (λ l. slice_index l c.loop-g.g) (sym degrees) ∙ sym c.degree_of.ensures ∙ c.if-degree_of-d.true in
    omega (
      arith,
      c.loop-g.invariant.next,
      c.requires.fits.duals,
      place_within F c.args.x c.args.d c.loop-g.g below is_new,
    )

pub combine_rows-requires-clause-numbers : goal.combine_rows-requires-clause-numbers
combine_rows-requires-clause-numbers g c =
    let s = c.args.sheaf.now in
    let rows = c.of-rows.result in
    let matrix = boundary_matrix_is rows.sheaf.now s rows.vertex c.args.x rows.degree c.args.d c.of-rows.ensures.sheaf
    c.of-rows.ensures.vertex c.of-rows.ensures.degree in
    let size = ap g.F.Field.size c.field.ensures.field ∙ c.field.ensures.size in
    subst (NumbersBelow (g.F.Field.size c.field.result.now)) (sym matrix)
    (subst (λ p. NumbersBelow p (boundary_matrix c.args.sheaf.now.graph (sheaf_of c.args.sheaf.now) c.args.x c.args.d))
    (sym size) (boundary_numbers_below s.graph c.stalk-module.ensures.state.over (sheaf_of s) c.args.x c.args.d))

pub returns-in-Some-clause-fault : goal.returns-in-Some-clause-fault
returns-in-Some-clause-fault g c =
    let s = c.args.sheaf.now in
    let G = c.args.sheaf.now.graph in
    let F = sheaf_of c.args.sheaf.now in
    let x = c.args.x in
    let d = c.args.d in
    let e = c.args.e.now in
    let h = c.loop-g.g in
    let n = stalk_count G.rank (F.degrees x) d in
    let rows = c.of-rows.result in
    let matrix = boundary_matrix_is rows.sheaf.now s rows.vertex c.args.x rows.degree c.args.d c.of-rows.ensures.sheaf
    c.of-rows.ensures.vertex c.of-rows.ensures.degree in
    let size = ap g.F.Field.size c.field.ensures.field ∙ c.field.ensures.size in
    let degrees = c.stalk-module.ensures.degrees in
    let below = subst (λ m. c.loop-g.g < m) (c.generators-g-end.ensures ∙ ap length degrees) c.loop-g-test.true in
    let is_new = ap (λ l. slice_index l c.loop-g.g) (sym degrees) ∙ sym c.degree_of.ensures ∙ c.if-degree_of-d.true in
    let own = own_place G F x d h c.loop-g.own c.loop-g.invariant.own in
    let written = c.at.ensures ∙ ap (λ m. slice_index_or c.args.e.now.duals m []) c.loop-g.invariant.next in
    let found = subst
    (λ m. IsFirstDifference (slice_index c.combine_rows.new.s.first) (unit c.loop-g.own) m c.in-Some.difference)
    c.stalk_len.ensures c.in-Some.ensures in
    let moved =
    difference_moved _ _ (dual_left G F x d no_list e h) (unit (generator_place G F x d h)) n c.in-Some.difference
    (λ k l.
    c.combine_rows.ensures.combined k (subst (λ m. k < m) (sym (ap (λ (a : Matrix). a.cols) matrix)) l)
    ∙ ap₂ (λ (a : Matrix) v. combination (number_at v) a.entry a.rows k % g.F.Field.size c.field.result.now) matrix
    written
    ∙ ap (λ p. combination (vector_at e.duals (source_place F x d h)) (boundary_matrix G F x d).entry
    (boundary_matrix G F x d).rows k % p) size)
    (λ k l. ap (λ j. unit j k) own) found in
    subst (IsFirstCoverFailure (ComparesDual G F x d e)) (sym c.fault.ensures)
    (index_fails (ComparesDual G F x d e) Dual h n (dual_left G F x d no_list e h) (unit (generator_place G F x d h))
    (dual_sides G F x d no_list e h below is_new) c.loop-g.invariant.passed c.in-Some.difference moved)

pub loop-g-preserved : goal.loop-g-preserved
loop-g-preserved g c =
    let s = c.args.sheaf.now in
    let G = c.args.sheaf.now.graph in
    let F = sheaf_of c.args.sheaf.now in
    let x = c.args.x in
    let d = c.args.d in
    let e = c.args.e.now in
    let h = c.loop-g.g in
    let n = stalk_count G.rank (F.degrees x) d in
    let rows = c.of-rows.result in
    let matrix = boundary_matrix_is rows.sheaf.now s rows.vertex c.args.x rows.degree c.args.d c.of-rows.ensures.sheaf
    c.of-rows.ensures.vertex c.of-rows.ensures.degree in
    let degrees = c.stalk-module.ensures.degrees in
    let below = subst (λ m. c.loop-g.g < m) (c.generators-g-end.ensures ∙ ap length degrees) c.loop-g-test.true in
    let degree = ap (λ l. slice_index l c.loop-g.g) (sym degrees) ∙ sym c.degree_of.ensures in
    let after = c.next_start-own.ensures
    ∙ ap₂ (λ r l. stalk_start r l c.args.d (c.loop-g.g + 1)) c.stalk-module.ensures.rank degrees in
    let own = own_place G F x d h c.loop-g.own c.loop-g.invariant.own in
    elim c.if-degree_of-d.branch [
      | then-degree_of-d+in_default w ↦
          let is_new = degree ∙ w.if-degree_of-d.true in
          let size = ap g.F.Field.size w.field.ensures.field ∙ w.field.ensures.size in
          let written = w.at.ensures ∙ ap (λ m. slice_index_or c.args.e.now.duals m []) c.loop-g.invariant.next in
          record {
            passed =
                index_passes (ComparesDual G F x d e) Dual h n (dual_left G F x d no_list e h)
                (unit (generator_place G F x d h)) (dual_sides G F x d no_list e h below is_new)
                c.loop-g.invariant.passed
                (λ k l.
                sym (w.combine_rows.ensures.combined k (subst (λ m. k < m) (sym (ap (λ (a : Matrix). a.cols) matrix)) l)
                ∙ ap₂ (λ (a : Matrix) v. combination (number_at v) a.entry a.rows k % g.F.Field.size w.field.result.now)
                matrix written
                ∙ ap (λ p. combination (vector_at e.duals (source_place F x d h)) (boundary_matrix G F x d).entry
                (boundary_matrix G F x d).rows k % p) size)
                ∙ w.in_default.ensures k (subst (λ m. k < m) (sym w.stalk_len.ensures) l)
                ∙ ap (λ j. unit j k) own);
            own = after;
            next = w.next-is ∙ ap (λ m. m + 1) c.loop-g.invariant.next ∙ sym (place_after_new F x d h below is_new);
            room = ap (λ (t : Work). length t.first) w.s-is ∙ w.combine_rows.ensures.scratch ∙ c.loop-g.invariant.room;
          }
      | else-degree_of-d w ↦
          let other : slice_index ((sheaf_of c.args.sheaf.now).degrees c.args.x) c.loop-g.g ≢ c.args.d =
          λ same. w.if-degree_of-d.false (sym degree ∙ same) in
          record {
            passed = index_skipped (ComparesDual G F x d e) h (no_dual G F x d no_list e h other)
                c.loop-g.invariant.passed;
            own = after;
            next = w.next-is ∙ c.loop-g.invariant.next ∙ sym (place_after_other F x d h below other);
            room = ap (λ (t : Work). length t.first) w.s-is ∙ c.loop-g.invariant.room;
          }
    ]
