use Rattle.std.proofs.Common.{◌≡◌, ◌<◌, ◌≤◌, length, get_or, refl, sym, true≢false, arith}
use Rattle.bmp_elim.proofs.PlacedLemmas.{count_more, count_same, not_counted}
use Rattle.bmp_elim.proofs.FreeVectorLemmas.{has_place_at, has_no_place, basis_pivot, basis_push}
use Rattle.bmp_elim.proofs.kernels.free_vectors.Goals as goal
use Rattle.bmp_elim.proofs.kernels.free_vectors.Goals.{then-is_next, else-is_next+in_ok-free_vector+in_ok-push}

-- a pivot is counted, and a free place has its vector
pub loop-place-preserved : goal.loop-place-preserved
loop-place-preserved g c =
    let ps = c.args.pivots.now in
    let place = c.loop-place.place in
    let next = c.loop-place.next in
    elim c.if-is_next.branch [
      | then-is_next w ↦
          let found = w.if-is_next.ensures.0 refl in
          rw (w.vectors-is, w.next-is)
          (record {
            basis = basis_pivot (g.F.Field.size c.args.f.now) (g.A.Rows.matrix c.args.a.now) ps place
                c.loop-place.vectors c.loop-place.invariant.basis (has_place_at ps place next found.0 found.1);
            count = count_more ps place next c.requires.echelon.rising c.loop-place.invariant.count found.0 found.1;
            low = let below : next ≤ place = c.loop-place.invariant.low in omega arith;
          })
      | else-is_next+in_ok-free_vector+in_ok-push w ↦
          let other : (next < length ps) × (get_or ps next 0 ≡ place) → ⊥ =
          λ h. true≢false (sym (w.if-is_next.ensures.1 h)) in
          rw (w.vectors-is, w.next-is, w.in_ok-push.ensures.ok)
          (record {
            basis = basis_push (g.F.Field.size c.args.f.now) (g.A.Rows.matrix c.args.a.now) ps place
                c.loop-place.vectors c.loop-place.invariant.basis w.in_ok-free_vector.field-0
                (has_no_place ps place
                (not_counted ps place next c.requires.echelon.rising c.loop-place.invariant.count other))
                w.in_ok-free_vector.ensures;
            count = count_same ps place next c.requires.echelon.rising c.loop-place.invariant.count other;
            low = let below : next ≤ place = c.loop-place.invariant.low in omega arith;
          })
    ]
