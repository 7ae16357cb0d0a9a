use Rattle.std.proofs.Common.{rules, arith, ◌∙◌, ◌≡◌, true, false}
use Rattle.bmp_linear.specs.FreePlaces.{has_place}
use Rattle.bmp_linear.proofs.KernelLemmas.{free_more, free_fails, free_all}
use Rattle.bmp_linear.proofs.FreeLemmas.{free_count_free, free_count_pivot, free_if_unmarked, pivot_if_marked, length-free_places-le}
use Rattle.bmp_linear.proofs.kernel.check_free.Goals as goal
use Rattle.bmp_linear.proofs.kernel.check_free.Goals.{then-free+else-left-right, else-free}

pub overflow_add-place : goal.overflow_add-place
overflow_add-place c = omega (arith, c.loop-j.invariant.0, length-free_places-le c.args.e.now.pivots c.loop-j.j)

pub returns-then-left-right-clause-fault : goal.returns-then-left-right-clause-fault
returns-then-left-right-clause-fault c =
    let free : has_place c.args.e.now.pivots c.loop-j.j ≡ false =
    free_if_unmarked _ _ (c.requires.marks.same c.loop-j.j c.loop-j-test.true) (search rules) in
    free_fails c.args.cols c.args.e.now c.args.index c.loop-j.j c.loop-j.place _ _ _ _ c.requires.rise c.requires.below
    c.requires.counted free c.loop-j-test.true c.requires.index c.loop-j.invariant.0 c.from.ensures
    c.from-then-left-right.ensures
    (c.from-left.ensures ∙ c.requires.numbers.same c.loop-j.j c.loop-j-test.true) c.one_at-right.ensures
    c.if-left-right.true c.loop-j.invariant.1

pub returns-clause-ok : goal.returns-clause-ok
returns-clause-ok c =
    free_all c.args.cols c.args.e.now c.args.index c.loop-j.j c.loop-j.place c.requires.rise c.requires.below
    c.requires.counted (search rules) c.loop-j.invariant.0 c.loop-j.invariant.1

pub loop-j-preserved : goal.loop-j-preserved
loop-j-preserved c =
    let mark = c.requires.marks.same c.loop-j.j c.loop-j-test.true in
    elim c.if-free.branch [
      | then-free+else-left-right w ↦
          let free : has_place c.args.e.now.pivots c.loop-j.j ≡ false = free_if_unmarked _ _ mark (search rules) in
          rw w.place-is (
            free_count_free c.args.e.now.pivots c.loop-j.j c.loop-j.place free c.loop-j.invariant.0,
            free_more c.args.cols c.args.e.now c.args.index c.loop-j.j c.loop-j.place _ _ free c.loop-j-test.true
                c.loop-j.invariant.0
                (w.from-left.ensures ∙ c.requires.numbers.same c.loop-j.j c.loop-j-test.true) w.one_at-right.ensures
                (search rules) c.loop-j.invariant.1,
          )
      | else-free w ↦
          let pivot : has_place c.args.e.now.pivots c.loop-j.j ≡ true = pivot_if_marked _ _ mark (search rules) in
          rw w.place-is (
            free_count_pivot c.args.e.now.pivots c.loop-j.j c.loop-j.place pivot c.loop-j.invariant.0,
            c.loop-j.invariant.1,
          )
    ]
