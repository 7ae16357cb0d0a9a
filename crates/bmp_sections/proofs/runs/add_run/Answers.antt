use Rattle.std.proofs.Common.{◌≡◌, ◌+◌, ◌<◌, ◌∙◌, length, take, refl, ap, subst, arith}
use Rattle.std.proofs.lemmas.List.{length-set}
use Rattle.bmp_linear.specs.RowTables.{Work}
use Rattle.bmp_linear.specs.SparseVectors.{FitsBelow}
use Rattle.bmp_sections.proofs.RunLemmas.{IsRunAdded, runs_in_order, run_none, run_all, run_from, run_before, run_sum_below, run_value_below, run_step}
use Rattle.bmp_sections.proofs.runs.add_run.Goals as goal

pub slice_bounds-entry-items-count : goal.slice_bounds-entry-items-count
slice_bounds-entry-items-count g c =
    runs_in_order c.args.entries.now c.first_from-first.result c.first_from-last.result c.args.start
    (c.args.start + c.args.len)
    c.first_from-first.ensures.within c.first_from-first.ensures.passed c.first_from-last.ensures.reached (omega arith)

pub slice_bounds-entry-items-start : goal.slice_bounds-entry-items-start
slice_bounds-entry-items-start g c =
    runs_in_order c.args.entries.now c.first_from-first.result c.first_from-last.result c.args.start
    (c.args.start + c.args.len)
    c.first_from-first.ensures.within c.first_from-first.ensures.passed c.first_from-last.ensures.reached (omega arith)

pub loop-entry-init : goal.loop-entry-init
loop-entry-init g c =
    let same : c.first_from-first.result ≡ c.first_from-first.result + 0 = omega arith in
    record {
      added =
          run_none (g.F.Field.size c.args.f.now) (g.F.Field.num c.args.f.now c.args.factor) c.args.entries.now
          c.args.start c.args.len c.args.s.now.second c.requires.sparse c.requires.sums _
          (subst (λ k. FitsBelow (take k c.args.entries.now) c.args.start) same c.first_from-first.ensures.passed);
      first = refl;
      room = refl;
    }

pub overflow_sub-c : goal.overflow_sub-c
overflow_sub-c g c =
    let inside : c.first_from-first.result + c.loop-entry.entry-index < c.first_from-last.result =
    omega (arith, c.loop-entry-test.true) in
    run_from c.args.entries.now c.first_from-first.result c.first_from-last.result c.args.start c.args.len
    c.loop-entry.entry-index _ c.requires.sparse c.first_from-last.ensures.within inside
    c.first_from-last.ensures.passed c.first_from-first.ensures.reached (g.F.Field.size c.args.f.now)
    (g.F.Field.num c.args.f.now c.args.factor) c.from.result c.args.s.now.second c.loop-entry.s.second
    c.requires.sums c.from.ensures c.loop-entry.invariant.added

pub get-requires : goal.get-requires
get-requires g c =
    let inside : c.first_from-first.result + c.loop-entry.entry-index < c.first_from-last.result =
    omega (arith, c.loop-entry-test.true) in
    let from =
    run_from c.args.entries.now c.first_from-first.result c.first_from-last.result c.args.start c.args.len
    c.loop-entry.entry-index (record { place = 0; value = 0 }) c.requires.sparse c.first_from-last.ensures.within
    inside
    c.first_from-last.ensures.passed c.first_from-first.ensures.reached (g.F.Field.size c.args.f.now)
    (g.F.Field.num c.args.f.now c.args.factor) c.from.result c.args.s.now.second c.loop-entry.s.second
    c.requires.sums c.from.ensures c.loop-entry.invariant.added in
    let before =
    run_before c.args.entries.now c.first_from-first.result c.first_from-last.result c.args.start c.args.len
    c.loop-entry.entry-index (record { place = 0; value = 0 }) c.requires.sparse c.first_from-last.ensures.within
    inside
    c.first_from-last.ensures.passed c.first_from-first.ensures.reached (g.F.Field.size c.args.f.now)
    (g.F.Field.num c.args.f.now c.args.factor) c.from.result c.args.s.now.second c.loop-entry.s.second
    c.requires.sums c.from.ensures c.loop-entry.invariant.added in
    omega (
      arith,
      from,
      before,
      c.requires.room,
      c.len.ensures.first,
      c.len.ensures.second,
      ap length c.loop-entry.invariant.first,
    )

pub set-requires : goal.set-requires
set-requires g c =
    let inside : c.first_from-first.result + c.loop-entry.entry-index < c.first_from-last.result =
    omega (arith, c.loop-entry-test.true) in
    let from =
    run_from c.args.entries.now c.first_from-first.result c.first_from-last.result c.args.start c.args.len
    c.loop-entry.entry-index (record { place = 0; value = 0 }) c.requires.sparse c.first_from-last.ensures.within
    inside
    c.first_from-last.ensures.passed c.first_from-first.ensures.reached (g.F.Field.size c.args.f.now)
    (g.F.Field.num c.args.f.now c.args.factor) c.from.result c.args.s.now.second c.loop-entry.s.second
    c.requires.sums c.from.ensures c.loop-entry.invariant.added in
    let before =
    run_before c.args.entries.now c.first_from-first.result c.first_from-last.result c.args.start c.args.len
    c.loop-entry.entry-index (record { place = 0; value = 0 }) c.requires.sparse c.first_from-last.ensures.within
    inside
    c.first_from-last.ensures.passed c.first_from-first.ensures.reached (g.F.Field.size c.args.f.now)
    (g.F.Field.num c.args.f.now c.args.factor) c.from.result c.args.s.now.second c.loop-entry.s.second
    c.requires.sums c.from.ensures c.loop-entry.invariant.added in
    omega (
      arith,
      from,
      before,
      c.requires.room,
      c.len.ensures.first,
      c.len.ensures.second,
      ap length c.loop-entry.invariant.first,
    )

pub from_num-sum-requires : goal.from_num-sum-requires
from_num-sum-requires g c =
    let inside : c.first_from-first.result + c.loop-entry.entry-index < c.first_from-last.result =
    omega (arith, c.loop-entry-test.true) in
    run_sum_below c.args.entries.now c.first_from-first.result c.first_from-last.result c.args.start c.args.len
    c.loop-entry.entry-index (record { place = 0; value = 0 }) c.requires.sparse c.first_from-last.ensures.within
    inside
    c.first_from-last.ensures.passed c.first_from-first.ensures.reached (g.F.Field.size c.args.f.now)
    (g.F.Field.num c.args.f.now c.args.factor) c.from.result c.args.s.now.second c.loop-entry.s.second
    c.requires.sums c.from.ensures c.loop-entry.invariant.added
    c.from-in-loop-entry.result (c.from-in-loop-entry.ensures ∙ c.get.ensures)

pub from_num-requires : goal.from_num-requires
from_num-requires g c =
    let inside : c.first_from-first.result + c.loop-entry.entry-index < c.first_from-last.result =
    omega (arith, c.loop-entry-test.true) in
    run_value_below c.args.entries.now c.first_from-first.result c.first_from-last.result c.args.start c.args.len
    c.loop-entry.entry-index (record { place = 0; value = 0 }) c.requires.sparse c.first_from-last.ensures.within
    inside
    c.first_from-last.ensures.passed c.first_from-first.ensures.reached (g.F.Field.size c.args.f.now)
    (g.F.Field.num c.args.f.now c.args.factor) c.from.result c.args.s.now.second c.loop-entry.s.second
    c.requires.sums c.from.ensures c.loop-entry.invariant.added
    c.requires.numbers c.from-in-loop-entry-2.result c.from-in-loop-entry-2.ensures

pub loop-entry-preserved : goal.loop-entry-preserved
loop-entry-preserved g c =
    let inside : c.first_from-first.result + c.loop-entry.entry-index < c.first_from-last.result =
    omega (arith, c.loop-entry-test.true) in
    let second = ap (λ (w : Work). w.second) c.set.ensures in
    record {
      added =
          run_step c.args.entries.now c.first_from-first.result c.first_from-last.result c.args.start c.args.len
          c.loop-entry.entry-index (record { place = 0; value = 0 }) c.requires.sparse
          c.first_from-last.ensures.within inside
          c.first_from-last.ensures.passed c.first_from-first.ensures.reached (g.F.Field.size c.args.f.now)
          (g.F.Field.num c.args.f.now c.args.factor) c.from.result c.args.s.now.second c.loop-entry.s.second
          c.requires.sums c.from.ensures c.loop-entry.invariant.added
          _ _ _ _ c.set.new.self.second (omega (arith, c.requires.room, c.loop-entry.invariant.room))
          (c.from_num-sum.ensures.number ∙ c.from-in-loop-entry.ensures ∙ c.get.ensures) c.mul-term.ensures.number
          (c.from_num.ensures.number ∙ c.from-in-loop-entry-2.ensures) (c.num.ensures ∙ c.add.ensures.number) second;
      first = ap (λ (w : Work). w.first) c.set.ensures ∙ c.loop-entry.invariant.first;
      room = ap length second ∙ length-set c.loop-entry.s.second _ _ ∙ c.loop-entry.invariant.room;
    }

pub returns-clause-added : goal.returns-clause-added
returns-clause-added g c =
    let order =
    runs_in_order c.args.entries.now c.first_from-first.result c.first_from-last.result c.args.start
    (c.args.start + c.args.len)
    c.first_from-first.ensures.within c.first_from-first.ensures.passed c.first_from-last.ensures.reached
    (omega arith) in
    let all : c.first_from-first.result + c.loop-entry.entry-index ≡ c.first_from-last.result =
    omega (arith, order, c.loop-entry-test.false, c.loop-entry.auto.entry-index-end) in
    run_all (g.F.Field.size c.args.f.now) (g.F.Field.num c.args.f.now c.args.factor) c.args.entries.now c.args.start
    c.args.len c.args.s.now.second c.requires.sparse c.requires.sums
    c.first_from-last.result c.loop-entry.s.second c.first_from-last.ensures.reached
    (subst (λ k. IsRunAdded (g.F.Field.size c.args.f.now) (g.F.Field.num c.args.f.now c.args.factor)
    (take k c.args.entries.now) c.args.start c.args.len c.args.s.now.second c.loop-entry.s.second) all
    c.loop-entry.invariant.added)
