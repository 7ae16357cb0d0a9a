use Rattle.bmp_rows_tests.proofs.growing.judge_growth.Goals as goal

pub plain_of-requires : goal.plain_of-requires
plain_of-requires g c =
    let some = c.loop-i.invariant.0 in
    (c.in_ok-e.ensures some.old some.grown).numbers

pub plain_of-requires-2 : goal.plain_of-requires-2
plain_of-requires-2 g c =
    let some = c.loop-i.invariant.0 in
    (c.in_ok-e.ensures some.old some.grown).trace_numbers
