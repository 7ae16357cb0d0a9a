use Rattle.std.proofs.Common.{◌+◌, ◌*◌, ◌∙◌, ap}
use Rattle.bmp_linear.proofs.MultipleLemmas.{holds_run, run_below, cut_sized, cut_at, multiples_of_run}
use Rattle.bmp_linear.proofs.multiples.multiples_of.Goals as goal

pub table_of-requires-clause-numbers : goal.table_of-requires-clause-numbers
table_of-requires-clause-numbers g c =
    run_below (g.F.Field.size c.args.f.now) c.args.run c.args.numbers.now c.requires.run

pub returns : goal.returns
returns g c =
    let p = g.F.Field.size c.args.f.now in
    let r = c.args.run in
    let place = r.row * r.cols + r.start in
    let old = c.args.numbers.now in
    let holds = holds_run p r old c.requires.run r.row c.requires.run.row in
    let sized = cut_sized place r.len old holds.within in
    multiples_of_run p r old _ c.in_ok-table.table.items sized (cut_at place r.len old)
    (c.in_ok-table.ensures.sized ∙ ap (λ n. p * n) sized) c.in_ok-table.ensures.multiples
