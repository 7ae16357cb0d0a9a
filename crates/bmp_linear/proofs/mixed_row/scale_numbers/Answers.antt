use Rattle.std.proofs.Common.{◌≡◌, ◌+◌, ◌*◌, ◌%◌, ◌<◌, get_or, sym, ap, subst, ◌∙◌, arith}
use Rattle.bmp_linear.proofs.mixed_row.scale_numbers.Goals as goal

pub scale_run-requires-clause-run : goal.scale_run-requires-clause-run
scale_run-requires-clause-run g c = record {
  within = omega arith;
  below = λ j l.
      let at : j ≡ 0 + j = omega arith in
      subst (λ k. get_or c.args.numbers.now k 0 < g.F.Field.size c.args.f.now) at (c.requires.numbers j l);
}

pub returns : goal.returns
returns g c =
    let p = g.F.Field.size c.args.f.now in
    let factor = g.F.Field.num c.args.f.now c.args.c in
    record {
      length_is = c.scale_run.ensures.length_is;
      multiplied = λ j l.
          let at : 0 + j ≡ j = omega arith in
          ap (λ k. get_or c.scale_run.new.numbers k 0) (sym at) ∙ c.scale_run.ensures.multiplied j l
          ∙ ap (λ k. (factor * get_or c.args.numbers.now k 0) % p) at;
    }
