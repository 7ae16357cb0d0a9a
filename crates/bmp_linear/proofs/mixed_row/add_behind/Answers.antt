use Rattle.std.proofs.Common.{rules, arith, ◌≤◌, length}
use Rattle.std.proofs.lemmas.List.{places}
use Rattle.std.proofs.lemmas.Grind.{common_steps}
use Rattle.bmp_linear.proofs.KeptRowLemmas.{sum_behind, spliced}
use Rattle.bmp_linear.proofs.mixed_row.add_behind.Goals as goal

pub returns : goal.returns
returns g c =
    let room : c.args.start ≤ length c.args.sums.now = omega (arith, c.requires.start, c.requires.as_many) in
    sum_behind (g.F.Field.size c.args.f.now) (g.F.Field.num c.args.f.now c.args.c) c.args.start c.args.more.now
    (search (rules, places)) c.requires.as_many c.requires.zero c.requires.sums c.add_multiple.ensures
    (λ j l. grind (arith, common_steps))
    (λ k l. spliced c.args.start k c.args.sums.now c.add_multiple.new.into _ room l)
