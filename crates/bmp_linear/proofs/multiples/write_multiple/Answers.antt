use Rattle.std.proofs.Common.{length, arith}
use Rattle.bmp_linear.proofs.RunRowLemmas.{row_ends}
use Rattle.bmp_linear.proofs.MultipleLemmas.{multiples_hold, multiples_next}
use Rattle.bmp_linear.proofs.multiples.write_multiple.Goals as goal

pub copy_run-requires-clause-apart : goal.copy_run-requires-clause-apart
copy_run-requires-clause-apart g c = row_ends _ c.args.c (length c.args.run.now) (omega (arith, c.requires.some))

pub add_at-requires-clause-into : goal.add_at-requires-clause-into
add_at-requires-clause-into g c =
    multiples_hold (g.F.Field.size c.args.f.now) c.args.c c.args.run.now c.args.table.now c.copy_run.new.numbers
    c.copy_run.new.numbers c.requires.some c.copy_run.ensures.copied c.requires.before
    (let two = g.met.F.Field.laws.at_least_two c.args.f.now in omega (arith, two))
    (omega (arith, c.requires.room, c.copy_run.ensures.sized))

pub returns-clause-more : goal.returns-clause-more
returns-clause-more g c =
    multiples_next (g.F.Field.size c.args.f.now) c.args.c c.args.run.now c.args.table.now c.copy_run.new.numbers
    c.add_at.new.numbers c.requires.some c.copy_run.ensures.copied c.requires.before c.copy_run.ensures.before
    c.add_at.ensures
