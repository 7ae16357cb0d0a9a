use Rattle.std.proofs.Common.{sym}
use Rattle.bmp_graded.proofs.PureLemmas.{count_one, count_no}
use Rattle.bmp_module.proofs.blocks.count.Goals as goal

pub returns-then-degree-eq0-clause-number : goal.returns-then-degree-eq0-clause-number
returns-then-degree-eq0-clause-number c =
    sym (count_one c.args.rank c.args.degree c.if-rank-gt0.false c.if-degree-eq0.true)

pub returns-else-degree-eq0-clause-number : goal.returns-else-degree-eq0-clause-number
returns-else-degree-eq0-clause-number c =
    sym (count_no c.args.rank c.args.degree c.if-rank-gt0.false c.if-degree-eq0.false)
