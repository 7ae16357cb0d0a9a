use Rattle.std.proofs.Common.{◌+◌, ◌*◌, sym, subst, inl, inr}
use Rattle.bmp_linear.specs.Runs.{HoldsRun}
use Rattle.bmp_linear.proofs.MultipleLemmas.{holds_run, added_by_table, cut_sized, cut_at, multiple_within}
use Rattle.bmp_linear.proofs.multiples.add_by_table.Goals as goal

pub add_at-requires-clause-into : goal.add_at-requires-clause-into
add_at-requires-clause-into g c =
    let p = g.F.Field.size c.args.f.now in
    let r = c.args.run in
    let room = multiple_within p r c.args.numbers.now c.args.table.now c.args.c c.requires.factor c.requires.table in
    subst (λ n. HoldsRun p (c.args.i * r.cols + r.start) n c.args.numbers.now)
    (sym (cut_sized (c.args.c * r.len) r.len c.args.table.now room))
    (holds_run p r c.args.numbers.now c.requires.run c.args.i c.requires.row)

pub returns : goal.returns
returns g c =
    let p = g.F.Field.size c.args.f.now in
    let r = c.args.run in
    let at = c.args.c * r.len in
    let ts = c.args.table.now in
    let room = multiple_within p r c.args.numbers.now ts c.args.c c.requires.factor c.requires.table in
    record {
      length_is = c.add_at.ensures.length_is;
      none = λ e. absurd (elim e [ inl same ↦ c.if-i-run.false same | inr zero ↦ c.if-c-eq0.false zero ]);
      added = λ other factor. added_by_table p r c.args.numbers.now c.requires.run c.args.i c.args.c ts _ _
          c.requires.row c.requires.factor c.requires.table (cut_sized at r.len ts room) (cut_at at r.len ts)
          c.add_at.ensures;
    }
