use Rattle.std.proofs.Common.{inl, inr, subst, ◌∙◌}
use Rattle.bmp_linear.specs.RowChanges.{IsRowAdded}
use Rattle.bmp_linear.specs.RowRuns.{matrix_at}
use Rattle.bmp_linear.proofs.MultipleLemmas.{holds_run, runs_apart, added_by_products}
use Rattle.bmp_linear.proofs.multiples.add_by_products.Goals as goal

pub add_run-requires-clause-into : goal.add_run-requires-clause-into
add_run-requires-clause-into g c =
    holds_run (g.F.Field.size c.args.f.now) c.args.run c.args.numbers.now c.requires.run c.args.i c.requires.row

pub add_run-requires-clause-from : goal.add_run-requires-clause-from
add_run-requires-clause-from g c =
    holds_run (g.F.Field.size c.args.f.now) c.args.run c.args.numbers.now c.requires.run c.args.run.row
    c.requires.run.row

pub add_run-requires-clause-apart : goal.add_run-requires-clause-apart
add_run-requires-clause-apart g c =
    runs_apart (g.F.Field.size c.args.f.now) c.args.run c.args.numbers.now c.requires.run c.args.i c.if-i-run.false

pub returns : goal.returns
returns g c =
    let p = g.F.Field.size c.args.f.now in
    let r = c.args.run in
    record {
      length_is = c.add_run.ensures.length_is;
      none = λ e. absurd (elim e [ inl same ↦ c.if-i-run.false same | inr zero ↦ c.if-c-eq0.false zero ]);
      added = λ other factor.
          subst (λ e. IsRowAdded p (matrix_at r c.args.numbers.now) (matrix_at r c.add_run.new.numbers) c.args.i r.row
          e)
          (c.from_num.ensures.number ∙ c.from.ensures)
          (added_by_products p r c.args.numbers.now c.requires.run c.args.i _ _ c.requires.row c.add_run.ensures);
    }
