use Rattle.std.proofs.Common.{◌≡◌, length, rules, sym, ap, subst, ◌∙◌}
use Rattle.bmp_field.specs.Runs.{AreBelow}
use Rattle.bmp_linear.specs.SparseVectors.{FitsBelow, number_at}
use Rattle.bmp_linear.proofs.KeptRowLemmas.{spread-length, added_row, written_sum}
use Rattle.bmp_linear.proofs.mixed_row.sum_with_entries.Goals as goal

pub add_entries-requires-clause-fits : goal.add_entries-requires-clause-fits
add_entries-requires-clause-fits g c =
    subst (FitsBelow c.args.more.now)
    (sym (ap length (c.deref_mut.ensures.value ∙ c.in_ok-sum.ensures) ∙ spread-length c.args.cols c.args.own.now))
    c.requires.fits

pub returns : goal.returns
returns g c =
    let whole : c.in_ok-sum.sum.len ≡ length c.in_ok-sum.sum.items = search rules in
    let sized : length c.add_entries.new.sums ≡ length c.deref_mut.result.now = search rules in
    let below = subst (AreBelow (g.F.Field.size c.args.f.now)) (sym (c.deref_mut.ensures.value ∙ c.in_ok-sum.ensures))
    c.requires.below in
    written_sum (number_at c.args.more.now) c.deref_mut.ensures.value c.in_ok-sum.ensures whole
    (added_row sized below c.add_entries.ensures)
