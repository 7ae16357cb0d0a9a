use Rattle.std.proofs.Common.{◌≡◌, length, slice_index, rules, sym, ap, ◌∙◌}
use Rattle.bmp_linear.proofs.KeptRowLemmas.{spread-length, written_sum}
use Rattle.bmp_linear.proofs.mixed_row.sum_with_numbers.Goals as goal

pub add_behind-requires-clause-as_many : goal.add_behind-requires-clause-as_many
add_behind-requires-clause-as_many g c =
    c.requires.as_many
    ∙ sym (ap length (c.deref_mut.ensures.value ∙ c.in_ok-sum.ensures) ∙ spread-length c.args.cols c.args.own.now)

pub returns : goal.returns
returns g c =
    let whole : c.in_ok-sum.sum.len ≡ length c.in_ok-sum.sum.items = search rules in
    written_sum (slice_index c.args.more.now) c.deref_mut.ensures.value c.in_ok-sum.ensures whole c.add_behind.ensures
