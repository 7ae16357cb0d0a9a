use Rattle.std.proofs.Common.{◌≡◌, length, rules, sym, ◌∙◌}
use Rattle.bmp_linear.proofs.MultipleLemmas.{written_back}
use Rattle.bmp_linear.proofs.KeptRowLemmas.{spread_list}
use Rattle.bmp_linear.proofs.mixed_row.numbers_of.Goals as goal

pub returns : goal.returns
returns c =
    let new = c.spread_entries.new.into in
    let sized : length new ≡ c.args.cols = search rules in
    let items : length c.in_ok-numbers.numbers.items ≡ c.args.cols = search rules in
    let whole : c.in_ok-numbers.numbers.len ≡ c.args.cols = search rules in
    written_back c.in_ok-numbers.numbers.len new c.in_ok-numbers.numbers.items (sized ∙ sym whole) (items ∙ sym whole)
    ∙ spread_list c.args.cols c.args.entries.now new sized c.spread_entries.ensures
