use Rattle.std.proofs.Common.{rules, ◌≡◌, length, slice_index, arith}
use Rattle.std.proofs.lemmas.List.{with_items_is, places}
use Rattle.bmp_linear.proofs.FaultLemmas.{on_ok}
use Rattle.bmp_linear.proofs.MultipleLemmas.{multiples-below}
use Rattle.bmp_linear.proofs.RunRowLemmas.{multiples_added}
use Rattle.bmp_linear.proofs.dense.DenseRowsRowSpace.add_to_rows.Goals as goal

pub returns-clause-ok : goal.returns-clause-ok
returns-clause-ok g c =
    let as_many : length c.args.factors.now ≡ c.self.inside.rows = search rules in
    on_ok c.add_multiples.result _ _
    (multiples_added c.args.self.now c.self.inside.rows c.self.inside.cols c.self.inside.numbers.items
    c.as_mut_slice-numbers.result.now c.add_multiples.new.numbers _ c.self.view_is c.as_mut_slice-numbers.ensures.value
    (with_items_is c.self.inside.numbers c.add_multiples.new.numbers (search (rules, places)))
    (g.F.Field.size c.args.f.now) (length c.args.factors.now) c.args.from (slice_index c.args.factors.now) as_many)
    c.add_multiples.ensures.added

pub returns-clause-numbers : goal.returns-clause-numbers
returns-clause-numbers g c =
    let two = g.met.F.Field.laws.at_least_two c.args.f.now in
    on_ok c.add_multiples.result _ _
    (λ added. multiples-below _ (g.F.Field.size c.args.f.now) _ _ c.args.from (slice_index c.args.factors.now) added
    (omega (arith, two)) c.requires.numbers)
    (returns-clause-ok g c)
