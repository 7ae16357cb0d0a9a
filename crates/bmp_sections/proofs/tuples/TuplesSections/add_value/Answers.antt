use Rattle.std.proofs.Common.{◌+◌, ◌*◌, ◌%◌, ◌<◌, ◌∙◌, get_or, refl, sym, ap, subst, arith}
use Rattle.bmp_sheaf.specs.States.{sheaf_of}
use Rattle.bmp_sections.proofs.IndexLemmas.{positions_within, start_at}
use Rattle.bmp_sections.proofs.TupleLemmas.{value_at}
use Rattle.bmp_sections.proofs.tuples.TuplesSections.add_value.Goals as goal

pub add_run-requires-clause-few : goal.add_run-requires-clause-few
add_run-requires-clause-few g c =
    let t = c.args.self.now in
    let s = t.sheaf.now in
    let there = t.indexed.there c.args.y c.requires.vertex in
    let start = start_at s.graph (sheaf_of s) t.vertex t.degree t.index.now t.indexed.indexed c.args.y c.args.y
    c.index.result.now refl there.0 c.requires.vertex c.index.ensures in
    omega (
      arith,
      c.from-start.ensures,
      start,
      c.size.ensures,
      t.indexed.indexed.few_positions,
      positions_within s.graph (sheaf_of s) t.vertex t.degree c.args.y there.0 c.requires.vertex,
    )

pub add_run-requires-clause-numbers : goal.add_run-requires-clause-numbers
add_run-requires-clause-numbers g c =
    let t = c.args.self.now in
    let s = t.sheaf.now in
    let there = t.indexed.there c.args.y c.requires.vertex in
    let start = start_at s.graph (sheaf_of s) t.vertex t.degree t.index.now t.indexed.indexed c.args.y c.args.y
    c.index.result.now refl there.0 c.requires.vertex c.index.ensures in
    λ k l.
    subst (λ z. z < g.G.Field.size c.args.f.now)
    (sym (value_at s.graph (sheaf_of s) t.vertex t.degree t.vectors.now c.args.j c.args.y c.from-start.result
    c.entries.result.now (c.entries.ensures.items ∙ c.at-vector.ensures) (c.from-start.ensures ∙ start) k))
    (c.requires.numbers k (omega (arith, l, c.size.ensures)))

pub returns-clause-added : goal.returns-clause-added
returns-clause-added g c =
    let t = c.args.self.now in
    let s = t.sheaf.now in
    let there = t.indexed.there c.args.y c.requires.vertex in
    let start = start_at s.graph (sheaf_of s) t.vertex t.degree t.index.now t.indexed.indexed c.args.y c.args.y
    c.index.result.now refl there.0 c.requires.vertex c.index.ensures in
    λ k l.
    c.add_run.ensures.added k (omega (arith, l, c.size.ensures))
    ∙ ap (λ z. (get_or c.args.s.now.second k 0 + g.G.Field.num c.args.f.now c.args.factor * z)
    % g.G.Field.size c.args.f.now)
    (value_at s.graph (sheaf_of s) t.vertex t.degree t.vectors.now c.args.j c.args.y c.from-start.result
    c.entries.result.now (c.entries.ensures.items ∙ c.at-vector.ensures) (c.from-start.ensures ∙ start) k)
