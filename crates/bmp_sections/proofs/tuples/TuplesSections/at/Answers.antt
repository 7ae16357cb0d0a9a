use Rattle.std.proofs.Common.{◌∙◌, refl, arith}
use Rattle.bmp_sheaf.specs.States.{sheaf_of}
use Rattle.bmp_sections.proofs.IndexLemmas.{positions_within, start_at}
use Rattle.bmp_sections.proofs.TupleLemmas.{value_at}
use Rattle.bmp_sections.proofs.tuples.TuplesSections.at.Goals as goal

pub overflow_add-from : goal.overflow_add-from
overflow_add-from g c =
    let t = c.args.self.now in
    let s = t.sheaf.now in
    let there = t.indexed.there c.args.y c.requires.vertex in
    let start = start_at s.graph (sheaf_of s) t.vertex t.degree t.index.now t.indexed.indexed c.args.y c.args.y
    c.index.result.now refl there.0 c.requires.vertex c.index.ensures in
    omega (
      arith,
      c.from.ensures,
      start,
      c.requires.coordinate,
      t.indexed.indexed.few_positions,
      positions_within s.graph (sheaf_of s) t.vertex t.degree c.args.y there.0 c.requires.vertex,
    )

pub returns : goal.returns
returns g c =
    let t = c.args.self.now in
    let s = t.sheaf.now in
    let there = t.indexed.there c.args.y c.requires.vertex in
    let start = start_at s.graph (sheaf_of s) t.vertex t.degree t.index.now t.indexed.indexed c.args.y c.args.y
    c.index.result.now refl there.0 c.requires.vertex c.index.ensures in
    c.number_of.ensures
    ∙ value_at s.graph (sheaf_of s) t.vertex t.degree t.vectors.now c.args.j c.args.y c.from.result c.entries.result.now
    (c.entries.ensures.items ∙ c.at-vector.ensures) (c.from.ensures ∙ start) c.args.c
