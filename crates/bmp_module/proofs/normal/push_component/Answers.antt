use Rattle.std.proofs.Common.{arith, ◌∙◌, ◌-◌, ◌++◌, sym, ap, length}
use Rattle.bmp_graded.specs.Modules.{moved, polynomials}
use Rattle.bmp_graded.proofs.CopiesLemmas.{moved_dim, moved_none, polynomials_dim}
use Rattle.bmp_module.specs.Components.{component_of}
use Rattle.bmp_module.proofs.Appending.{appended_none, appended_as}
use Rattle.bmp_module.proofs.NormalBlocks.{component_appended}
use Rattle.bmp_module.proofs.normal.push_component.Goals as goal

pub returns-then-generator-degree : goal.returns-then-generator-degree
returns-then-generator-degree g c =
    appended_as (g.F.Field.is_value c.args.f.now) (g.F.Field.num c.args.f.now) c.args.numbers.now.items
    c.args.numbers.now.items 0 ((moved c.args.generator (component_of c.args.label.now)).dim c.args.degree) _ _
    (sym (moved_none (component_of c.args.label.now) c.args.generator c.args.degree c.if-generator-degree.true))
    (λ j l. absurd (omega arith))
    (appended_none (g.F.Field.is_value c.args.f.now) (g.F.Field.num c.args.f.now) c.args.numbers.now.items
    (λ j. 0) c.requires.numbers)

pub push_normal-requires-clause-sized : goal.push_normal-requires-clause-sized
push_normal-requires-clause-sized g c =
    ap length (c.deref_mut.ensures.value ∙ c.in_ok-extend_from_slice.ensures.items
    ∙ ap (λ z. z ++ c.args.block.now) c.clear.ensures.items) ∙ c.requires.sized
    ∙ moved_dim (polynomials c.args.label.now.rank) c.args.generator c.args.degree c.if-generator-degree.false
    ∙ polynomials_dim c.args.label.now.rank (c.args.degree - c.args.generator)

pub returns : goal.returns
returns g c =
    component_appended (g.F.Field.is_value c.args.f.now) (g.F.Field.num c.args.f.now) (g.F.Field.size c.args.f.now)
    c.args.label.now.prime c.args.label.now.rank c.args.label.now.leading c.args.label.now.coords c.args.generator
    c.args.degree c.args.block.now _ _ c.args.numbers.now.items _
    c.args.label.now.leads c.if-generator-degree.false c.deref_mut.ensures.value
    (c.in_ok-extend_from_slice.ensures.items ∙ ap (λ z. z ++ c.args.block.now) c.clear.ensures.items)
    c.in_ok-push_normal.ensures
