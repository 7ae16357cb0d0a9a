use Rattle.bmp_module.proofs.Extending.{added_multiple}
use Rattle.bmp_module.proofs.linear.add_multiple.Goals as goal

pub returns-clause-added : goal.returns-clause-added
returns-clause-added g c =
    added_multiple (g.F.Field.size c.args.f.now) (g.F.Field.num c.args.f.now c.args.c)
    (g.N.GradedModule.graded c.args.into.now) c.args.m (g.N.GradedModule.degree c.args.into.now c.args.image.now)
    (g.N.GradedModule.degree c.args.into.now c.args.total.now)
    (g.N.GradedModule.degree c.args.into.now c.in_ok-term.term)
    (g.N.GradedModule.coordinate c.args.into.now c.args.f.now c.args.image.now)
    (g.N.GradedModule.coordinate c.args.into.now c.args.f.now c.args.total.now)
    (g.N.GradedModule.coordinate c.args.into.now c.args.f.now c.in_ok-term.term)
    (g.N.GradedModule.coordinate c.args.into.now c.args.f.now c.scale_in.new.into)
    (g.N.GradedModule.coordinate c.args.into.now c.args.f.now c.add_in.new.into)
    c.requires.degree c.in_ok-term.ensures.degree c.in_ok-term.ensures.multiple c.scale_in.ensures.product
    c.add_in.ensures.sum
