use Rattle.std.proofs.Common.{◌<◌, ◌≤◌, get_or, length, sym, ap, rules, arith}
use Rattle.bmp_module.specs.Images.{image_coordinates}
use Rattle.bmp_module.proofs.ColumnLemmas.{extension_start, extension_more, extension_whole}
use Rattle.bmp_module.proofs.Extending.{image_read}
use Rattle.bmp_module.proofs.linear.Linear.columns.Goals as goal

pub loop-h-init : goal.loop-h-init
loop-h-init g c =
    rw c.new-columns.ensures.items
    (extension_start (g.F.Field.size c.args.f.now) c.args.self.now.from.now.rank c.args.d
    (g.N.GradedModule.graded c.args.self.now.into.now) c.args.self.now.from.now.degrees.items
    (image_coordinates (g.N.GradedModule.coordinate c.args.self.now.into.now c.args.f.now) c.args.self.now.images.now))

pub loop-h-preserved : goal.loop-h-preserved
loop-h-preserved g c =
    let here : c.loop-h.h < length c.args.self.now.from.now.degrees.items = search rules in
    let image : c.loop-h.h < length c.args.self.now.images.now = omega (arith, here, c.requires.images.counted) in
    extension_more (g.F.Field.size c.args.f.now) c.args.self.now.from.now.rank c.args.d
    (g.N.GradedModule.graded c.args.self.now.into.now) c.args.self.now.from.now.degrees.items
    (image_coordinates (g.N.GradedModule.coordinate c.args.self.now.into.now c.args.f.now) c.args.self.now.images.now)
    c.loop-h.h
    (g.N.GradedModule.degree c.args.self.now.into.now
    (get_or c.args.self.now.images.now c.loop-h.h c.index-self-h.result))
    (g.N.GradedModule.coordinate c.args.self.now.into.now c.args.f.now
    (get_or c.args.self.now.images.now c.loop-h.h c.index-self-h.result))
    c.loop-h.columns.items c.push_multiples.new.columns.items here
    (c.requires.images.degrees c.loop-h.h c.index-self-h.result image)
    (sym (image_read (g.N.GradedModule.coordinate c.args.self.now.into.now c.args.f.now) c.args.self.now.images.now
    c.loop-h.h (get_or c.args.self.now.images.now c.loop-h.h c.index-self-h.result) image
    (ap (λ z. get_or c.args.self.now.images.now c.loop-h.h z) c.index-self-h.is)))
    c.loop-h.invariant c.in_ok-push_multiples.ensures

pub returns : goal.returns
returns g c =
    let within : c.loop-h.h ≤ length c.args.self.now.from.now.degrees.items = search rules in
    let past : length c.args.self.now.from.now.degrees.items ≤ c.loop-h.h = search rules in
    extension_whole (g.F.Field.size c.args.f.now) c.args.self.now.from.now.rank c.args.d
    (g.N.GradedModule.graded c.args.self.now.into.now) c.args.self.now.from.now.degrees.items
    (image_coordinates (g.N.GradedModule.coordinate c.args.self.now.into.now c.args.f.now) c.args.self.now.images.now)
    c.loop-h.h c.loop-h.columns.items within past c.loop-h.invariant
