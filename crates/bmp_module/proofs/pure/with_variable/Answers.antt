use Rattle.std.proofs.Common.{rules, ◌≡◌, length}
use Rattle.bmp_module.proofs.Rotating.{put_right}
use Rattle.bmp_module.proofs.pure.with_variable.Goals as goal

pub returns : goal.returns
returns c =
    let long : length c.args.m.now ≡ 6 = search rules in
    put_right c.args.at c.args.m.now c.rotate_right.new.self c.requires.variable long c.requires.last
    c.rotate_right.ensures.after
