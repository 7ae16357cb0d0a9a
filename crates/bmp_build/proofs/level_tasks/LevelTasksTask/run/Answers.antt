use Rattle.std.proofs.Common.{◌≡◌, ◌+◌, ◌<◌, sym, subst, arith}
use Rattle.bmp_stalk.specs.BuiltParts.{HaveMembers}
use Rattle.bmp_build.specs.Tasks.{above_number}
use Rattle.bmp_build.proofs.Lengths.{upon_number, made_upon}
use Rattle.bmp_build.proofs.level_tasks.LevelTasksTask.run.Goals as goal

pub build_stalk-requires-clause-members : goal.build_stalk-requires-clause-members
build_stalk-requires-clause-members g c =
    let t = c.args.self.now in
    let own : c.args.i < t.count = omega (arith, c.if-i-self.false) in
    let upon : c.in_ok-sheaf.sheaf ≡ above_number t.sheaf.now (t.low + c.args.i) =
    upon_number t.opened own (omega (arith, c.pushed.ensures.count)) c.in_ok-sheaf.ensures in
    subst (λ s. HaveMembers s t.families.now t.counts.now) (sym upon) (t.members c.args.i own)

pub returns : goal.returns
returns g c =
    let t = c.args.self.now in
    let own : c.args.i < t.count = omega (arith, c.if-i-self.false) in
    let upon : c.in_ok-sheaf.sheaf ≡ above_number t.sheaf.now (t.low + c.args.i) =
    upon_number t.opened own (omega (arith, c.pushed.ensures.count)) c.in_ok-sheaf.ensures in
    let built = c.in_ok-part.ensures in
    made_upon upon built.stalk built c.read_part.ensures
