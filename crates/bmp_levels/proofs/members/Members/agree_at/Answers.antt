use Rattle.std.proofs.Common.{subst, arith}
use Rattle.bmp_graph.specs.Graph.{IsUpRange}
use Rattle.bmp_sheaf.specs.States.{sheaf_of}
use Rattle.bmp_cover.proofs.InputLemmas.{high_values}
use Rattle.bmp_levels.specs.Agreement.{AgreesOn}
use Rattle.bmp_levels.specs.Lists.{first_members}
use Rattle.bmp_levels.specs.Runs.{list_of}
use Rattle.bmp_levels.proofs.AgreementLemmas.{agrees_at, range_more}
use Rattle.bmp_levels.proofs.members.Members.agree_at.Goals as goal

pub agree_on-requires-clause-high : goal.agree_on-requires-clause-high
agree_on-requires-clause-high g c =
    let s = c.args.sheaf.now in
    let range = subst (λ h. IsUpRange h c.args.x c.up-from.result.0 c.up-from.result.1) c.graph.ensures.graph
    c.up-from.ensures.range in
    high_values s c.args.x c.args.d c.graph.ensures.state c.requires.stalks c.up-from.result.0 c.up-from.result.1 range
    c.loop-e.e c.loop-e.auto.e c.loop-e-test.true
    (first_members c.args.self.now.count (list_of c.args.self.now.family.now)) c.requires.above

pub loop-e-preserved : goal.loop-e-preserved
loop-e-preserved g c =
    let s = c.args.sheaf.now in
    record {
      agree = range_more (λ e. AgreesOn s.graph (sheaf_of s) e c.args.d
          (first_members c.args.self.now.count (list_of c.args.self.now.family.now))) c.up-from.result.0 c.loop-e.e
          c.loop-e.invariant.agree
          (c.agree_on.ensures.agree c.if-not-agree_on.false);
      sums = omega (arith, c.agree_on.ensures.sums, c.loop-e.invariant.sums);
    }

pub returns-clause-agree : goal.returns-clause-agree
returns-clause-agree g c = λ is.
    let s = c.args.sheaf.now in
    let range = subst (λ h. IsUpRange h c.args.x c.up-from.result.0 c.up-from.result.1) c.graph.ensures.graph
    c.up-from.ensures.range in
    agrees_at s.graph (sheaf_of s) c.args.x c.args.d c.up-from.result.0 c.up-from.result.1
    (first_members c.args.self.now.count (list_of c.args.self.now.family.now)) range
    (λ e past before. c.loop-e.invariant.agree e past (omega (arith, before, c.loop-e-test.false)))
