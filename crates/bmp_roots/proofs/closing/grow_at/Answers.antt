use Rattle.std.proofs.Common.{arith, rules, sym, subst, List}
use Rattle.bmp_math.specs.Lists.{Member}
use Rattle.bmp_roots.specs.Pairs.{pair_of, pairs_of}
use Rattle.bmp_roots.specs.declared.root_pair.Pair.{Pair}
use Rattle.bmp_roots.proofs.ClosingSteps.{held, before_push, grown_push}
use Rattle.bmp_roots.proofs.PairListLemmas.{not_true}
use Rattle.bmp_roots.proofs.closing.grow_at.Goals as goal

pub returns-then-contains-clause-before : goal.returns-then-contains-clause-before
returns-then-contains-clause-before c =
    held c.args.cartan.now c.args.list.now c.args.i c.args.k c.result_of-pair.result c.requires.before
    c.result_of-pair.ensures
    (subst (λ (ps : List Pair). Member (pair_of c.result_of-pair.result) (pairs_of ps)) c.as_slice.ensures.value
    (c.contains.ensures.0 c.if-contains.true))

pub returns-clause-before : goal.returns-clause-before
returns-clause-before c =
    before_push c.args.cartan.now c.args.list.now c.push.new.self c.result_of-pair.result c.args.i c.args.k
    c.push.ensures c.requires.before c.requires.place c.result_of-pair.ensures

pub returns-clause-grown : goal.returns-clause-grown
returns-clause-grown c =
    grown_push c.args.cartan.now c.args.list.now c.push.new.self c.result_of-pair.result c.args.i c.args.k
    c.push.ensures c.requires.grown c.requires.before c.requires.place c.requires.letter c.result_of-pair.ensures
    (λ h. not_true c.contains.result c.if-contains.false
    (c.contains.ensures.1
    (subst (λ (ps : List Pair). Member (pair_of c.result_of-pair.result) (pairs_of ps))
    (sym c.as_slice.ensures.value) h)))
    (c.is_small.ensures.0 (search rules)) (c.has_one_sign.ensures.0 (search rules)) (omega arith)
