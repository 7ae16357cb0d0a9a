use Rattle.std.proofs.Common.{sym, subst}
use Rattle.bmp_roots.specs.RootPairs.{IsRootPair, IsPositive}
use Rattle.bmp_roots.specs.Pairs.{coordinates, pair_of}
use Rattle.bmp_roots.specs.RootSystems.{matrix_of}
use Rattle.bmp_roots.specs.declared.root_pair.Pair.{Pair}
use Rattle.bmp_roots.proofs.PositiveLemmas.{pair_is_zero_past}
use Rattle.bmp_roots.proofs.RootsLemmas.{has_finite_system, positive_at}
use Rattle.bmp_roots.proofs.root_system.Roots.pair.Goals as goal

pub returns-clause-is_pair : goal.returns-clause-is_pair
returns-clause-is_pair c =
    subst (λ (p : Pair). IsRootPair (matrix_of c.args.self.now) (pair_of p)) (sym c.at-pair.ensures)
    (positive_at c.args.self.now c.args.i c.at-pair.result c.requires).0

pub returns-clause-positive : goal.returns-clause-positive
returns-clause-positive c =
    subst (λ (p : Pair). IsPositive (matrix_of c.args.self.now) (coordinates p.root)) (sym c.at-pair.ensures)
    (positive_at c.args.self.now c.args.i c.at-pair.result c.requires).1

pub returns-clause-past_rank : goal.returns-clause-past_rank
returns-clause-past_rank c =
    pair_is_zero_past (matrix_of c.args.self.now) (pair_of c.at-pair.result)
    (subst (λ (p : Pair). IsRootPair (matrix_of c.args.self.now) (pair_of p)) (sym c.at-pair.ensures)
    (positive_at c.args.self.now c.args.i c.at-pair.result c.requires).0)

pub returns-clause-small : goal.returns-clause-small
returns-clause-small c =
    (has_finite_system c.args.self.now).small (pair_of c.at-pair.result)
    (subst (λ (p : Pair). IsRootPair (matrix_of c.args.self.now) (pair_of p)) (sym c.at-pair.ensures)
    (positive_at c.args.self.now c.args.i c.at-pair.result c.requires).0)
