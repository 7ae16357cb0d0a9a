use Rattle.std.proofs.Common.{sym, ap, ◌∙◌, subst}
use Rattle.std.proofs.lemmas.Result.{err_from_is_err_and}
use Rattle.bmp_roots.specs.RootPairs.{CartanMatrix, HasCartanForm}
use Rattle.bmp_roots.specs.Closing.{IsClosed}
use Rattle.bmp_roots.specs.Pairs.{pairs_of, positives_of}
use Rattle.bmp_roots.proofs.ClosingSteps.{refused_is_zero_past}
use Rattle.bmp_roots.proofs.RootsLemmas.{positive_roots_of_pairs}
use Rattle.bmp_roots.proofs.SystemLemmas.{root_pairs_are}
use Rattle.bmp_roots.proofs.root_system.Roots.close.Goals as goal

pub returns-in_err-pairs-clause-past_rank : goal.returns-in_err-pairs-clause-past_rank
returns-in_err-pairs-clause-past_rank c =
    let p = err_from_is_err_and c.from_residual.result c.from_residual.ensures.1 in
    rw (p.1, p.2) (refused_is_zero_past c.args.cartan.now _ _ c.in_err-pairs.ensures.refused)

pub invariant_of-result : goal.invariant_of-result
invariant_of-result c = record {
  form = subst HasCartanForm (sym c.copied.ensures) c.rank.ensures.form;
  closed = ∣ subst (λ (m : CartanMatrix). IsClosed m (pairs_of c.in_ok-pairs.pairs)) (sym c.copied.ensures)
      c.in_ok-pairs.ensures.closed ∣₁;
  positives =
      c.positive_list-positive.ensures
      ∙ ap (λ n. positives_of n c.in_ok-pairs.pairs)
      (c.rank.ensures.value ∙ ap (λ (m : CartanMatrix). m.rank) (sym c.copied.ensures));
}

pub returns-clause-pairs : goal.returns-clause-pairs
returns-clause-pairs c =
    root_pairs_are c.args.cartan.now c.rank.ensures.form (pairs_of c.in_ok-pairs.pairs)
    (λ never. never c.in_ok-pairs.ensures.closed)

pub returns-clause-positive : goal.returns-clause-positive
returns-clause-positive c =
    positive_roots_of_pairs c.args.cartan.now c.rank.ensures.form c.in_ok-pairs.pairs c.positive_list-positive.result
    (λ never. never c.in_ok-pairs.ensures.closed)
    (c.positive_list-positive.ensures ∙ ap (λ n. positives_of n c.in_ok-pairs.pairs) c.rank.ensures.value)
