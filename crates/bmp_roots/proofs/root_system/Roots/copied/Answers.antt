use Rattle.std.proofs.Common.{sym, ap₂, ◌∙◌, subst, List}
use Rattle.bmp_roots.specs.RootPairs.{CartanMatrix, HasCartanForm}
use Rattle.bmp_roots.specs.Closing.{IsClosed}
use Rattle.bmp_roots.specs.Pairs.{pairs_of, positives_of}
use Rattle.bmp_roots.specs.declared.root_pair.Pair.{Pair}
use Rattle.bmp_roots.proofs.root_system.Roots.copied.Goals as goal

pub invariant_of-result : goal.invariant_of-result
invariant_of-result c = record {
  form = subst HasCartanForm (sym c.copied.ensures) c.args.self.now.form;
  closed =
      subst (λ (ps : List Pair). ∥ IsClosed c.copied.result (pairs_of ps) ∥₁) (sym c.copied-2.ensures)
      (subst (λ (m : CartanMatrix). ∥ IsClosed m (pairs_of c.args.self.now.pairs) ∥₁) (sym c.copied.ensures)
      c.args.self.now.closed);
  positives =
      c.copied-3.ensures ∙ c.args.self.now.positives
      ∙ ap₂ (λ (m : CartanMatrix) (ps : List Pair). positives_of m.rank ps) (sym c.copied.ensures)
      (sym c.copied-2.ensures);
}
