use Rattle.std.proofs.Common.{ℕ, ◌∙◌, Option, subst}
use Rattle.bmp_check.specs.declared.kept.Kept.{Kept}
use Rattle.bmp_check.specs.FirstRefusals.{IsOfFirst, KeepsFirst}
use Rattle.bmp_check.specs.Settings.{shaped_in}
use Rattle.bmp_check.proofs.FirstLemmas.{all_of_pieces, first_of_pieces}
use Rattle.bmp_check.proofs.pieces.check_blocks.Goals as goal

pub returns-in-None-clause-ok : goal.returns-in-None-clause-ok
returns-in-None-clause-ok g c =
    let s = shaped_in c.args.s.now in
    let w = c.args.workers in
    all_of_pieces s w c.requires.some
    (subst (λ (k : Option Kept). KeepsFirst s (IsOfFirst s w w) k) c.in-None.is
    (subst (λ (n : ℕ). KeepsFirst s (IsOfFirst s w n) c.first_kept.result)
    (c.run_pieces.ensures.count ∙ c.requires.count) (c.first_kept.ensures s w c.run_pieces.ensures.keeps)))

pub returns-in-Some-clause-first : goal.returns-in-Some-clause-first
returns-in-Some-clause-first g c =
    let s = shaped_in c.args.s.now in
    let w = c.args.workers in
    first_of_pieces s w c.in-Some.kept c.requires.some
    (subst (λ (k : Option Kept). KeepsFirst s (IsOfFirst s w w) k) c.in-Some.is
    (subst (λ (n : ℕ). KeepsFirst s (IsOfFirst s w n) c.first_kept.result)
    (c.run_pieces.ensures.count ∙ c.requires.count) (c.first_kept.ensures s w c.run_pieces.ensures.keeps)))
