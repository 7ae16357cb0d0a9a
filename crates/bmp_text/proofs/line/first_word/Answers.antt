use Rattle.std.proofs.Common.{◌∷◌, sym, ap, ap₂, ◌∙◌, List, ℕ}
use Rattle.bmp_text.proofs.WordLemmas.{words_cut}
use Rattle.bmp_text.specs.Words.{words_of}
use Rattle.bmp_text.proofs.line.first_word.Goals as goal

pub returns : goal.returns
returns c = words_cut c.args.bytes.now ∙ ap₂ (λ (x : List ℕ) (y : List (List ℕ)). x ∷ y) (sym c.split.ensures.front)
    (ap words_of (sym c.split.ensures.back))
