use Rattle.std.proofs.Common.{◌≡◌, ap, ◌∙◌, ◌∷◌, ◌++◌, arith}
use Rattle.std.specs.Fmt.{decimal}
use Rattle.bmp_text.proofs.QuickLemmas.{last_word, next_word}
use Rattle.bmp_text.proofs.SliceLemmas.{no_bytes, first_byte}
use Rattle.bmp_text.proofs.quick.quick_natural.Goals as goal

pub returns-in-empty-clause-word : goal.returns-in-empty-clause-word
returns-in-empty-clause-word c =
    last_word c.args.bytes.now c.in_ok-n.n c.in_ok-n.ensures.small
    (c.in_ok-n.ensures.digits ∙ ap (λ t. decimal c.in_ok-n.n ++ t) (no_bytes c.in_ok-n.behind.now c.in-empty.len_below))

pub returns-in-32-clause-word : goal.returns-in-32-clause-word
returns-in-32-clause-word c =
    next_word c.args.bytes.now _ c.in_ok-n.n c.in_ok-n.ensures.small
    (c.in_ok-n.ensures.digits
    ∙ ap (λ t. decimal c.in_ok-n.n ++ t) (first_byte c.in_ok-n.behind.now 32 c.in-32.len_at_least (omega arith)))
