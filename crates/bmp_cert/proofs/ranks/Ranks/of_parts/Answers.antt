use Rattle.std.proofs.Common.{◌≡◌, ℕ, ◌+◌, ◌*◌, length, ap, sym, ◌∙◌, refl}
use Rattle.bmp_cert.specs.Counts.{Written}
use Rattle.bmp_cert.proofs.CountLemmas.{length-all_counts, ranks_of}
use Rattle.bmp_cert.proofs.ranks.Ranks.of_parts.Goals as goal

pub invariant_of-result : goal.invariant_of-result
invariant_of-result c =
    let w : Written = record { degree = c.args.degree; parts = c.args.parts.now } in
    let size : length c.in_ok-numbers.numbers.items ≡ length w.parts * (w.degree + 1) =
    ap length c.in_ok-numbers.ensures ∙ length-all_counts w (length w.parts) in
    (c.requires, size ∙ ap (λ (n : ℕ). n * (w.degree + 1)) (sym c.len.ensures))

pub returns : goal.returns
returns c =
    let w : Written = record { degree = c.args.degree; parts = c.args.parts.now } in
    ranks_of w _ c.len.ensures refl c.in_ok-numbers.ensures
