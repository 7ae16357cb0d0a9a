use Rattle.std.proofs.Common.{◌≡◌, ◌+◌, ◌∙◌, List, ℕ, length, ap, sym, subst}
use Rattle.std.proofs.lemmas.List.{with_items_is}
use Rattle.bmp_levels.specs.Runs.{IsRunOf}
use Rattle.bmp_levels.proofs.RunLemmas.{run_made}
use Rattle.bmp_levels.proofs.run.Run.of.Goals as goal

pub returns : goal.returns
returns c =
    let count = c.args.before + c.len.result in
    let numbers = c.write_vectors.new.numbers in
    let long : length c.write_vectors.new.numbers ≡ c.in_ok-values.values.len =
    c.write_vectors.ensures.sized ∙ c.deref_mut.ensures.len in
    subst
    (λ (xs : List ℕ). IsRunOf c.args.size c.args.before c.args.covers.now c.args.basis.now
    (record { size = c.args.size; count = count; values = xs }))
    (sym (with_items_is c.in_ok-values.values c.write_vectors.new.numbers long))
    (run_made c.args.size c.args.before count c.args.covers.now c.args.basis.now numbers
    (ap (λ n. c.args.before + n) c.len.ensures) c.write_vectors.ensures.values)
