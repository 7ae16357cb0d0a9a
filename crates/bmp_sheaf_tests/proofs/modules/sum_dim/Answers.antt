use Rattle.std.proofs.Common.{arith, ◌≡◌, ℕ, ◌+◌, ◌<◌, ◌≤◌, ◌^◌, List, [], ◌∷◌, ◌++◌, length, map, ap, ◌∙◌}
use Rattle.bmp_graded.specs.Graded.{Graded}
use Rattle.bmp_graded.specs.Modules.{free, direct_sum}
use Rattle.bmp_graded.proofs.Totals.{total}
use Rattle.bmp_graded.proofs.TupleLemmas.{direct_sum_dim}
use Rattle.bmp_graded.proofs.CopiesLemmas.{free_at_most}
use Rattle.bmp_sheaf_tests.proofs.modules.sum_dim.Goals as goal

half_small : (r d : ℕ) (gs : List ℕ) → r ≤ 6 → d ≤ 6 → length gs < 2 ^ 32 → (free r gs).dim d < 2 ^ 62
half_small r d gs wide small few = omega (arith, free_at_most r d gs wide small, few)

sum_small : {M : Type 0} (graded : M → Graded) (d : ℕ) (a b : M) (none one two : List M) → none ≡ [] →
    one ≡ none ++ a ∷ [] → two ≡ one ++ b ∷ [] → (graded a).dim d < 2 ^ 62 → (graded b).dim d < 2 ^ 62 →
    (direct_sum (map graded two)).dim d < 2 ^ 64
unfolding total
sum_small graded d a b none one two empty first second a_small b_small =
    let parts : two ≡ a ∷ b ∷ [] = second ∙ ap (λ z. z ++ b ∷ []) (first ∙ ap (λ z. z ++ a ∷ []) empty) in
    let size : (direct_sum (map graded (a ∷ b ∷ []))).dim d ≡ (graded a).dim d + ((graded b).dim d + 0) =
    direct_sum_dim graded d (a ∷ b ∷ []) in
    rw parts (omega (arith, size, a_small, b_small))

pub dim-dim-requires-clause-small : goal.dim-dim-requires-clause-small
dim-dim-requires-clause-small c =
    let a = c.args.first in
    let b = c.args.second in
    sum_small _ c.args.d a b _ _ _ c.new-sum.ensures c.in_ok-push.ensures.ok c.in_ok-push-2.ensures.ok
    (half_small a.rank c.args.d a.degrees.items a.wide c.requires a.few)
    (half_small b.rank c.args.d b.degrees.items b.wide c.requires b.few)
