-- Blocks of coordinates modulo a label.
use Rattle.std.proofs.Common.{◌≡◌, ℕ, suc, ◌+◌, ◌-◌, ◌%◌, ◌<◌, ◌≤◌, List, get_or, sym, ap, ◌∙◌, arith}
use Rattle.std.specs.List.{sum}
use Rattle.std.proofs.Math.Nat.{zero-mod}
use Rattle.bmp_poly.specs.Exponents.{count, exponents}
use Rattle.bmp_poly.specs.Forms.{Form}
use Rattle.bmp_poly.specs.Coefficients.{coefficient, form}
use Rattle.bmp_poly.specs.Coordinates.{IsLeading}
use Rattle.bmp_graded.specs.NormalForms.{normal_by}
use Rattle.bmp_graded.specs.Modules.{moved}
use Rattle.bmp_graded.specs.Maps.{project_one}
use Rattle.bmp_graded.specs.Quotients.{insert, reduced}
use Rattle.bmp_graded.proofs.CopiesLemmas.{moved_dim, moved_act_none}
use Rattle.bmp_graded.proofs.ReducedLaws.{reduced_dim}
use Rattle.bmp_module.specs.Appended.{IsAppended}
use Rattle.bmp_module.proofs.Appending.{appended_as}

-- a block below its generator
pub zeros_appended : {E : Type 0} (is_value : E → Type 0) (num : E → ℕ) (p r r' l g d raised n : ℕ)
    (normal : ℕ → Form → Form) (m : List ℕ) (v : ℕ → ℕ) (old new : List E) → r' ≡ r → raised ≡ d + sum m → d < g →
    n ≡ (moved g (reduced (r' - 1) l normal)).dim raised → IsAppended is_value num old new n (λ i. 0) →
    IsAppended is_value num old new ((moved g (reduced (r - 1) l normal)).dim (d + sum m))
    (λ i. (moved g (reduced (r - 1) l normal)).act m d (d + sum m) v i % p)
zeros_appended is_value num p r r' l g d raised n normal m v old new ranks raised_is before n_is h =
    appended_as is_value num old new n ((moved g (reduced (r - 1) l normal)).dim (d + sum m)) (λ i. 0)
    (λ i. (moved g (reduced (r - 1) l normal)).act m d (d + sum m) v i % p)
    (rw (ranks, raised_is) at n_is)
    (λ j l'. sym (ap (λ z. z % p) (moved_act_none (reduced (r - 1) l normal) g d (d + sum m) j m v before)
    ∙ zero-mod p)) h

-- a whole component
pub component_appended : {E : Type 0} (is_value : E → Type 0) (num : E → ℕ) (p s r l : ℕ) (coords : List ℕ) (g d : ℕ)
    (block component read old new : List E) → IsLeading s r l coords → g ≤ d → read ≡ component → component ≡ block
    → IsAppended is_value num old new (count (r - 1) (d - g))
    (λ i. normal_by s r l (λ k. get_or coords k 0) (d - g) (form num r read)
    (insert l (exponents 5 (r - 1) (d - g) i)) % p)
    → IsAppended is_value num old new
    ((moved g (reduced (r - 1) l (normal_by s (suc (r - 1)) l (λ k. get_or coords k 0)))).dim d)
    (λ i. project_one s (r - 1) l (λ k. get_or coords k 0) (d - g) (coefficient num block) i % p)
component_appended is_value num p s r l coords g d block component read old new leads from read_is component_is h =
    let here : l < r = leads.here in
    let whole : r ≡ suc (r - 1) = omega arith in
    appended_as is_value num old new (count (r - 1) (d - g))
    ((moved g (reduced (r - 1) l (normal_by s (suc (r - 1)) l (λ k. get_or coords k 0)))).dim d)
    (λ i. normal_by s r l (λ k. get_or coords k 0) (d - g) (form num r read)
    (insert l (exponents 5 (r - 1) (d - g) i)) % p)
    (λ i. project_one s (r - 1) l (λ k. get_or coords k 0) (d - g) (coefficient num block) i % p)
    (sym (moved_dim (reduced (r - 1) l (normal_by s (suc (r - 1)) l (λ k. get_or coords k 0))) g d from
    ∙ reduced_dim (r - 1) l (d - g) (normal_by s (suc (r - 1)) l (λ k. get_or coords k 0))))
    (λ j inside. ap (λ w. normal_by s w l (λ k. get_or coords k 0) (d - g) (form num w read)
    (insert l (exponents 5 (r - 1) (d - g) j)) % p) whole
    ∙ ap (λ z. normal_by s (suc (r - 1)) l (λ k. get_or coords k 0) (d - g) (form num (suc (r - 1)) z)
    (insert l (exponents 5 (r - 1) (d - g) j)) % p) (read_is ∙ component_is))
    h
