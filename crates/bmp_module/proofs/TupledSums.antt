-- Dimensions and coordinates of finite direct sums, by those of the parts.
use Rattle.std.proofs.Common.{◌≡◌, ℕ, ◌+◌, ◌<◌, ◌≤◌, List, length, get_or, drop, map, refl, sym, ap, ◌∙◌, arith}
use Rattle.bmp_graded.specs.Graded.{Graded}
use Rattle.bmp_graded.specs.Modules.{direct_sum}
use Rattle.bmp_graded.specs.Tuples.{joined_coordinates}
use Rattle.bmp_graded.proofs.Totals.{total, total_step, total_end}
use Rattle.bmp_graded.proofs.TupleLemmas.{direct_sum_dim, joined_each}
use Rattle.bmp_module.proofs.Tupling.{EachBelow}

-- the dimension of one more part is counted
pub dim_step : {M : Type 0} (graded : M → Graded) (d : ℕ) (ms : List M) (k sum n : ℕ) (m : M) → k < length ms →
    m ≡ get_or ms k m → n ≡ (graded m).dim d → total (λ m. (graded m).dim d) ms ≡ sum + total (λ m. (graded m).dim d)
    (drop k ms) → total (λ m. (graded m).dim d) ms ≡ (sum + n) + total (λ m. (graded m).dim d) (drop (k + 1) ms)
dim_step graded d ms k sum n m inside at is so_far =
    let size : n ≡ (graded (get_or ms k m)).dim d = is ∙ ap (λ z. (graded z).dim d) at in
    omega (
      arith,
      size,
      total_step (λ m. (graded m).dim d) ms ms k (total (λ m. (graded m).dim d) ms) sum m refl inside
          so_far,
    )

pub dim_fits : {M : Type 0} (graded : M → Graded) (d b : ℕ) (ms : List M) (k sum n : ℕ) (m : M) → k < length ms →
    m ≡ get_or ms k m → n ≡ (graded m).dim d → (direct_sum (map graded ms)).dim d < b →
    total (λ m. (graded m).dim d) ms ≡ sum + total (λ m. (graded m).dim d) (drop k ms) → sum + n < b
dim_fits graded d b ms k sum n m inside at is small so_far =
    omega (arith, dim_step graded d ms k sum n m inside at is so_far, direct_sum_dim graded d ms, small)

pub dim_end : {M : Type 0} (graded : M → Graded) (d : ℕ) (ms : List M) (k sum : ℕ) → length ms ≤ k →
    total (λ m. (graded m).dim d) ms ≡ sum + total (λ m. (graded m).dim d) (drop k ms) →
    sum ≡ (direct_sum (map graded ms)).dim d
dim_end graded d ms k sum past so_far =
    total_end (λ m. (graded m).dim d) ms ms k (total (λ m. (graded m).dim d) ms) sum refl past so_far
    ∙ sym (direct_sum_dim graded d ms)

-- parts that are 0 make a tuple that is 0
pub tuple_zero : {M E : Type 0} (is_element : M → E → Type 0) (degree : M → E → ℕ) (graded : M → Graded)
    (coordinate : M → E → ℕ → ℕ) (d k : ℕ) (ms : List M) (es : List E) → length ms ≤ k → k ≤ length ms
    → EachBelow (λ i e. (m : M) → is_element (get_or ms i m) e × (degree (get_or ms i m) e ≡ d) ×
    ((j : ℕ) → j < (graded (get_or ms i m)).dim d → coordinate (get_or ms i m) e j ≡ 0)) es k
    → (i : ℕ) → i < (direct_sum (map graded ms)).dim d → joined_coordinates (λ m. (graded m).dim d) coordinate ms es i
    ≡ 0
tuple_zero is_element degree graded coordinate d k ms es past within h i inside =
    let size : length es ≡ k = h.sized in
    let sized : length es ≡ length ms = omega arith in
    joined_each (λ z. z ≡ 0) (λ m. (graded m).dim d) coordinate ms es sized
    (λ n j m e here below. (h.each n e (omega (arith, here)) m).2 j below) i (rw (direct_sum_dim graded d ms) at inside)
