-- A monomial times multiples, times sums, times the same polynomial; and at monomials of a lower degree.
use Rattle.std.proofs.Common.{◌≡◌, ℕ, ◌*◌, ◌<◌, true, false, cond, List, sym, refl, ◌∙◌, inl, inr, arith}
use Rattle.std.proofs.lemmas.Bool.{cases_Bool, cond-false}
use Rattle.bmp_math.specs.Sums.{sum_below}
use Rattle.bmp_math.proofs.SumLemmas.{sum_below-zeros}
use Rattle.bmp_poly.specs.Exponents.{IsMonomial}
use Rattle.bmp_poly.specs.Forms.{Form}
use Rattle.bmp_poly.specs.Shifts.{contains, less, shift}
use Rattle.bmp_poly.proofs.ShiftLemmas.{sum-less}

pub shift-zero : (n m : List ℕ) → shift n (λ e. 0) m ≡ 0
shift-zero n m = elim (contains m n) as (λ b. ◌≡◌ {A = ℕ} (cond b 0 0) 0) [ true ↦ refl | false ↦ refl ]

pub shift-times : (x : ℕ) (a : Form) (n m : List ℕ) → shift n (λ e. x * a e) m ≡ x * shift n a m
shift-times x a n m =
    elim (contains m n) as (λ b. cond b (x * a (less m n)) 0 ≡ x * cond b (a (less m n)) 0)
    [ true ↦ refl | false ↦ omega arith ]

pub shift-sum_below : (f : ℕ → Form) (k : ℕ) (n m : List ℕ) → shift n (λ e. sum_below (λ j. f j e) k) m
    ≡ sum_below (λ j. shift n (f j) m) k
shift-sum_below f k n m =
    elim (contains m n) as
    (λ b. cond b (sum_below (λ j. f j (less m n)) k) 0 ≡ sum_below (λ j. cond b (f j (less m n)) 0) k)
    [ true ↦ refl | false ↦ sym (sum_below-zeros k) ]

-- a multiple has no monomial of a degree below that of its factor
pub shift_below : (r k s : ℕ) (n m : List ℕ) (a : Form) → IsMonomial 6 r k n → IsMonomial 6 r s m → s < k →
    shift n a m ≡ 0
shift_below r k s n m a is_n is_m smaller = elim (cases_Bool (contains m n)) [
  | inl held ↦ absurd (omega (arith, sum-less m n (is_m.long ∙ sym is_n.long) held, is_n.size, is_m.size))
  | inr apart ↦ cond-false {A = ℕ} (contains m n) (a (less m n)) 0 apart
]
