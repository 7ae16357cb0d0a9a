-- Unit vectors: what they combine rows to, and what they say.
use Rattle.std.proofs.Common.{◌≡◌, ◌≢◌, ℕ, ◌*◌, ◌<◌, refl, sym, ap, ◌∙◌, arith, eqb, eq-eqb, ne_eqb}
use Rattle.std.proofs.lemmas.Bool.{cond-true, cond-false}
use Rattle.bmp_math.specs.Vectors.{unit}
use Rattle.bmp_math.specs.Matrices.{Matrix, combination, image}
use Rattle.bmp_math.proofs.SumLemmas.{sum_below_only, sum_below_same}
use Rattle.bmp_math.proofs.MatrixLemmas.{combination-combination}

pub unit_same : (i : ℕ) → unit i i ≡ 1
unit_same i = cond-true {A = ℕ} (eqb i i) 1 0 (eq-eqb i i refl)

pub unit_other : (i j : ℕ) → i ≢ j → unit i j ≡ 0
unit_other i j other = cond-false {A = ℕ} (eqb i j) 1 0 (ne_eqb i j other)

-- a unit combines rows to one of them, and the combination of units has their factors
pub unit_combination : (m i j : ℕ) (vs : ℕ → ℕ → ℕ) → i < m → combination (unit i) vs m j ≡ vs i j
unit_combination m i j vs l =
    sum_below_only (λ k. unit i k * vs k j) m i l
    (λ k b other. let none : unit i k ≡ 0 = unit_other i k (λ e. other (sym e)) in rw none (omega arith))
    ∙ (let one : unit i i ≡ 1 = unit_same i in rw one (omega arith))

pub combination_unit : (m j : ℕ) (c : ℕ → ℕ) → j < m → combination c unit m j ≡ c j
combination_unit m j c l =
    sum_below_only (λ k. c k * unit k j) m j l (λ k b other. let none : unit k j ≡ 0 = unit_other k j other in
    rw none (omega arith))
    ∙ (let one : unit j j ≡ 1 = unit_same j in rw one (omega arith))

abbrev pub unit_rows : ℕ → Matrix
unit_rows m = record { rows = m; cols = m; entry = unit }

-- a unit reads a number
pub image_unit : (m i : ℕ) (y : ℕ → ℕ) → i < m → image (unit_rows m) y i ≡ y i
image_unit m i y l =
    sum_below_only (λ k. y k * unit i k) m i l
    (λ k b other. let none : unit i k ≡ 0 = unit_other i k (λ e. other (sym e)) in rw none (omega arith))
    ∙ (let one : unit i i ≡ 1 = unit_same i in rw one (omega arith))

-- rows taken from others are combinations of these
pub taken_combination : (c at : ℕ → ℕ) (n m : ℕ) (vs : ℕ → ℕ → ℕ) (j : ℕ) → ((k : ℕ) → k < n → at k < m) →
    combination c (λ k. vs (at k)) n j ≡ combination (combination c (λ k. unit (at k)) n) vs m j
taken_combination c at n m vs j below =
    sum_below_same (λ k. c k * vs (at k) j) (λ k. c k * combination (unit (at k)) vs m j) n
    (λ k l. ap (λ z. c k * z) (sym (unit_combination m (at k) j vs (below k l))))
    ∙ combination-combination c (λ k. unit (at k)) vs n m j
