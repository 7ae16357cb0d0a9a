-- Vectors and linear maps modulo p. Linear maps agree where they agree on units.
use Rattle.std.proofs.Common.{◌≡◌, ℕ, zero, suc, ◌+◌, ◌*◌, ◌%◌, ◌<◌, ◌≤◌, cond, eqb, refl, sym, ap, ◌∙◌, arith, eq-eqb, ne_eqb}
use Rattle.std.proofs.lemmas.Bool.{cond-true, cond-false}
use Rattle.bmp_math.specs.Sums.{sum_below}
use Rattle.bmp_math.specs.Vectors.{SameVector, unit, plus, scaled, IsLinear}
use Rattle.bmp_math.proofs.CongruenceLemmas.{same_add, same_mul}
use Rattle.bmp_math.proofs.SumLemmas.{sum_below-zero, sum_below-suc, sum_below_only}

-- the first k numbers of v, and 0 after them
front : (ℕ → ℕ) → ℕ → ℕ → ℕ
front v k j = sum_below (λ i. v i * unit i j) k

front_all : (v : ℕ → ℕ) (n j : ℕ) → j < n → front v n j ≡ v j
unfolding front
front_all v n j l =
    let one : cond (eqb j j) 1 0 ≡ 1 = cond-true {A = ℕ} (eqb j j) 1 0 (eq-eqb j j refl) in
    sum_below_only (λ i. v i * unit i j) n j l
    (λ i k other. let none : unit i j ≡ 0 = cond-false {A = ℕ} (eqb i j) 1 0 (ne_eqb i j other) in
    rw none (omega arith))
    ∙ (rw one (omega arith))

front_none : (v : ℕ → ℕ) (j : ℕ) → front v 0 j ≡ 0
unfolding front
front_none v j = sum_below-zero (λ i. v i * unit i j)

front_more : (v : ℕ → ℕ) (k j : ℕ) → front v (suc k) j ≡ plus (front v k) (scaled (v k) (unit k)) j
unfolding front
front_more v k j = sum_below-suc (λ i. v i * unit i j) k

module _ (p n m : ℕ) (f g : (ℕ → ℕ) → ℕ → ℕ) (f_linear : IsLinear p n m f) (g_linear : IsLinear p n m g)
    (agree : (i : ℕ) → i < n → SameVector p m (f (unit i)) (g (unit i))) (v : ℕ → ℕ) where
  on_zero : (h : (ℕ → ℕ) → ℕ → ℕ) → IsLinear p n m h → SameVector p m (h (front v 0)) (λ j. 0)
  on_zero h linear j l =
      linear.respects (front v 0) (scaled 0 (front v 0))
      (λ i k. ap (λ x. x % p) (front_none v i ∙ zero_times (front v 0 i))) j l
      ∙ linear.multiples 0 (front v 0) j l
      ∙ ap (λ x. x % p) (sym (zero_times (h (front v 0) j)))
    where
      zero_times : (x : ℕ) → 0 ≡ 0 * x
      zero_times x = omega arith

  on_more : (h : (ℕ → ℕ) → ℕ → ℕ) → IsLinear p n m h →
      (k : ℕ) → SameVector p m (h (front v (suc k))) (λ j. h (front v k) j + v k * h (unit k) j)
  on_more h linear k j l =
      linear.respects (front v (suc k)) (plus (front v k) (scaled (v k) (unit k)))
      (λ i b. ap (λ x. x % p) (front_more v k i)) j l
      ∙ linear.sums (front v k) (scaled (v k) (unit k)) j l
      ∙ same_add p (h (front v k) j) (h (front v k) j) (h (scaled (v k) (unit k)) j) (v k * h (unit k) j) refl
      (linear.multiples (v k) (unit k) j l)

  on_front : (k : ℕ) → k ≤ n → SameVector p m (f (front v k)) (g (front v k))
  on_front zero below j l = on_zero f f_linear j l ∙ sym (on_zero g g_linear j l)
  on_front (suc k) below j l =
      on_more f f_linear k j l
      ∙ same_add p (f (front v k) j) (g (front v k) j) (v k * f (unit k) j) (v k * g (unit k) j)
      (on_front k (omega arith) j l)
      (same_mul p (v k) (v k) (f (unit k) j) (g (unit k) j) refl (agree k (omega arith) j l))
      ∙ sym (on_more g g_linear k j l)

  -- the two maps agree on each vector
  pub agree_on_all : SameVector p m (f v) (g v)
  agree_on_all j l =
      let whole : SameVector p n v (front v n) = λ i b. ap (λ x. x % p) (sym (front_all v n i b)) in
      f_linear.respects v (front v n) whole j l ∙ on_front n (omega arith) j l
      ∙ sym (g_linear.respects v (front v n) whole j l)
