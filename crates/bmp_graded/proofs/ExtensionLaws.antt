-- A polynomial times an element: a monomial may be taken out.
use Rattle.std.proofs.Common.{◌≡◌, ℕ, zero, suc, ◌+◌, ◌*◌, ◌%◌, ◌<◌, ◌≤◌, true, cond, eqb, List, length, refl, sym, ap, ◌∙◌, inl, inr, arith, eq-eqb, ne_eqb}
use Rattle.std.proofs.lemmas.Bool.{cases_Bool, cond-true, cond-false, both_ways}
use Rattle.bmp_math.specs.Sums.{sum_below}
use Rattle.bmp_math.proofs.CongruenceLemmas.{same_add, same_mul}
use Rattle.bmp_math.proofs.SumLemmas.{sum_below_same, sum_below-zeros, sum_below-mul, sum_below-swap, sum_below_only, sum_same_mod}
use Rattle.bmp_poly.specs.Exponents.{IsMonomial, count, place, exponents}
use Rattle.bmp_poly.proofs.PlaceLemmas.{exponents_stand, exponents-place, place_below, StandsAt}
use Rattle.bmp_poly.proofs.MonomialLemmas.{same_place}
use Rattle.bmp_math.specs.Vectors.{SameVector, IsLinear}
use Rattle.bmp_poly.specs.Shifts.{contains, less, joined, shift}
use Rattle.bmp_poly.proofs.ShiftLemmas.{less_monomial, joined_monomial, less-of_joined, contains-of_joined, joined-less}
use Rattle.bmp_poly.proofs.ProductLemmas.{joined-comm}
use Rattle.bmp_graded.specs.Graded.{Graded, IsModule}
use Rattle.bmp_graded.specs.Modules.{polynomials}
use Rattle.bmp_graded.proofs.GradedLemmas.{linear_zero}

contains_own : (x m : List ℕ) → length x ≡ length m → contains (joined x m) m ≡ true
contains_own x m l = ap (λ z. contains z m) (joined-comm x m) ∙ contains-of_joined m x (sym l)

less_own : (x m : List ℕ) → length x ≡ length m → less (joined x m) m ≡ x
less_own x m l = ap (λ z. less z m) (joined-comm x m) ∙ less-of_joined m x (sym l)

pub linear_sum : (p n m : ℕ) (map : (ℕ → ℕ) → ℕ → ℕ) → IsLinear p n m map → (u : ℕ → ℕ) (f : ℕ → ℕ → ℕ) (k : ℕ) →
    SameVector p m (map (λ j. sum_below (λ i. u i * f i j) k)) (λ j. sum_below (λ i. u i * map (f i) j) k)
unfolding sum_below
linear_sum p n m map linear u f zero j l = linear_zero p n m map linear (λ j. 0) (λ j k. refl) j l
linear_sum p n m map linear u f (suc k) j l =
    linear.sums (λ j. sum_below (λ i. u i * f i j) k) (λ j. u k * f k j) j l
    ∙ same_add p (map (λ j. sum_below (λ i. u i * f i j) k) j) (sum_below (λ i. u i * map (f i) j) k)
    (map (λ j. u k * f k j) j) (u k * map (f k) j) (linear_sum p n m map linear u f k j l)
    (linear.multiples (u k) (f k) j l)

module _ (r d k t : ℕ) (m : List ℕ) (wide : r ≤ 6) (is : IsMonomial 6 r k m) (total : d + k ≡ t) where
  stands : (i : ℕ) → i < count r d → StandsAt 6 r d i (exponents 6 r d i)
  stands i l = exponents_stand 6 r d i wide l

  up : (i : ℕ) → i < count r d → IsMonomial 6 r t (joined (exponents 6 r d i) m)
  up i l = let h = joined_monomial 6 r d k (exponents 6 r d i) m (stands i l).monomial is in
      record { long = h.long; size = h.size ∙ total; past = h.past }

  -- the place of the i-th monomial times m
  unfoldable pub at : ℕ → ℕ
  at i = place r (joined (exponents 6 r d i) m)

  -- a number of a shifted polynomial, as a sum over the polynomial's own places
  pub spread : (u : ℕ → ℕ) (j : ℕ) → j < count r t → shift m (λ e. u (place r e)) (exponents 6 r t j)
      ≡ sum_below (λ i. u i * cond (eqb (at i) j) 1 0) (count r d)
  unfolding at
  spread u j l =
      let there : StandsAt 6 r t j (exponents 6 r t j) = exponents_stand 6 r t j wide l in
      let same : length (exponents 6 r t j) ≡ length m = there.monomial.long ∙ sym is.long in
      elim (cases_Bool (contains (exponents 6 r t j) m)) [
        | inl fits ↦
            let x = less (exponents 6 r t j) m in
            let is_x : IsMonomial 6 r d (less (exponents 6 r t j) m) =
            less_monomial 6 r d k t (exponents 6 r t j) m there.monomial is total fits in
            let i = place r (less (exponents 6 r t j) m) in
            let below : place r (less (exponents 6 r t j) m) < count r d =
            place_below 6 r d (less (exponents 6 r t j) m) wide is_x in
            let here : at (place r (less (exponents 6 r t j) m)) ≡ j =
            ap (λ z. place r (joined z m)) (exponents-place 6 r d (less (exponents 6 r t j) m) wide is_x)
            ∙ ap (place r) (joined-comm (less (exponents 6 r t j) m) m
            ∙ joined-less (exponents 6 r t j) m same fits) ∙ there.place_is in
            cond-true {A = ℕ} (contains (exponents 6 r t j) m) (u (place r (less (exponents 6 r t j) m))) 0 fits
            ∙ sym (sum_below_only (λ i. u i * cond (eqb (at i) j) 1 0) (count r d)
            (place r (less (exponents 6 r t j) m)) below
            (λ i li other. times_none (u i) (at i) j
            (λ e. other (sym (stands i li).place_is
            ∙ ap (place r) (sym (less_own (exponents 6 r d i) m ((stands i li).monomial.long ∙ sym is.long))
            ∙ ap (λ z. less z m) (meets i li e)))))
            ∙ times_one (u (place r (less (exponents 6 r t j) m))) (at (place r (less (exponents 6 r t j) m))) j here)
        | inr other ↦
            cond-false {A = ℕ} (contains (exponents 6 r t j) m) (u (place r (less (exponents 6 r t j) m))) 0 other
            ∙ sym (sum_below_same (λ i. u i * cond (eqb (at i) j) 1 0) (λ i. 0) (count r d)
            (λ i li. times_none (u i) (at i) j
            (λ e. both_ways (contains (exponents 6 r t j) m) other (ap (λ z. contains z m) (sym (meets i li e))
            ∙ contains_own (exponents 6 r d i) m ((stands i li).monomial.long ∙ sym is.long))))
            ∙ sum_below-zeros (count r d))
      ]
    where
      times_one : (x a b : ℕ) → a ≡ b → x * cond (eqb a b) 1 0 ≡ x
      times_one x a b e = let one : cond (eqb a b) 1 0 ≡ 1 = cond-true {A = ℕ} (eqb a b) 1 0 (eq-eqb a b e) in
          rw one (omega arith)

      times_none : (x a b : ℕ) → (a ≡ b → ⊥) → x * cond (eqb a b) 1 0 ≡ 0
      times_none x a b e = let none : cond (eqb a b) 1 0 ≡ 0 = cond-false {A = ℕ} (eqb a b) 1 0 (ne_eqb a b e) in
          rw none (omega arith)

      meets : (i : ℕ) → i < count r d → at i ≡ j → joined (exponents 6 r d i) m ≡ exponents 6 r t j
      meets i li e = let there : StandsAt 6 r t j (exponents 6 r t j) = exponents_stand 6 r t j wide l in
          same_place 6 r t (joined (exponents 6 r d i) m) (exponents 6 r t j) wide (up i li) there.monomial
          (e ∙ sym there.place_is)

  at_below : (i : ℕ) → i < count r d → at i < count r t
  unfolding at
  at_below i l = place_below 6 r t (joined (exponents 6 r d i) m) wide (up i l)

  -- the sum over the shifted polynomial's places is one over the polynomial's own
  gathered : (u X : ℕ → ℕ) → sum_below (λ j. shift m (λ e. u (place r e)) (exponents 6 r t j) * X j) (count r t)
      ≡ sum_below (λ i. u i * X (at i)) (count r d)
  gathered u X =
      sum_below_same (λ j. shift m (λ e. u (place r e)) (exponents 6 r t j) * X j)
      (λ j. sum_below (λ i. X j * (u i * cond (eqb (at i) j) 1 0)) (count r d)) (count r t)
      (λ j l. ap (λ z. z * X j) (spread u j l) ∙ turn (sum_below (λ i. u i * cond (eqb (at i) j) 1 0) (count r d)) (X j)
      ∙ sym (sum_below-mul (X j) (λ i. u i * cond (eqb (at i) j) 1 0) (count r d)))
      ∙ sum_below-swap (λ j i. X j * (u i * cond (eqb (at i) j) 1 0)) (count r t) (count r d)
      ∙ sum_below_same (λ i. sum_below (λ j. X j * (u i * cond (eqb (at i) j) 1 0)) (count r t)) (λ i. u i * X (at i))
      (count r d)
      (λ i l. sum_below_only (λ j. X j * (u i * cond (eqb (at i) j) 1 0)) (count r t) (at i) (at_below i l)
      (λ j lj other. gone (X j) (u i) (cond (eqb (at i) j) 1 0)
      (cond-false {A = ℕ} (eqb (at i) j) 1 0 (ne_eqb (at i) j (λ e. other (sym e)))))
      ∙ stays (X (at i)) (u i) (cond (eqb (at i) (at i)) 1 0)
      (cond-true {A = ℕ} (eqb (at i) (at i)) 1 0 (eq-eqb (at i) (at i) refl)))
    where
      turn : (x y : ℕ) → x * y ≡ y * x
      turn x y = omega arith

      gone : (x y z : ℕ) → z ≡ 0 → x * (y * z) ≡ 0
      gone x y z e = rw e (omega arith)

      stays : (x y z : ℕ) → z ≡ 1 → x * (y * z) ≡ y * x
      stays x y z e = rw e (omega arith)

  at_is : (i : ℕ) → i < count r d → exponents 6 r t (at i) ≡ joined (exponents 6 r d i) m
  unfolding at
  at_is i l = exponents-place 6 r t (joined (exponents 6 r d i) m) wide (up i l)

  -- a monomial times a multiple is the multiple by the shifted polynomial
  pub multiple_acts : (p g : ℕ) (M : Graded) → IsModule p r M → (w u : ℕ → ℕ) →
      SameVector p (M.dim (g + t))
      (λ j. sum_below (λ i. (polynomials r).act m d t u i * M.act (exponents 6 r t i) g (g + t) w j) (count r t))
      (M.act m (g + d) (g + t) (λ j. sum_below (λ i. u i * M.act (exponents 6 r d i) g (g + d) w j) (count r d)))
  unfolding polynomials
  multiple_acts p g M laws w u j l =
      let degrees : (g + d) + k ≡ g + t = omega arith in
      ap (λ z. z % p) (gathered u (λ i. M.act (exponents 6 r t i) g (g + t) w j))
      ∙ sum_same_mod p (λ i. u i * M.act (exponents 6 r t (at i)) g (g + t) w j)
      (λ i. u i * M.act m (g + d) (g + t) (M.act (exponents 6 r d i) g (g + d) w) j) (count r d)
      (λ i li. same_mul p (u i) (u i) (M.act (exponents 6 r t (at i)) g (g + t) w j)
      (M.act m (g + d) (g + t) (M.act (exponents 6 r d i) g (g + d) w) j) refl
      (ap (λ z. M.act z g (g + t) w j % p) (at_is i li)
      ∙ sym (laws.after (exponents 6 r d i) m d k g (g + d) (g + t) w (stands i li).monomial is refl degrees j l)))
      ∙ sym (linear_sum p (M.dim (g + d)) (M.dim (g + t)) (M.act m (g + d) (g + t))
      (laws.linear m k (g + d) (g + t) is degrees) u (λ i. M.act (exponents 6 r d i) g (g + d) w) (count r d) j l)
