-- The module laws of polynomials, of moved modules and of sums.
use Rattle.std.proofs.Common.{◌≡◌, ℕ, suc, ◌+◌, ◌-◌, ◌*◌, ◌%◌, ◌<◌, ◌≤◌, Bool, true, false, cond, leb, leb-true, ltb, List, [], ◌∷◌, length, refl, sym, ap, ◌∙◌, inl, inr, arith}
use Rattle.std.specs.List.{All}
use Rattle.std.proofs.lemmas.Bool.{cases_Bool, cases_lt, cond-true, cond-false, lt-leb, le-leb, lt-ltb, le-ltb}
use Rattle.bmp_poly.specs.Exponents.{IsMonomial, place, exponents, zeros}
use Rattle.bmp_poly.proofs.PlaceLemmas.{exponents_stand, exponents-place, place_below, StandsAt}
use Rattle.bmp_math.specs.Vectors.{SameVector, IsLinear}
use Rattle.bmp_poly.specs.Shifts.{contains, less, joined}
use Rattle.bmp_graded.specs.Graded.{Graded, IsModule}
use Rattle.bmp_graded.specs.Modules.{polynomials, moved, nothing, both, copies, free, direct_sum}
use Rattle.bmp_poly.proofs.ShiftLemmas.{less_monomial, contains-joined, contains-joined_false, less-joined, contains-zeros, less-zeros}

-- a monomial in some variables is one in these and further ones, so a module over more variables is one over fewer
pub wider_monomial : (r r' k : ℕ) (m : List ℕ) → r ≤ r' → IsMonomial 6 r k m → IsMonomial 6 r' k m
wider_monomial r r' k m fewer is =
    record { long = is.long; size = is.size; past = λ i from. is.past i (omega (arith, fewer, from)) }

pub narrower_module : (p r r' : ℕ) (M : Graded) → r ≤ r' → IsModule p r' M → IsModule p r M
narrower_module p r r' M fewer laws = record {
  linear = λ m k d t is. laws.linear m k d t (wider_monomial r r' k m fewer is);
  one = laws.one;
  after = λ m n k h d t u v is_m is_n. laws.after m n k h d t u v (wider_monomial r r' k m fewer is_m)
      (wider_monomial r r' h n fewer is_n);
}

pub nothing_is_module : (p r : ℕ) → IsModule p r nothing
unfolding nothing
nothing_is_module p r = record {
  linear = λ m k d t is e. record {
    respects = λ u v h j l. absurd (omega arith);
    sums = λ u v j l. absurd (omega arith);
    multiples = λ c v j l. absurd (omega arith);
  };
  one = λ d v j l. absurd (omega arith);
  after = λ m n k h d t u v is_m is_n e f j l. absurd (omega arith);
}

pub shift-add : (b : Bool) (x y : ℕ) → cond b (x + y) 0 ≡ cond b x 0 + cond b y 0
shift-add b x y = elim b as (λ b. cond b (x + y) 0 ≡ cond b x 0 + cond b y 0) [ true ↦ refl | false ↦ refl ]

pub shift-mul : (b : Bool) (c x : ℕ) → cond b (c * x) 0 ≡ c * cond b x 0
shift-mul b c x = elim b as (λ b. cond b (c * x) 0 ≡ c * cond b x 0) [ true ↦ refl | false ↦ omega arith ]

pub polynomials_is_module : (p r : ℕ) → r ≤ 6 → IsModule p r (polynomials r)
unfolding polynomials
polynomials_is_module p r wide = record {
  linear = λ m k d t is e. record {
    respects = λ u v h j l.
        let stands : StandsAt 6 r t j (exponents 6 r t j) = exponents_stand 6 r t j wide l in
        elim (cases_Bool (contains (exponents 6 r t j) m)) [
          | inl fits ↦
              let rest : IsMonomial 6 r d (less (exponents 6 r t j) m) =
              less_monomial 6 r d k t (exponents 6 r t j) m stands.monomial is e fits in
              rw fits (h (place r (less (exponents 6 r t j) m))
              (place_below 6 r d (less (exponents 6 r t j) m) wide rest))
          | inr other ↦ rw other refl
        ];
    sums = λ u v j l. ap (λ z. z % p)
        (shift-add (contains (exponents 6 r t j) m) (u (place r (less (exponents 6 r t j) m)))
        (v (place r (less (exponents 6 r t j) m))));
    multiples = λ c v j l. ap (λ z. z % p)
        (shift-mul (contains (exponents 6 r t j) m) c (v (place r (less (exponents 6 r t j) m))));
  };
  one = λ d v j l.
      let stands : StandsAt 6 r d j (exponents 6 r d j) = exponents_stand 6 r d j wide l in
      let fits : contains (exponents 6 r d j) (zeros 6) ≡ true =
      ap (λ w. contains (exponents 6 r d j) (zeros w)) (sym stands.monomial.long)
      ∙ contains-zeros (exponents 6 r d j) in
      let same : less (exponents 6 r d j) (zeros 6) ≡ exponents 6 r d j =
      ap (λ w. less (exponents 6 r d j) (zeros w)) (sym stands.monomial.long) ∙ less-zeros (exponents 6 r d j) in
      ap (λ z. z % p) (cond-true {A = ℕ} (contains (exponents 6 r d j) (zeros 6))
      (v (place r (less (exponents 6 r d j) (zeros 6)))) 0 fits ∙ ap (λ z. v (place r z)) same
      ∙ ap v stands.place_is);
  after = λ m n k h d t u v is_m is_n e f j l.
      let stands : StandsAt 6 r u j (exponents 6 r u j) = exponents_stand 6 r u j wide l in
      let long_x : length (exponents 6 r u j) ≡ length n = stands.monomial.long ∙ sym is_n.long in
      let long_m : length m ≡ length n = is_m.long ∙ sym is_n.long in
      elim (cases_Bool (contains (exponents 6 r u j) n)) [
        | inl fits ↦
            let rest : IsMonomial 6 r t (less (exponents 6 r u j) n) =
            less_monomial 6 r t h u (exponents 6 r u j) n stands.monomial is_n f fits in
            rw (
              fits,
              exponents-place 6 r t (less (exponents 6 r u j) n) wide rest,
              contains-joined (exponents 6 r u j) m n long_x long_m fits,
              less-joined (exponents 6 r u j) m n long_x long_m,
            ) refl
        | inr other ↦ rw (other, contains-joined_false (exponents 6 r u j) m n long_x long_m other) refl
      ];
}

-- what acts on zeros gives zeros
pub linear_zero : (p n m : ℕ) (map : (ℕ → ℕ) → ℕ → ℕ) → IsLinear p n m map → (w : ℕ → ℕ) → SameVector p n w (λ j. 0) →
    SameVector p m (map w) (λ j. 0)
linear_zero p n m map linear w none j l =
    let zero_is : 0 * map w j ≡ 0 = omega arith in
    linear.respects w (λ i. 0 * w i) (λ i k. none i k ∙ ap (λ z. z % p) (nil (w i))) j l ∙ linear.multiples 0 w j l
    ∙ ap (λ z. z % p) zero_is
  where
    nil : (x : ℕ) → 0 ≡ 0 * x
    nil x = omega arith

-- a linear map or 0
pub cond_linear : (b : Bool) (p n m : ℕ) (f : (ℕ → ℕ) → ℕ → ℕ) → (b ≡ true → IsLinear p n m f) →
    IsLinear p (cond b n 0) m (λ u j. cond b (f u j) 0)
cond_linear true p n m f inner = inner refl
cond_linear false p n m f inner =
    record { respects = λ u v h j l. refl; sums = λ u v j l. refl; multiples = λ c v j l. ap (λ z. z % p) (none c) }
  where
    none : (c : ℕ) → 0 ≡ c * 0
    none c = omega arith

-- two linear maps, one on each part of a vector
pub both_linear : (p n n' m m' : ℕ) (f g : (ℕ → ℕ) → ℕ → ℕ) → IsLinear p n m f → IsLinear p n' m' g →
    IsLinear p (n + n') (m + m') (λ u j. cond (ltb j m) (f u j) (g (λ i. u (n + i)) (j - m)))
both_linear p n n' m m' f g F G = record {
  respects = λ u v h j l. elim (cases_lt j m) [
    | inl first ↦ rw (lt-ltb j m first) (F.respects u v (λ i k. h i (omega arith)) j first)
    | inr second ↦ rw (le-ltb j m second)
        (G.respects (λ i. u (n + i)) (λ i. v (n + i)) (λ i k. h (n + i) (omega arith)) (j - m) (omega arith))
  ];
  sums = λ u v j l. elim (cases_lt j m) [
    | inl first ↦ rw (lt-ltb j m first) (F.sums u v j first)
    | inr second ↦ rw (le-ltb j m second) (G.sums (λ i. u (n + i)) (λ i. v (n + i)) (j - m) (omega arith))
  ];
  multiples = λ c v j l. elim (cases_lt j m) [
    | inl first ↦ rw (lt-ltb j m first) (F.multiples c v j first)
    | inr second ↦ rw (le-ltb j m second) (G.multiples c (λ i. v (n + i)) (j - m) (omega arith))
  ];
}

pub moved_is_module : (p r g : ℕ) (M : Graded) → IsModule p r M → IsModule p r (moved g M)
unfolding moved
moved_is_module p r g M laws = record {
  linear = λ m k d t is e. cond_linear (leb g d) p (M.dim (d - g)) (cond (leb g t) (M.dim (t - g)) 0)
      (M.act m (d - g) (t - g)) (λ on.
      let from : g ≤ d = leb-true g d on in
      let on_t : leb g t ≡ true = le-leb g t (omega arith) in
      rw on_t (laws.linear m k (d - g) (t - g) is (omega arith)));
  one = λ d v. elim (cases_lt d g) [
    | inl before ↦ let off : leb g d ≡ false = lt-leb g d before in
        λ j l. absurd (let none = rw off at l in omega arith)
    | inr from ↦ let on : leb g d ≡ true = le-leb g d from in λ j l. rw on (laws.one (d - g) v j (rw on at l))
  ];
  after = λ m n k h d t u v is_m is_n e f j l. elim (cases_lt t g) [
    | inl before ↦
        let off_t : leb g t ≡ false = lt-leb g t before in
        let off_d : leb g d ≡ false = lt-leb g d (omega arith) in
        rw (off_t, off_d) refl
    | inr from ↦
        let on_t : leb g t ≡ true = le-leb g t from in
        let on_u : leb g u ≡ true = le-leb g u (omega arith) in
        let here : j < M.dim (u - g) = rw on_u at l in
        let outer : IsLinear p (M.dim (t - g)) (M.dim (u - g)) (M.act n (t - g) (u - g)) =
        laws.linear n h (t - g) (u - g) is_n (omega arith) in
        elim (cases_lt d g) [
          | inl early ↦
              let off_d : leb g d ≡ false = lt-leb g d early in
              rw on_t (linear_zero p (M.dim (t - g)) (M.dim (u - g)) (M.act n (t - g) (u - g)) outer
              (λ i. cond (leb g d) (M.act m (d - g) (t - g) v i) 0)
              (λ i k. ap (λ z. z % p) (cond-false {A = ℕ} (leb g d) (M.act m (d - g) (t - g) v i) 0 off_d)) j here
              ∙ ap (λ z. z % p) (sym (cond-false {A = ℕ} (leb g d) (M.act (joined m n) (d - g) (u - g) v j) 0 off_d)))
          | inr late ↦
              let on_d : leb g d ≡ true = le-leb g d late in
              rw on_t (outer.respects (λ i. cond (leb g d) (M.act m (d - g) (t - g) v i) 0) (M.act m (d - g) (t - g) v)
              (λ i k. ap (λ z. z % p) (cond-true {A = ℕ} (leb g d) (M.act m (d - g) (t - g) v i) 0 on_d)) j here
              ∙ laws.after m n k h (d - g) (t - g) (u - g) v is_m is_n (omega arith) (omega arith) j here
              ∙ ap (λ z. z % p) (sym (cond-true {A = ℕ} (leb g d) (M.act (joined m n) (d - g) (u - g) v j) 0 on_d)))
        ]
  ];
}

pub both_is_module : (p r : ℕ) (A B : Graded) → IsModule p r A → IsModule p r B → IsModule p r (both A B)
unfolding both
both_is_module p r A B a b = record {
  linear = λ m k d t is e. both_linear p (A.dim d) (B.dim d) (A.dim t) (B.dim t) (A.act m d t) (B.act m d t)
      (a.linear m k d t is e) (b.linear m k d t is e);
  one = λ d v j l. elim (cases_lt j (A.dim d)) [
    | inl first ↦ rw (lt-ltb j (A.dim d) first) (a.one d v j first)
    | inr second ↦ let back : A.dim d + (j - A.dim d) ≡ j = omega arith in
        rw (le-ltb j (A.dim d) second) (b.one d (λ i. v (A.dim d + i)) (j - A.dim d) (omega arith)
        ∙ ap (λ i. v i % p) back)
  ];
  after = λ m n k h d t u v is_m is_n e f j l.
      let out_a : IsLinear p (A.dim t) (A.dim u) (A.act n t u) = a.linear n h t u is_n f in
      let out_b : IsLinear p (B.dim t) (B.dim u) (B.act n t u) = b.linear n h t u is_n f in
      elim (cases_lt j (A.dim u)) [
        | inl first ↦
            rw (lt-ltb j (A.dim u) first)
            (out_a.respects (λ i. cond (ltb i (A.dim t)) (A.act m d t v i)
            (B.act m d t (λ i. v (A.dim d + i)) (i - A.dim t))) (A.act m d t v)
            (λ i below. ap (λ z. z % p)
            (cond-true {A = ℕ} (ltb i (A.dim t)) (A.act m d t v i)
            (B.act m d t (λ i. v (A.dim d + i)) (i - A.dim t)) (lt-ltb i (A.dim t) below))) j first
            ∙ a.after m n k h d t u v is_m is_n e f j first)
        | inr second ↦
            rw (le-ltb j (A.dim u) second)
            (out_b.respects (λ i. cond (ltb (A.dim t + i) (A.dim t)) (A.act m d t v (A.dim t + i))
            (B.act m d t (λ i. v (A.dim d + i)) ((A.dim t + i) - A.dim t))) (B.act m d t (λ i. v (A.dim d + i)))
            (λ i below. let back : (A.dim t + i) - A.dim t ≡ i = omega arith in
            ap (λ z. z % p) (cond-false {A = ℕ} (ltb (A.dim t + i) (A.dim t)) (A.act m d t v (A.dim t + i))
            (B.act m d t (λ i. v (A.dim d + i)) ((A.dim t + i) - A.dim t))
            (le-ltb (A.dim t + i) (A.dim t) (omega arith)) ∙ ap (B.act m d t (λ i. v (A.dim d + i))) back))
            (j - A.dim u) (omega arith)
            ∙ b.after m n k h d t u (λ i. v (A.dim d + i)) is_m is_n e f (j - A.dim u) (omega arith))
      ];
}

pub copies_is_module : (p r : ℕ) (X : Graded) (degrees : List ℕ) → IsModule p r X → IsModule p r (copies X degrees)
unfolding copies
copies_is_module p r X [] laws = nothing_is_module p r
copies_is_module p r X (g ∷ gs) laws =
    both_is_module p r (moved g X) (copies X gs) (moved_is_module p r g X laws) (copies_is_module p r X gs laws)

pub free_is_module : (p r : ℕ) (degrees : List ℕ) → r ≤ 6 → IsModule p r (free r degrees)
free_is_module p r degrees wide = copies_is_module p r (polynomials r) degrees (polynomials_is_module p r wide)

pub direct_sum_is_module : (p r : ℕ) (Ms : List Graded) → All (IsModule p r) Ms → IsModule p r (direct_sum Ms)
unfolding direct_sum
direct_sum_is_module p r [] laws = nothing_is_module p r
direct_sum_is_module p r (M ∷ Ms) laws =
    let some : 0 < suc (length Ms) = omega arith in
    both_is_module p r M (direct_sum Ms) (laws 0 M some)
    (direct_sum_is_module p r Ms (λ k d l. let below : suc k < suc (length Ms) = omega arith in
    laws (suc k) d below))
