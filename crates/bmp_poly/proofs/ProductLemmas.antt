-- Products as sums over pairs of monomials, which are symmetric.
use Rattle.std.proofs.Common.{◌≡◌, ◌≢◌, ℕ, zero, suc, ◌+◌, ◌*◌, ◌<◌, ◌≤◌, true, eqb, cond, List, [], ◌∷◌, length, refl, sym, ap, ap₂, ◌∙◌, inl, inr, arith, eq-eqb, ne_eqb}
use Rattle.std.proofs.lemmas.Bool.{cases_lt, cases_Bool, cond-true, cond-false, both_ways}
use Rattle.bmp_math.specs.Sums.{sum_below}
use Rattle.bmp_math.proofs.SumLemmas.{sum_below-zero, sum_below-suc, sum_below_same, sum_below-mul, sum_below-zeros, sum_below-swap, sum_below_only}
use Rattle.bmp_poly.specs.Exponents.{IsMonomial, count, place, exponents, zeros}
use Rattle.bmp_poly.specs.Forms.{Form, unit_form}
use Rattle.bmp_poly.specs.Shifts.{contains, less, joined, shift}
use Rattle.bmp_poly.specs.Products.{product}
use Rattle.bmp_poly.proofs.PlaceLemmas.{place_below, exponents_stand, exponents-place, StandsAt, all_zeros}
use Rattle.bmp_poly.proofs.MonomialLemmas.{same_place, exponent_le}
use Rattle.bmp_poly.proofs.ShiftLemmas.{joined_monomial, less_monomial, less-of_joined, contains-of_joined, joined-less, contains-zeros, less-zeros, contains-joined, contains-joined_false, less-joined}

pub joined-comm : (m n : List ℕ) → joined m n ≡ joined n m
unfolding joined
joined-comm [] [] = refl
joined-comm [] (y ∷ n) = refl
joined-comm (x ∷ m) [] = refl
joined-comm (x ∷ m) (y ∷ n) = let first : x + y ≡ y + x = omega arith in
    ap₂ (λ (a : ℕ) (b : List ℕ). a ∷ b) first (joined-comm m n)

-- a shift as a sum over the monomials of the shifted polynomial
module _ (r d e : ℕ) (rank : r ≤ 6) (f h : List ℕ) (is_f : IsMonomial 6 r d f) (is_h : IsMonomial 6 r (d + e) h)
    (b : Form) where
  abbrev term : ℕ → ℕ
  term j = b (exponents 6 r e j) * unit_form r h (joined f (exponents 6 r e j))

  no_term : (j : ℕ) → place r (joined f (exponents 6 r e j)) ≢ place r h → term j ≡ 0
  no_term j other =
      ap (λ z. b (exponents 6 r e j) * z)
      (cond-false {A = ℕ} (eqb (place r (joined f (exponents 6 r e j))) (place r h)) 1 0
      (ne_eqb (place r (joined f (exponents 6 r e j))) (place r h) other)) ∙ omega arith

  one_term : (j : ℕ) → place r (joined f (exponents 6 r e j)) ≡ place r h → term j ≡ b (exponents 6 r e j)
  one_term j same =
      ap (λ z. b (exponents 6 r e j) * z)
      (cond-true {A = ℕ} (eqb (place r (joined f (exponents 6 r e j))) (place r h)) 1 0
      (eq-eqb (place r (joined f (exponents 6 r e j))) (place r h) same)) ∙ omega arith

  -- where the product is h, the other factor is the quotient
  quotient_is : (j : ℕ) → j < count r e → place r (joined f (exponents 6 r e j)) ≡ place r h → (contains h f ≡ true) ×
      (exponents 6 r e j ≡ less h f)
  quotient_is j below same =
      let stands : StandsAt 6 r e j (exponents 6 r e j) = exponents_stand 6 r e j rank below in
      let sizes : length f ≡ length (exponents 6 r e j) = is_f.long ∙ sym stands.monomial.long in
      let whole : joined f (exponents 6 r e j) ≡ h =
      same_place 6 r (d + e) (joined f (exponents 6 r e j)) h rank
      (joined_monomial 6 r d e f (exponents 6 r e j) is_f stands.monomial) is_h same in (
        ap (λ z. contains z f) (sym whole) ∙ contains-of_joined f (exponents 6 r e j) sizes,
        sym (less-of_joined f (exponents 6 r e j) sizes) ∙ ap (λ z. less z f) whole,
      )

  pub shift-sum : sum_below (λ j. b (exponents 6 r e j) * unit_form r h (joined f (exponents 6 r e j))) (count r e)
      ≡ shift f b h
  shift-sum =
      elim (cases_Bool (contains h f)) [
        | inl held ↦
            let total : e + d ≡ d + e = omega arith in
            let quotient : IsMonomial 6 r e (less h f) = less_monomial 6 r e d (d + e) h f is_h is_f total held in
            let below : place r (less h f) < count r e = place_below 6 r e (less h f) rank quotient in
            let at : exponents 6 r e (place r (less h f)) ≡ less h f = exponents-place 6 r e (less h f) rank quotient in
            let whole : joined f (less h f) ≡ h = joined-less h f (is_h.long ∙ sym is_f.long) held in
            sum_below_only term (count r e) (place r (less h f)) below (λ j l other. no_term j (λ same.
            let q = quotient_is j l same in
            let stands : StandsAt 6 r e j (exponents 6 r e j) = exponents_stand 6 r e j rank l in
            other (sym stands.place_is ∙ ap (place r) q.1)))
            ∙ one_term (place r (less h f)) (ap (λ z. place r (joined f z)) at ∙ ap (place r) whole)
            ∙ ap b at
            ∙ sym (cond-true {A = ℕ} (contains h f) (b (less h f)) 0 held)
        | inr lacking ↦
            sum_below_same term (λ j. 0) (count r e)
            (λ j l. no_term j (λ same. absurd (both_ways (contains h f) lacking (quotient_is j l same).0)))
            ∙ sum_below-zeros (count r e)
            ∙ sym (cond-false {A = ℕ} (contains h f) (b (less h f)) 0 lacking)
      ]

-- a product as a sum over pairs
product-pairs : (r d e : ℕ) (a b : Form) (h : List ℕ) → r ≤ 6 → IsMonomial 6 r (d + e) h →
    product 6 r d a b h
    ≡ sum_below (λ i. sum_below
    (λ j. a (exponents 6 r d i)
    * (b (exponents 6 r e j) * unit_form r h (joined (exponents 6 r d i) (exponents 6 r e j)))) (count r e)) (count r d)
unfolding product
product-pairs r d e a b h rank is =
    sum_below_same (λ i. a (exponents 6 r d i) * shift (exponents 6 r d i) b h)
    (λ i. sum_below (λ j. a (exponents 6 r d i)
    * (b (exponents 6 r e j) * unit_form r h (joined (exponents 6 r d i) (exponents 6 r e j)))) (count r e))
    (count r d)
    (λ i below.
    let stands : StandsAt 6 r d i (exponents 6 r d i) = exponents_stand 6 r d i rank below in
    ap (λ z. a (exponents 6 r d i) * z) (sym (shift-sum r d e rank (exponents 6 r d i) h stands.monomial is b))
    ∙ sym (sum_below-mul (a (exponents 6 r d i))
    (λ j. b (exponents 6 r e j) * unit_form r h (joined (exponents 6 r d i) (exponents 6 r e j))) (count r e)))

pub product-comm : (r d e : ℕ) (a b : Form) (h : List ℕ) → r ≤ 6 → IsMonomial 6 r (d + e) h →
    product 6 r d a b h ≡ product 6 r e b a h
product-comm r d e a b h rank is =
    let total : d + e ≡ e + d = omega arith in
    let turned : IsMonomial 6 r (e + d) h = record { long = is.long; size = is.size ∙ total; past = is.past } in
    product-pairs r d e a b h rank is
    ∙ sum_below-swap (λ i j. a (exponents 6 r d i)
    * (b (exponents 6 r e j) * unit_form r h (joined (exponents 6 r d i) (exponents 6 r e j)))) (count r d)
    (count r e)
    ∙ sum_below_same (λ j. sum_below
    (λ i. a (exponents 6 r d i)
    * (b (exponents 6 r e j) * unit_form r h (joined (exponents 6 r d i) (exponents 6 r e j)))) (count r d))
    (λ j. sum_below (λ i. b (exponents 6 r e j)
    * (a (exponents 6 r d i) * unit_form r h (joined (exponents 6 r e j) (exponents 6 r d i)))) (count r d))
    (count r e)
    (λ j l. sum_below_same
    (λ i. a (exponents 6 r d i)
    * (b (exponents 6 r e j) * unit_form r h (joined (exponents 6 r d i) (exponents 6 r e j))))
    (λ i. b (exponents 6 r e j)
    * (a (exponents 6 r d i) * unit_form r h (joined (exponents 6 r e j) (exponents 6 r d i)))) (count r d)
    (λ i k. exchanged (a (exponents 6 r d i)) (b (exponents 6 r e j))
    (unit_form r h (joined (exponents 6 r d i) (exponents 6 r e j)))
    (unit_form r h (joined (exponents 6 r e j) (exponents 6 r d i)))
    (ap (unit_form r h) (joined-comm (exponents 6 r d i) (exponents 6 r e j)))))
    ∙ sym (product-pairs r e d b a h rank turned)
  where
    exchanged : (x y z t : ℕ) → z ≡ t → x * (y * z) ≡ y * (x * t)
    exchanged x y z t same = rw same (omega arith)

-- the only monomial of degree 0 is 1
count-constant : (r : ℕ) → count r 0 ≡ 1
unfolding count
count-constant zero = refl
count-constant (suc r) = omega (arith, sum_below-suc (count r) 0, sum_below-zero (count r), count-constant r)

pub constant_is_one : (r : ℕ) (m : List ℕ) → r ≤ 6 → IsMonomial 6 r 0 m → m ≡ zeros 6
constant_is_one r m rank is =
    all_zeros m (λ k. elim (cases_lt k r)
    [ inl below ↦ omega (arith, exponent_le 6 r 0 k m rank below is) | inr past ↦ is.past k past ]) ∙ ap zeros is.long

shift-one : (a : Form) (h : List ℕ) → length h ≡ 6 → shift (zeros 6) a h ≡ a h
shift-one a h long =
    let same : zeros (length h) ≡ zeros 6 = ap zeros long in
    let held : contains h (zeros 6) ≡ true = ap (contains h) (sym same) ∙ contains-zeros h in
    cond-true {A = ℕ} (contains h (zeros 6)) (a (less h (zeros 6))) 0 held
    ∙ ap a (ap (less h) (sym same) ∙ less-zeros h)

pub product-one : (r d : ℕ) (a : Form) (h : List ℕ) → r ≤ 6 → IsMonomial 6 r d h → product 6 r 0 (λ m. 1) a h ≡ a h
unfolding product
product-one r d a h rank is =
    let counted : count r 0 ≡ 1 = count-constant r in
    let stands : StandsAt 6 r 0 0 (exponents 6 r 0 0) = exponents_stand 6 r 0 0 rank (omega arith) in
    let term : shift (exponents 6 r 0 0) a h ≡ a h =
    ap (λ m. shift m a h) (constant_is_one r (exponents 6 r 0 0) rank stands.monomial) ∙ shift-one a h is.long in
    ap (sum_below (λ i. 1 * shift (exponents 6 r 0 i) a h)) counted
    ∙ sum_below-suc (λ i. 1 * shift (exponents 6 r 0 i) a h) 0
    ∙ omega (arith, sum_below-zero (λ i. 1 * shift (exponents 6 r 0 i) a h), term)

-- a shift by a product is two shifts
shift-joined : (f g h : List ℕ) (c : Form) → length h ≡ length f → length g ≡ length f →
    shift (joined f g) c h ≡ shift f (shift g c) h
shift-joined f g h c long same =
    ap (λ m. shift m c h) (joined-comm f g)
    ∙ elim (cases_Bool (contains h f)) [
      | inl held ↦
          ap₂ (λ s m. cond s (c m) 0) (contains-joined h g f long same held) (less-joined h g f long same)
          ∙ sym (cond-true {A = ℕ} (contains h f) (shift g c (less h f)) 0 held)
      | inr lacking ↦
          cond-false {A = ℕ} (contains h (joined g f)) (c (less h (joined g f))) 0
          (contains-joined_false h g f long same lacking)
          ∙ sym (cond-false {A = ℕ} (contains h f) (shift g c (less h f)) 0 lacking)
    ]

-- a sum over the monomials of a degree that only one of them meets
sum_at_monomial : (r d : ℕ) (y : List ℕ) (g : List ℕ → ℕ) → r ≤ 6 → IsMonomial 6 r d y →
    sum_below (λ x. unit_form r (exponents 6 r d x) y * g (exponents 6 r d x)) (count r d) ≡ g y
sum_at_monomial r d y g rank is =
    let below : place r y < count r d = place_below 6 r d y rank is in
    let at : exponents 6 r d (place r y) ≡ y = exponents-place 6 r d y rank is in
    sum_below_only (λ x. unit_form r (exponents 6 r d x) y * g (exponents 6 r d x)) (count r d) (place r y) below
    (λ x l other.
    let stands : StandsAt 6 r d x (exponents 6 r d x) = exponents_stand 6 r d x rank l in
    let apart : place r y ≢ place r (exponents 6 r d x) = λ q. other (sym (q ∙ stands.place_is)) in
    ap (λ z. z * g (exponents 6 r d x))
    (cond-false {A = ℕ} (eqb (place r y) (place r (exponents 6 r d x))) 1 0
    (ne_eqb (place r y) (place r (exponents 6 r d x)) apart)) ∙ omega arith)
    ∙ ap (λ z. z * g (exponents 6 r d (place r y)))
    (cond-true {A = ℕ} (eqb (place r y) (place r (exponents 6 r d (place r y)))) 1 0
    (eq-eqb (place r y) (place r (exponents 6 r d (place r y))) (ap (place r) (sym at))))
    ∙ one_times (g (exponents 6 r d (place r y)))
    ∙ ap g at
  where
    one_times : (x : ℕ) → 1 * x ≡ x
    one_times x = omega arith

-- a number times a sum goes into each term
times_sum : (u v : ℕ → ℕ) (z n : ℕ) → sum_below (λ j. u j * v j) n * z ≡ sum_below (λ j. u j * (v j * z)) n
times_sum u v z n =
    turned (sum_below (λ j. u j * v j) n) z
    ∙ sym (sum_below-mul z (λ j. u j * v j) n)
    ∙ sum_below_same (λ j. z * (u j * v j)) (λ j. u j * (v j * z)) n (λ j l. moved z (u j) (v j))
  where
    turned : (x y : ℕ) → x * y ≡ y * x
    turned x y = omega arith

    moved : (z u v : ℕ) → z * (u * v) ≡ u * (v * z)
    moved z u v = omega arith

-- a shifted factor shifts the product
pub product-shift : (r d e : ℕ) (f h : List ℕ) (b c : Form) → r ≤ 6 → IsMonomial 6 r d f → length h ≡ 6 →
    product 6 r (d + e) (shift f b) c h ≡ shift f (product 6 r e b c) h
unfolding product
product-shift r d e f h b c rank is_f long =
    sum_below_same (λ x. shift f b (exponents 6 r (d + e) x) * shift (exponents 6 r (d + e) x) c h)
    (λ x. sum_below (λ j. b (exponents 6 r e j)
    * (unit_form r (exponents 6 r (d + e) x) (joined f (exponents 6 r e j)) * shift (exponents 6 r (d + e) x) c h))
    (count r e)) (count r (d + e))
    (λ x l.
    let stands : StandsAt 6 r (d + e) x (exponents 6 r (d + e) x) = exponents_stand 6 r (d + e) x rank l in
    ap (λ z. z * shift (exponents 6 r (d + e) x) c h)
    (sym (shift-sum r d e rank f (exponents 6 r (d + e) x) is_f stands.monomial b))
    ∙ times_sum (λ j. b (exponents 6 r e j)) (λ j. unit_form r (exponents 6 r (d + e) x) (joined f (exponents 6 r e j)))
    (shift (exponents 6 r (d + e) x) c h) (count r e))
    ∙ sum_below-swap (λ x j. b (exponents 6 r e j)
    * (unit_form r (exponents 6 r (d + e) x) (joined f (exponents 6 r e j)) * shift (exponents 6 r (d + e) x) c h))
    (count r (d + e)) (count r e)
    ∙ sum_below_same (λ j. sum_below
    (λ x. b (exponents 6 r e j)
    * (unit_form r (exponents 6 r (d + e) x) (joined f (exponents 6 r e j)) * shift (exponents 6 r (d + e) x) c h))
    (count r (d + e))) (λ j. b (exponents 6 r e j) * shift f (shift (exponents 6 r e j) c) h) (count r e)
    (λ j l.
    let stands : StandsAt 6 r e j (exponents 6 r e j) = exponents_stand 6 r e j rank l in
    sum_below-mul (b (exponents 6 r e j))
    (λ x. unit_form r (exponents 6 r (d + e) x) (joined f (exponents 6 r e j)) * shift (exponents 6 r (d + e) x) c
    h) (count r (d + e))
    ∙ ap (λ z. b (exponents 6 r e j) * z)
    (sum_at_monomial r (d + e) (joined f (exponents 6 r e j)) (λ y. shift y c h) rank
    (joined_monomial 6 r d e f (exponents 6 r e j) is_f stands.monomial)
    ∙ shift-joined f (exponents 6 r e j) h c (long ∙ sym is_f.long) (stands.monomial.long ∙ sym is_f.long)))
    ∙ elim (cases_Bool (contains h f)) [
      | inl held ↦
          sum_below_same (λ j. b (exponents 6 r e j) * shift f (shift (exponents 6 r e j) c) h)
          (λ j. b (exponents 6 r e j) * shift (exponents 6 r e j) c (less h f)) (count r e)
          (λ j l. ap (λ z. b (exponents 6 r e j) * z)
          (cond-true {A = ℕ} (contains h f) (shift (exponents 6 r e j) c (less h f)) 0 held))
          ∙ sym (cond-true {A = ℕ} (contains h f)
          (sum_below (λ j. b (exponents 6 r e j) * shift (exponents 6 r e j) c (less h f)) (count r e)) 0 held)
      | inr lacking ↦
          sum_below_same (λ j. b (exponents 6 r e j) * shift f (shift (exponents 6 r e j) c) h) (λ j. 0) (count r e)
          (λ j l. ap (λ z. b (exponents 6 r e j) * z)
          (cond-false {A = ℕ} (contains h f) (shift (exponents 6 r e j) c (less h f)) 0 lacking) ∙ omega arith)
          ∙ sum_below-zeros (count r e)
          ∙ sym (cond-false {A = ℕ} (contains h f)
          (sum_below (λ j. b (exponents 6 r e j) * shift (exponents 6 r e j) c (less h f)) (count r e)) 0 lacking)
    ]

pub product-assoc : (r d e k : ℕ) (a b c : Form) (h : List ℕ) → r ≤ 6 → IsMonomial 6 r ((d + e) + k) h →
    product 6 r (d + e) (product 6 r d a b) c h ≡ product 6 r d a (product 6 r e b c) h
unfolding product
product-assoc r d e k a b c h rank is =
    sum_below_same (λ x. sum_below (λ i. a (exponents 6 r d i) * shift (exponents 6 r d i) b (exponents 6 r (d + e) x))
    (count r d) * shift (exponents 6 r (d + e) x) c h)
    (λ x. sum_below (λ i. a (exponents 6 r d i)
    * (shift (exponents 6 r d i) b (exponents 6 r (d + e) x) * shift (exponents 6 r (d + e) x) c h)) (count r d))
    (count r (d + e))
    (λ x l. times_sum (λ i. a (exponents 6 r d i)) (λ i. shift (exponents 6 r d i) b (exponents 6 r (d + e) x))
    (shift (exponents 6 r (d + e) x) c h) (count r d))
    ∙ sum_below-swap (λ x i. a (exponents 6 r d i)
    * (shift (exponents 6 r d i) b (exponents 6 r (d + e) x) * shift (exponents 6 r (d + e) x) c h))
    (count r (d + e)) (count r d)
    ∙ sum_below_same (λ i. sum_below
    (λ x. a (exponents 6 r d i)
    * (shift (exponents 6 r d i) b (exponents 6 r (d + e) x) * shift (exponents 6 r (d + e) x) c h))
    (count r (d + e))) (λ i. a (exponents 6 r d i) * shift (exponents 6 r d i) (product 6 r e b c) h) (count r d)
    (λ i l.
    let stands : StandsAt 6 r d i (exponents 6 r d i) = exponents_stand 6 r d i rank l in
    sum_below-mul (a (exponents 6 r d i))
    (λ x. shift (exponents 6 r d i) b (exponents 6 r (d + e) x) * shift (exponents 6 r (d + e) x) c h)
    (count r (d + e))
    ∙ ap (λ z. a (exponents 6 r d i) * z)
    (product-shift r d e (exponents 6 r d i) h b c rank stands.monomial is.long))
