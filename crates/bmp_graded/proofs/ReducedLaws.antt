-- The polynomials modulo a label are a module.
use Rattle.std.proofs.Common.{◌≡◌, ℕ, suc, ◌+◌, ◌*◌, ◌%◌, ◌<◌, ◌≤◌, true, cond, eqb, List, length, get_or, refl, sym, ap, ◌∙◌, inl, inr, arith, eq-eqb, ne_eqb}
use Rattle.std.proofs.lemmas.Bool.{cases_Bool, cases_eq, cond-true, cond-false}
use Rattle.bmp_math.proofs.CongruenceLemmas.{same_add, same_mul}
use Rattle.bmp_poly.specs.Exponents.{IsMonomial, count, place, exponents, zeros}
use Rattle.bmp_poly.specs.Forms.{Form, SameForm, IsPure, Congruent, IsNormalForm, IsLabel}
use Rattle.bmp_poly.proofs.PlaceLemmas.{exponents_stand, exponents-place, place_below, StandsAt}
use Rattle.bmp_poly.proofs.LabelLemmas.{congruent_add, congruent_mul, congruent_refl, congruent_sym, congruent_trans}
use Rattle.bmp_poly.proofs.NormalForms.{pure_congruent_same}
use Rattle.bmp_math.specs.Vectors.{SameVector}
use Rattle.bmp_poly.specs.Shifts.{contains, less, joined, shift}
use Rattle.bmp_poly.proofs.ShiftLemmas.{less_monomial, contains-joined, contains-joined_false, less-joined, contains-zeros, less-zeros}
use Rattle.bmp_graded.specs.Graded.{IsModule, IsModuleMap}
use Rattle.bmp_graded.specs.Modules.{polynomials}
use Rattle.bmp_graded.proofs.GradedLemmas.{shift-add, shift-mul}
use Rattle.bmp_graded.specs.Quotients.{insert, remove, pure_form, reduced}
use Rattle.bmp_poly.proofs.ShiftedMultiples.{congruent_shift}
use Rattle.bmp_graded.proofs.QuotientLemmas.{insert_at, insert_monomial, remove_monomial, remove_insert, insert_remove}

pub shift_joined : (w r d k h t u : ℕ) (m n : List ℕ) (a : Form) (e : List ℕ) → IsMonomial w r k m →
    IsMonomial w r h n → IsMonomial w r u e → shift n (shift m a) e ≡ shift (joined m n) a e
shift_joined w r d k h t u m n a e is_m is_n is_e =
    let long_e : length e ≡ length n = is_e.long ∙ sym is_n.long in
    let long_m : length m ≡ length n = is_m.long ∙ sym is_n.long in
    elim (cases_Bool (contains e n)) [
      | inl fits ↦ rw (fits, contains-joined e m n long_e long_m fits, less-joined e m n long_e long_m) refl
      | inr other ↦ rw (other, contains-joined_false e m n long_e long_m other) refl
    ]

pub shift_same : (p w r d k t : ℕ) (m : List ℕ) (a b : Form) → IsMonomial w r k m → d + k ≡ t → SameForm p w r d a b →
    SameForm p w r t (shift m a) (shift m b)
shift_same p w r d k t m a b is total h e is_e =
    elim (cases_Bool (contains e m)) [
      | inl fits ↦ rw fits (h (less e m) (less_monomial w r d k t e m is_e is total fits))
      | inr other ↦ rw other refl
    ]

pub reduced_dim : (r l d : ℕ) (normal : ℕ → Form → Form) → (reduced r l normal).dim d ≡ count r d
unfolding reduced
reduced_dim r l d normal = refl

module _ (q r l : ℕ) (c : ℕ → ℕ) (label : IsLabel (suc q) (suc r) c l) (wide : suc r ≤ 6) (normal : ℕ → Form → Form)
    (normal_is : (d : ℕ) (a : Form) → IsNormalForm (suc q) 6 (suc r) d c l a (normal d a)) where
  leading : l ≤ r
  leading = let h : l < suc r = label.here in omega arith

  inserted : (d i : ℕ) → i < count r d → IsMonomial 6 (suc r) d (insert l (exponents 5 r d i))
  inserted d i below =
      let stands : StandsAt 5 r d i (exponents 5 r d i) = exponents_stand 5 r d i (omega arith) below in
      insert_monomial 5 r d l (exponents 5 r d i) leading (omega arith) stands.monomial

  pure_is : (d : ℕ) (v : ℕ → ℕ) → IsPure (suc q) 6 (suc r) d l (pure_form r l v)
  pure_is d v m is some =
      ap (λ z. z % suc q)
      (cond-false {A = ℕ} (eqb (get_or m l 0) 0) (v (place r (remove l m))) 0
      (ne_eqb (get_or m l 0) 0 (λ e. absurd (omega arith))))

  pure_same : (d : ℕ) (u v : ℕ → ℕ) → SameVector (suc q) (count r d) u v →
      SameForm (suc q) 6 (suc r) d (pure_form r l u) (pure_form r l v)
  pure_same d u v h m is =
      elim (cases_eq (get_or m l 0) 0) [
        | inl none ↦ rw (eq-eqb (get_or m l 0) 0 none)
            (h (place r (remove l m))
            (place_below 5 r d (remove l m) (omega arith) (remove_monomial 5 r d l m leading (omega arith) none is)))
        | inr some ↦ rw (ne_eqb (get_or m l 0) 0 some) refl
      ]

  -- a pure polynomial is the one of its coordinates
  pure_again : (t : ℕ) (b : Form) → IsPure (suc q) 6 (suc r) t l b →
      SameForm (suc q) 6 (suc r) t (pure_form r l (λ i. b (insert l (exponents 5 r t i)))) b
  pure_again t b pure m is =
      let long : length m ≡ 6 = is.long in
      let here : l ≤ r = leading in
      elim (cases_eq (get_or m l 0) 0) [
        | inl none ↦
            let rest : IsMonomial 5 r t (remove l m) = remove_monomial 5 r t l m leading (omega arith) none is in
            let back : insert l (exponents 5 r t (place r (remove l m))) ≡ m =
            ap (insert l) (exponents-place 5 r t (remove l m) (omega arith) rest)
            ∙ insert_remove l m (omega arith) none in
            ap (λ z. z % suc q)
            (cond-true {A = ℕ} (eqb (get_or m l 0) 0) (b (insert l (exponents 5 r t (place r (remove l m))))) 0
            (eq-eqb (get_or m l 0) 0 none) ∙ ap b back)
        | inr some ↦
            ap (λ z. z % suc q)
            (cond-false {A = ℕ} (eqb (get_or m l 0) 0) (b (insert l (exponents 5 r t (place r (remove l m))))) 0
            (ne_eqb (get_or m l 0) 0 some))
            ∙ sym (pure m is (omega arith))
      ]

  read_back : (d i : ℕ) (v : ℕ → ℕ) → i < count r d → pure_form r l v (insert l (exponents 5 r d i)) ≡ v i
  read_back d i v below =
      let stands : StandsAt 5 r d i (exponents 5 r d i) = exponents_stand 5 r d i (omega arith) below in
      let long : length (exponents 5 r d i) ≡ 5 = stands.monomial.long in
      let here : l ≤ r = leading in
      cond-true {A = ℕ} (eqb (get_or (insert l (exponents 5 r d i)) l 0) 0)
      (v (place r (remove l (insert l (exponents 5 r d i))))) 0
      (eq-eqb (get_or (insert l (exponents 5 r d i)) l 0) 0 (insert_at l (exponents 5 r d i)))
      ∙ ap (λ z. v (place r z)) (remove_insert l (exponents 5 r d i) (omega arith)) ∙ ap v stands.place_is

  -- a pure polynomial congruent to a is its normal form
  normal_of : (t : ℕ) (a b : Form) → IsPure (suc q) 6 (suc r) t l b → Congruent (suc q) 6 (suc r) t c a b →
      SameForm (suc q) 6 (suc r) t (normal t a) b
  normal_of t a b pure g =
      pure_congruent_same q 6 (suc r) t l c label wide (normal t a) b (normal_is t a).pure pure
      (congruent_trans (suc q) 6 (suc r) t c (normal t a) a b
      (congruent_sym q 6 (suc r) t c a (normal t a) (normal_is t a).congruent) g)

  normal_same : (t : ℕ) (a b : Form) → Congruent (suc q) 6 (suc r) t c a b →
      SameForm (suc q) 6 (suc r) t (normal t a) (normal t b)
  normal_same t a b g =
      normal_of t a (normal t b) (normal_is t b).pure
      (congruent_trans (suc q) 6 (suc r) t c a b (normal t b) g (normal_is t b).congruent)

  normal_add : (t : ℕ) (a b : Form) →
      SameForm (suc q) 6 (suc r) t (normal t (λ e. a e + b e)) (λ e. normal t a e + normal t b e)
  normal_add t a b = normal_of t (λ e. a e + b e) (λ e. normal t a e + normal t b e)
      (λ m is some. same_add (suc q) (normal t a m) 0 (normal t b m) 0 ((normal_is t a).pure m is some)
      ((normal_is t b).pure m is some))
      (congruent_add (suc q) 6 (suc r) t c a (normal t a) b (normal t b) (normal_is t a).congruent
      (normal_is t b).congruent)

  normal_mul : (t x : ℕ) (a : Form) → SameForm (suc q) 6 (suc r) t (normal t (λ e. x * a e)) (λ e. x * normal t a e)
  normal_mul t x a = normal_of t (λ e. x * a e) (λ e. x * normal t a e)
      (λ m is some. let none : x * 0 ≡ 0 = omega arith in
      same_mul (suc q) x x (normal t a m) 0 refl ((normal_is t a).pure m is some) ∙ ap (λ z. z % suc q) none)
      (congruent_mul (suc q) 6 (suc r) t c x a (normal t a) (normal_is t a).congruent)

  pub reduced_is_module : IsModule (suc q) (suc r) (reduced r l normal)
  unfolding reduced
  reduced_is_module = record {
    linear = λ m k d t is e. record {
      respects = λ u v h j below. normal_same t (shift m (pure_form r l u)) (shift m (pure_form r l v))
          (congruent_refl (suc q) 6 (suc r) t c (shift m (pure_form r l u)) (shift m (pure_form r l v))
          (shift_same (suc q) 6 (suc r) d k t m (pure_form r l u) (pure_form r l v) is e (pure_same d u v h)))
          (insert l (exponents 5 r t j)) (inserted t j below);
      sums = λ u v j below.
          normal_same t (shift m (pure_form r l (λ i. u i + v i)))
          (λ x. shift m (pure_form r l u) x + shift m (pure_form r l v) x)
          (congruent_refl (suc q) 6 (suc r) t c (shift m (pure_form r l (λ i. u i + v i)))
          (λ x. shift m (pure_form r l u) x + shift m (pure_form r l v) x)
          (λ x is_x. ap (λ z. z % suc q)
          (ap (λ z. cond (contains x m) z 0)
          (shift-add (eqb (get_or (less x m) l 0) 0) (u (place r (remove l (less x m))))
          (v (place r (remove l (less x m)))))
          ∙ shift-add (contains x m) (pure_form r l u (less x m)) (pure_form r l v (less x m)))))
          (insert l (exponents 5 r t j)) (inserted t j below)
          ∙ normal_add t (shift m (pure_form r l u)) (shift m (pure_form r l v)) (insert l (exponents 5 r t j))
          (inserted t j below);
      multiples = λ y v j below.
          normal_same t (shift m (pure_form r l (λ i. y * v i))) (λ x. y * shift m (pure_form r l v) x)
          (congruent_refl (suc q) 6 (suc r) t c (shift m (pure_form r l (λ i. y * v i)))
          (λ x. y * shift m (pure_form r l v) x)
          (λ x is_x. ap (λ z. z % suc q)
          (ap (λ z. cond (contains x m) z 0)
          (shift-mul (eqb (get_or (less x m) l 0) 0) y (v (place r (remove l (less x m)))))
          ∙ shift-mul (contains x m) y (pure_form r l v (less x m)))))
          (insert l (exponents 5 r t j)) (inserted t j below)
          ∙ normal_mul t y (shift m (pure_form r l v)) (insert l (exponents 5 r t j)) (inserted t j below);
    };
    one = λ d v j below.
        normal_of d (shift (zeros 6) (pure_form r l v)) (pure_form r l v) (pure_is d v)
        (congruent_refl (suc q) 6 (suc r) d c (shift (zeros 6) (pure_form r l v)) (pure_form r l v) (λ x is_x.
        let fits : contains x (zeros 6) ≡ true = ap (λ w. contains x (zeros w)) (sym is_x.long) ∙ contains-zeros x in
        let same : less x (zeros 6) ≡ x = ap (λ w. less x (zeros w)) (sym is_x.long) ∙ less-zeros x in
        ap (λ z. z % suc q) (cond-true {A = ℕ} (contains x (zeros 6)) (pure_form r l v (less x (zeros 6))) 0 fits
        ∙ ap (pure_form r l v) same)))
        (insert l (exponents 5 r d j)) (inserted d j below)
        ∙ ap (λ z. z % suc q) (read_back d j v below);
    after = λ m n k h d t u v is_m is_n e f j below.
        let again : Congruent (suc q) 6 (suc r) t c
        (pure_form r l (λ i. normal t (shift m (pure_form r l v)) (insert l (exponents 5 r t i))))
        (shift m (pure_form r l v)) =
        congruent_trans (suc q) 6 (suc r) t c
        (pure_form r l (λ i. normal t (shift m (pure_form r l v)) (insert l (exponents 5 r t i))))
        (normal t (shift m (pure_form r l v))) (shift m (pure_form r l v))
        (congruent_refl (suc q) 6 (suc r) t c
        (pure_form r l (λ i. normal t (shift m (pure_form r l v)) (insert l (exponents 5 r t i))))
        (normal t (shift m (pure_form r l v)))
        (pure_again t (normal t (shift m (pure_form r l v))) (normal_is t (shift m (pure_form r l v))).pure))
        (congruent_sym q 6 (suc r) t c (shift m (pure_form r l v)) (normal t (shift m (pure_form r l v)))
        (normal_is t (shift m (pure_form r l v))).congruent) in
        normal_same u (shift n
        (pure_form r l (λ i. normal t (shift m (pure_form r l v)) (insert l (exponents 5 r t i)))))
        (shift (joined m n) (pure_form r l v))
        (congruent_trans (suc q) 6 (suc r) u c
        (shift n (pure_form r l (λ i. normal t (shift m (pure_form r l v)) (insert l (exponents 5 r t i)))))
        (shift n (shift m (pure_form r l v))) (shift (joined m n) (pure_form r l v))
        (congruent_shift (suc q) (suc r) t h u c n
        (pure_form r l (λ i. normal t (shift m (pure_form r l v)) (insert l (exponents 5 r t i))))
        (shift m (pure_form r l v)) is_n f again)
        (congruent_refl (suc q) 6 (suc r) u c (shift n (shift m (pure_form r l v)))
        (shift (joined m n) (pure_form r l v))
        (λ x is_x. ap (λ z. z % suc q) (shift_joined 6 (suc r) d k h t u m n (pure_form r l v) x is_m is_n is_x))))
        (insert l (exponents 5 r u j)) (inserted u j below);
  }

  -- polynomials to those modulo the label
  pub project_is_map :
      IsModuleMap (suc q) (suc r) (polynomials (suc r)) (reduced r l normal)
      (λ d u i. normal d (λ e. u (place (suc r) e)) (insert l (exponents 5 r d i)))
  unfolding reduced polynomials
  project_is_map = record {
    linear = λ d. record {
      respects = λ u v h j below. normal_same d (λ e. u (place (suc r) e)) (λ e. v (place (suc r) e))
          (congruent_refl (suc q) 6 (suc r) d c (λ e. u (place (suc r) e)) (λ e. v (place (suc r) e))
          (λ m is. h (place (suc r) m) (place_below 6 (suc r) d m wide is))) (insert l (exponents 5 r d j))
          (inserted d j below);
      sums = λ u v j below. normal_add d (λ e. u (place (suc r) e)) (λ e. v (place (suc r) e))
          (insert l (exponents 5 r d j)) (inserted d j below);
      multiples = λ y v j below. normal_mul d y (λ e. v (place (suc r) e)) (insert l (exponents 5 r d j))
          (inserted d j below);
    };
    acts = λ m k d t v is e j below.
        let a : Form = λ x. v (place (suc r) x) in
        let b : Form = normal d (λ x. v (place (suc r) x)) in
        let last : Form = pure_form r l (λ i. normal d (λ x. v (place (suc r) x)) (insert l (exponents 5 r d i))) in
        let first : Form = λ x. shift m a (exponents 6 (suc r) t (place (suc r) x)) in
        normal_same t first (shift m last)
        (congruent_trans (suc q) 6 (suc r) t c first (shift m a) (shift m last)
        (congruent_refl (suc q) 6 (suc r) t c first (shift m a)
        (λ x is_x. ap (λ z. shift m a z % suc q) (exponents-place 6 (suc r) t x wide is_x)))
        (congruent_shift (suc q) (suc r) d k t c m a last is e
        (congruent_trans (suc q) 6 (suc r) d c a b last (normal_is d a).congruent
        (congruent_refl (suc q) 6 (suc r) d c b last (λ x is_x. sym (pure_again d b (normal_is d a).pure x is_x))))))
        (insert l (exponents 5 r t j)) (inserted t j below);
  }

  -- equal coordinates modulo the label: the label divides the difference
  pub projected_congruent :
      (d : ℕ) (u v : ℕ → ℕ) →
      SameVector (suc q) (count r d) (λ i. normal d (λ e. u (place (suc r) e)) (insert l (exponents 5 r d i)))
      (λ i. normal d (λ e. v (place (suc r) e)) (insert l (exponents 5 r d i))) →
      Congruent (suc q) 6 (suc r) d c (λ e. u (place (suc r) e)) (λ e. v (place (suc r) e))
  projected_congruent d u v h =
      let a : Form = λ e. u (place (suc r) e) in
      let b : Form = λ e. v (place (suc r) e) in
      congruent_trans (suc q) 6 (suc r) d c a (normal d a) b (normal_is d a).congruent
      (congruent_trans (suc q) 6 (suc r) d c (normal d a) (normal d b) b
      (congruent_refl (suc q) 6 (suc r) d c (normal d a) (normal d b)
      (λ m is. sym (pure_again d (normal d a) (normal_is d a).pure m is)
      ∙ pure_same d (λ i. normal d a (insert l (exponents 5 r d i)))
      (λ i. normal d b (insert l (exponents 5 r d i))) h m is
      ∙ pure_again d (normal d b) (normal_is d b).pure m is))
      (congruent_sym q 6 (suc r) d c b (normal d b) (normal_is d b).congruent))

  pub congruent_projected :
      (d : ℕ) (u v : ℕ → ℕ) → Congruent (suc q) 6 (suc r) d c (λ e. u (place (suc r) e)) (λ e. v (place (suc r) e)) →
      SameVector (suc q) (count r d) (λ i. normal d (λ e. u (place (suc r) e)) (insert l (exponents 5 r d i)))
      (λ i. normal d (λ e. v (place (suc r) e)) (insert l (exponents 5 r d i)))
  congruent_projected d u v g j below =
      normal_same d (λ e. u (place (suc r) e)) (λ e. v (place (suc r) e)) g (insert l (exponents 5 r d j))
      (inserted d j below)
