-- The same element, and congruent elements: equivalences that sums, multiples and monomials keep.
use Rattle.std.proofs.Common.{◌≡◌, ℕ, zero, suc, ◌+◌, ◌-◌, ◌*◌, ◌%◌, ◌<◌, ◌≤◌, List, refl, sym, ap, ◌∙◌, inl, inr, arith}
use Rattle.std.proofs.lemmas.Bool.{cases_lt}
use Rattle.bmp_math.specs.Sums.{sum_below}
use Rattle.bmp_math.proofs.CongruenceLemmas.{same_add, same_mul, minus_same}
use Rattle.bmp_math.specs.Congruences.{SameMod}
use Rattle.bmp_poly.specs.Exponents.{IsMonomial}
use Rattle.bmp_poly.specs.Forms.{Congruent}
use Rattle.bmp_poly.proofs.LabelLemmas.{congruent_refl, congruent_sym, congruent_trans, congruent_add, congruent_mul}
use Rattle.bmp_poly.proofs.ShiftedMultiples.{congruent_shift}
use Rattle.bmp_sheaf.specs.Elements.{Element, HasComponent, SameElement, CongruentElement, zero_element, monomial_times}
use Rattle.bmp_graded.proofs.ReducedLaws.{shift_same}
use Rattle.bmp_sheaf.proofs.ShiftLaws.{shift_below}

-- a component of a multiple is the multiple of a component, or it's of a lower degree than the monomial
lower_component : (degrees : List ℕ) (d k t g s : ℕ) → d + k ≡ t → k ≤ s → HasComponent degrees t g s →
    HasComponent degrees d g (s - k)
lower_component degrees d k t g s total within has = (has.0, omega (arith, has.1))

module _ (p r : ℕ) (degrees : List ℕ) (d : ℕ) where
  -- elements with the same numbers
  pub equal_same : (u v : Element) → ((g : ℕ) (m : List ℕ) → u g m ≡ v g m) → SameElement p r degrees d u v
  equal_same u v equal g s has m is = ap (λ z. z % p) (equal g m)

  pub same_turned : (u v : Element) → SameElement p r degrees d u v → SameElement p r degrees d v u
  same_turned u v h g s has m is = sym (h g s has m is)

  pub same_chained : (u v w : Element) → SameElement p r degrees d u v → SameElement p r degrees d v w →
      SameElement p r degrees d u w
  same_chained u v w h f g s has m is = h g s has m is ∙ f g s has m is

  pub same_plus : (u v a b : Element) → SameElement p r degrees d u a → SameElement p r degrees d v b →
      SameElement p r degrees d (λ g m. u g m + v g m) (λ g m. a g m + b g m)
  same_plus u v a b h f g s has m is = same_add p (u g m) (a g m) (v g m) (b g m) (h g s has m is) (f g s has m is)

  pub same_times : (x : ℕ) (u a : Element) → SameElement p r degrees d u a →
      SameElement p r degrees d (λ g m. x * u g m) (λ g m. x * a g m)
  same_times x u a h g s has m is = same_mul p x x (u g m) (a g m) refl (h g s has m is)

  pub same_combination : (c : ℕ → ℕ) (u a : ℕ → Element) (n : ℕ) →
      ((j : ℕ) → j < n → SameElement p r degrees d (u j) (a j)) →
      SameElement p r degrees d (λ g m. sum_below (λ j. c j * u j g m) n) (λ g m. sum_below (λ j. c j * a j g m) n)
  unfolding sum_below
  same_combination c u a zero h = λ g s has m is. refl
  same_combination c u a (suc n) h =
      same_plus (λ g m. sum_below (λ j. c j * u j g m) n) (λ g m. c n * u n g m)
      (λ g m. sum_below (λ j. c j * a j g m) n) (λ g m. c n * a n g m)
      (same_combination c u a n (λ j below. h j (omega arith)))
      (same_times (c n) (u n) (a n) (h n (omega arith)))

  pub same_monomial : (k t : ℕ) (n : List ℕ) (u a : Element) → IsMonomial 6 r k n → d + k ≡ t →
      SameElement p r degrees d u a → SameElement p r degrees t (monomial_times n u) (monomial_times n a)
  same_monomial k t n u a is_n total h g s has = elim (cases_lt s k) [
    | inl below ↦ λ m is. ap (λ z. z % p) (shift_below r k s n m (u g) is_n is below
        ∙ sym (shift_below r k s n m (a g) is_n is below))
    | inr within ↦ shift_same p 6 r (s - k) k s n (u g) (a g) is_n (omega arith)
        (h g (s - k) (lower_component degrees d k t g s total within has))
  ]

  -- an element and its negative cancel
  pub same_cancelled : (u : Element) → 0 < p → SameElement p r degrees d (λ g m. u g m + (p - 1) * u g m) zero_element
  same_cancelled u some g s has m is = cancelled p (u g m) some
    where
      cancelled : (p x : ℕ) → 0 < p → SameMod p (x + (p - 1) * x) 0
      cancelled zero x some = absurd (omega arith)
      cancelled (suc q) x some = let less : suc q - 1 ≡ q = omega arith in ap (λ z. (x + z * x) % suc q) less
          ∙ minus_same q x x refl

module _ (p r : ℕ) (degrees : List ℕ) (c : ℕ → ℕ) (d : ℕ) where
  pub same_congruent : (u v : Element) → SameElement p r degrees d u v → CongruentElement p r degrees c d u v
  same_congruent u v h g s has = congruent_refl p 6 r s c (u g) (v g) (h g s has)

  pub congruent_turned : (u v : Element) → 0 < p → CongruentElement p r degrees c d u v →
      CongruentElement p r degrees c d v u
  congruent_turned u v some h g s has = turned p some (h g s has)
    where
      turned : (p : ℕ) → 0 < p → Congruent p 6 r s c (u g) (v g) → Congruent p 6 r s c (v g) (u g)
      turned zero some h = absurd (omega arith)
      turned (suc q) some h = congruent_sym q 6 r s c (u g) (v g) h

  pub congruent_chained : (u v w : Element) → CongruentElement p r degrees c d u v →
      CongruentElement p r degrees c d v w → CongruentElement p r degrees c d u w
  congruent_chained u v w h f g s has = congruent_trans p 6 r s c (u g) (v g) (w g) (h g s has) (f g s has)

  pub congruent_plus : (u v a b : Element) → CongruentElement p r degrees c d u a →
      CongruentElement p r degrees c d v b →
      CongruentElement p r degrees c d (λ g m. u g m + v g m) (λ g m. a g m + b g m)
  congruent_plus u v a b h f g s has = congruent_add p 6 r s c (u g) (a g) (v g) (b g) (h g s has) (f g s has)

  pub congruent_times : (x : ℕ) (u a : Element) → CongruentElement p r degrees c d u a →
      CongruentElement p r degrees c d (λ g m. x * u g m) (λ g m. x * a g m)
  congruent_times x u a h g s has = congruent_mul p 6 r s c x (u g) (a g) (h g s has)

  pub congruent_combination : (x : ℕ → ℕ) (u a : ℕ → Element) (n : ℕ) →
      ((j : ℕ) → j < n → CongruentElement p r degrees c d (u j) (a j)) →
      CongruentElement p r degrees c d (λ g m. sum_below (λ j. x j * u j g m) n)
      (λ g m. sum_below (λ j. x j * a j g m) n)
  unfolding sum_below
  congruent_combination x u a zero h = same_congruent zero_element zero_element (λ g s has m is. refl)
  congruent_combination x u a (suc n) h =
      congruent_plus (λ g m. sum_below (λ j. x j * u j g m) n) (λ g m. x n * u n g m)
      (λ g m. sum_below (λ j. x j * a j g m) n) (λ g m. x n * a n g m)
      (congruent_combination x u a n (λ j below. h j (omega arith)))
      (congruent_times (x n) (u n) (a n) (h n (omega arith)))

  pub congruent_monomial : (k t : ℕ) (n : List ℕ) (u a : Element) → IsMonomial 6 r k n → d + k ≡ t →
      CongruentElement p r degrees c d u a → CongruentElement p r degrees c t (monomial_times n u) (monomial_times n a)
  congruent_monomial k t n u a is_n total h g s has = elim (cases_lt s k) [
    | inl below ↦ congruent_refl p 6 r s c (monomial_times n u g) (monomial_times n a g)
        (λ m is. ap (λ z. z % p) (shift_below r k s n m (u g) is_n is below
        ∙ sym (shift_below r k s n m (a g) is_n is below)))
    | inr within ↦ congruent_shift p r (s - k) k s c n (u g) (a g) is_n (omega arith)
        (h g (s - k) (lower_component degrees d k t g s total within has))
  ]
