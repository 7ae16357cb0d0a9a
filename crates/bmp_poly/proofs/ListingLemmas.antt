-- Places go by the exponents from the first variable on, the larger first.
use Rattle.std.proofs.Common.{◌≡◌, ℕ, zero, suc, ◌+◌, ◌<◌, ◌≤◌, ◌⊎◌, inl, inr, List, [], ◌∷◌, length, get_or, refl, sym, ap, ap₂, ◌∙◌, arith}
use Rattle.std.proofs.lemmas.Bool.{cases_eq, cases_lt}
use Rattle.std.specs.List.{sum}
use Rattle.bmp_math.specs.Sums.{sum_below}
use Rattle.bmp_math.proofs.SumLemmas.{sum_below-suc, sum_below_rises}
use Rattle.bmp_poly.specs.Exponents.{IsMonomial, ComesBefore, count, place, exponents}
use Rattle.bmp_poly.specs.Statements.{IsListedInOrder}
use Rattle.bmp_poly.proofs.PlaceLemmas.{sum-cons, tail_monomial, place_below, exponents-place, exponents_stand, StandsAt}
use Rattle.bmp_poly.proofs.Multiples.{as_degree}

before_place_at : (w r d k : ℕ) (m n : List ℕ) → r ≤ w → IsMonomial w r d m → IsMonomial w r d n →
    get_or n k 0 < get_or m k 0 → ((j : ℕ) → j < k → get_or m j 0 ≡ get_or n j 0) → place r m < place r n
unfolding place
before_place_at w zero d k m n le is_m is_n larger same = let none : get_or m k 0 ≡ 0 = is_m.past k (omega arith) in
    absurd (omega arith)
before_place_at w (suc r) d k [] n le is_m is_n larger same = let l : 0 ≡ w = is_m.long in absurd (omega arith)
before_place_at w (suc r) d k (x ∷ m) [] le is_m is_n larger same = let l : 0 ≡ w = is_n.long in absurd (omega arith)
before_place_at zero (suc r) d k (x ∷ m) (y ∷ n) le is_m is_n larger same = absurd (omega arith)
before_place_at (suc w) (suc r) d zero (x ∷ m) (y ∷ n) le is_m is_n larger same =
    let first : y < x = larger in
    let size : x + sum m ≡ d = sym (sum-cons x m) ∙ is_m.size in
    let other_size : y + sum n ≡ d = sym (sum-cons y n) ∙ is_n.size in
    let rises : sum_below (count r) (suc (sum m)) ≤ sum_below (count r) (sum n) =
    sum_below_rises (count r) (suc (sum m)) (sum n) (omega arith) in
    omega (
      arith,
      sum_below-suc (count r) (sum m),
      place_below w r (sum m) m (omega arith) (tail_monomial w r d x m is_m),
    )
before_place_at (suc w) (suc r) d (suc k) (x ∷ m) (y ∷ n) le is_m is_n larger same =
    let first : x ≡ y = same 0 (omega arith) in
    let size : x + sum m ≡ d = sym (sum-cons x m) ∙ is_m.size in
    let other_size : y + sum n ≡ d = sym (sum-cons y n) ∙ is_n.size in
    let sizes : sum n ≡ sum m = omega arith in
    let tail : IsMonomial w r (sum m) m = tail_monomial w r d x m is_m in
    let other_tail : IsMonomial w r (sum m) n = as_degree w r (sum n) (sum m) n sizes (tail_monomial w r d y n is_n) in
    let later : place r m < place r n =
    before_place_at w r (sum m) k m n (omega arith) tail other_tail larger (λ j l. same (suc j) (omega arith)) in
    rw sizes (omega arith)

-- lists of one length are the same, or differ somewhere first
compared : (m n : List ℕ) → length m ≡ length n → (m ≡ n) ⊎ (ComesBefore m n ⊎ ComesBefore n m)
compared [] [] l = inl refl
compared [] (y ∷ n) l = absurd (let e : 0 ≡ suc (length n) = l in omega arith)
compared (x ∷ m) [] l = absurd (let e : suc (length m) ≡ 0 = l in omega arith)
compared (x ∷ m) (y ∷ n) l =
    let e : suc (length m) ≡ suc (length n) = l in
    elim (cases_eq x y) [
      | inl same ↦ elim (compared m n (omega arith)) [
        | inl all ↦ inl (ap₂ (λ (a : ℕ) (b : List ℕ). a ∷ b) same all)
        | inr differ ↦ inr (elim differ [
          | inl before ↦ inl (later x y m n same before)
          | inr after ↦ inr (later y x n m (sym same) after)
        ])
      ]
      | inr other ↦ inr (elim (cases_lt y x) [
        | inl larger ↦ inl (record { variable = 0; larger = larger; same = λ j below. absurd (omega arith) })
        | inr smaller ↦ let less : x < y = omega arith in
            inr (record { variable = 0; larger = less; same = λ j below. absurd (omega arith) })
      ])
    ]
  where
    later : (x y : ℕ) (m n : List ℕ) → x ≡ y → ComesBefore m n → ComesBefore (x ∷ m) (y ∷ n)
    later x y m n same h = record {
      variable = suc h.variable;
      larger = h.larger;
      same = λ j. elim j as (λ j. j < suc h.variable → get_or (x ∷ m) j 0 ≡ get_or (y ∷ n) j 0)
          [ zero ↦ λ below. same | suc j ↦ λ below. h.same j (omega arith) ];
    }

pub listed_in_order : (w r d : ℕ) → r ≤ w → IsListedInOrder w r d
listed_in_order w r d le = record {
  below = λ m is. place_below w r d m le is;
  monomial = λ i below. let stands : StandsAt w r d i (exponents w r d i) = exponents_stand w r d i le below in
      stands.monomial;
  stands = λ i below. let stands : StandsAt w r d i (exponents w r d i) = exponents_stand w r d i le below in
      stands.place_is;
  once = λ m is. exponents-place w r d m le is;
  order = λ m n is_m is_n. (
    (λ h. before_place_at w r d h.variable m n le is_m is_n h.larger h.same),
    (λ l. elim (compared m n (is_m.long ∙ sym is_n.long)) [
      | inl same ↦ let places : place r m ≡ place r n = ap (place r) same in absurd (omega arith)
      | inr differ ↦ elim differ [
        | inl before ↦ before
        | inr after ↦ let other : place r n < place r m =
            before_place_at w r d after.variable n m le is_n is_m after.larger after.same in absurd (omega arith)
      ]
    ]),
  );
}
