-- Module maps of sums, of moved modules, of copies, and one after another.
use Rattle.std.proofs.Common.{◌≡◌, ℕ, ◌+◌, ◌-◌, ◌*◌, ◌%◌, ◌<◌, true, false, cond, leb, ltb, List, [], ◌∷◌, refl, sym, ap, ◌∙◌, inl, inr, arith}
use Rattle.std.proofs.lemmas.Bool.{cases_lt, cond-true, cond-false, lt-leb, le-leb, lt-ltb, le-ltb}
use Rattle.bmp_math.specs.Vectors.{IsLinear}
use Rattle.bmp_math.proofs.CongruenceLemmas.{same_add}
use Rattle.bmp_graded.specs.Graded.{Graded, IsModule, IsModuleMap}
use Rattle.bmp_graded.specs.Modules.{moved, both, nothing, copies}
use Rattle.bmp_graded.specs.Maps.{blockwise}
use Rattle.bmp_graded.proofs.GradedLemmas.{linear_zero, both_linear, nothing_is_module, moved_is_module, copies_is_module}

pub nothing_map : (p r : ℕ) (N : Graded) → IsModule p r N → IsModuleMap p r nothing N (λ d u j. 0)
unfolding nothing
nothing_map p r N laws = record {
  linear = λ d. record {
    respects = λ u v h j l. refl;
    sums = λ u v j l. refl;
    multiples = λ c v j l. ap (λ z. z % p) (none c);
  };
  acts = λ m k d t v is e j l. sym
      (linear_zero p (N.dim d) (N.dim t) (N.act m d t) (laws.linear m k d t is e) (λ i. 0) (λ i b. refl) j l);
}
  where
    none : (c : ℕ) → 0 ≡ c * 0
    none c = omega arith

pub sum_of_maps : (p r : ℕ) (A B N : Graded) (f g : ℕ → (ℕ → ℕ) → ℕ → ℕ) → IsModule p r N → IsModuleMap p r A N f →
    IsModuleMap p r B N g → IsModuleMap p r (both A B) N (λ d u j. f d u j + g d (λ i. u (A.dim d + i)) j)
unfolding both
sum_of_maps p r A B N f g laws F G = record {
  linear = λ d. record {
    respects = λ u v h j l. same_add p (f d u j) (f d v j) (g d (λ i. u (A.dim d + i)) j) (g d (λ i. v (A.dim d + i)) j)
        ((F.linear d).respects u v (λ i b. h i (omega arith)) j l)
        ((G.linear d).respects (λ i. u (A.dim d + i)) (λ i. v (A.dim d + i)) (λ i b. h (A.dim d + i) (omega arith)) j
        l);
    sums = λ u v j l.
        same_add p (f d (λ i. u i + v i) j) (f d u j + f d v j) (g d (λ i. u (A.dim d + i) + v (A.dim d + i)) j)
        (g d (λ i. u (A.dim d + i)) j + g d (λ i. v (A.dim d + i)) j) ((F.linear d).sums u v j l)
        ((G.linear d).sums (λ i. u (A.dim d + i)) (λ i. v (A.dim d + i)) j l)
        ∙ ap (λ z. z % p) (four (f d u j) (f d v j) (g d (λ i. u (A.dim d + i)) j) (g d (λ i. v (A.dim d + i)) j));
    multiples = λ c v j l.
        same_add p (f d (λ i. c * v i) j) (c * f d v j) (g d (λ i. c * v (A.dim d + i)) j)
        (c * g d (λ i. v (A.dim d + i)) j) ((F.linear d).multiples c v j l)
        ((G.linear d).multiples c (λ i. v (A.dim d + i)) j l)
        ∙ ap (λ z. z % p) (times c (f d v j) (g d (λ i. v (A.dim d + i)) j));
  };
  acts = λ m k d t v is e j l.
      let w = λ (i : ℕ). cond (ltb i (A.dim t)) (A.act m d t v i) (B.act m d t (λ a. v (A.dim d + a)) (i - A.dim t)) in
      same_add p (f t w j) (N.act m d t (f d v) j) (g t (λ i. w (A.dim t + i)) j)
      (N.act m d t (g d (λ a. v (A.dim d + a))) j)
      ((F.linear t).respects w (A.act m d t v)
      (λ i b. ap (λ z. z % p)
      (cond-true {A = ℕ} (ltb i (A.dim t)) (A.act m d t v i) (B.act m d t (λ a. v (A.dim d + a)) (i - A.dim t))
      (lt-ltb i (A.dim t) b))) j l ∙ F.acts m k d t v is e j l)
      ((G.linear t).respects (λ i. w (A.dim t + i)) (B.act m d t (λ a. v (A.dim d + a)))
      (λ i b. let back : (A.dim t + i) - A.dim t ≡ i = omega arith in
      ap (λ z. z % p) (cond-false {A = ℕ} (ltb (A.dim t + i) (A.dim t)) (A.act m d t v (A.dim t + i))
      (B.act m d t (λ a. v (A.dim d + a)) ((A.dim t + i) - A.dim t)) (le-ltb (A.dim t + i) (A.dim t) (omega arith))
      ∙ ap (B.act m d t (λ a. v (A.dim d + a))) back)) j l
      ∙ G.acts m k d t (λ a. v (A.dim d + a)) is e j l)
      ∙ sym ((laws.linear m k d t is e).sums (f d v) (g d (λ a. v (A.dim d + a))) j l);
}
  where
    four : (a b c d : ℕ) → (a + b) + (c + d) ≡ (a + c) + (b + d)
    four a b c d = omega arith

    times : (c a b : ℕ) → c * a + c * b ≡ c * (a + b)
    times c a b = omega arith

pub both_map : (p r : ℕ) (A B M N : Graded) (f g : ℕ → (ℕ → ℕ) → ℕ → ℕ) → IsModule p r M → IsModule p r N →
    IsModuleMap p r A M f → IsModuleMap p r B N g →
    IsModuleMap p r (both A B) (both M N)
    (λ d u j. cond (ltb j (M.dim d)) (f d u j) (g d (λ i. u (A.dim d + i)) (j - M.dim d)))
unfolding both
both_map p r A B M N f g in_m in_n F G = record {
  linear = λ d. both_linear p (A.dim d) (B.dim d) (M.dim d) (N.dim d) (f d) (g d) (F.linear d) (G.linear d);
  acts = λ m k d t v is e j l.
      let w = λ (i : ℕ). cond (ltb i (A.dim t)) (A.act m d t v i) (B.act m d t (λ a. v (A.dim d + a)) (i - A.dim t)) in
      elim (cases_lt j (M.dim t)) [
        | inl first ↦
            rw (lt-ltb j (M.dim t) first)
            ((F.linear t).respects w (A.act m d t v)
            (λ i b. ap (λ z. z % p)
            (cond-true {A = ℕ} (ltb i (A.dim t)) (A.act m d t v i)
            (B.act m d t (λ a. v (A.dim d + a)) (i - A.dim t)) (lt-ltb i (A.dim t) b))) j first
            ∙ F.acts m k d t v is e j first
            ∙ sym ((in_m.linear m k d t is e).respects
            (λ i. cond (ltb i (M.dim d)) (f d v i) (g d (λ a. v (A.dim d + a)) (i - M.dim d))) (f d v)
            (λ i b. ap (λ z. z % p)
            (cond-true {A = ℕ} (ltb i (M.dim d)) (f d v i) (g d (λ a. v (A.dim d + a)) (i - M.dim d))
            (lt-ltb i (M.dim d) b))) j first))
        | inr second ↦
            rw (le-ltb j (M.dim t) second)
            ((G.linear t).respects (λ i. w (A.dim t + i)) (B.act m d t (λ a. v (A.dim d + a)))
            (λ i b. let back : (A.dim t + i) - A.dim t ≡ i = omega arith in
            ap (λ z. z % p) (cond-false {A = ℕ} (ltb (A.dim t + i) (A.dim t)) (A.act m d t v (A.dim t + i))
            (B.act m d t (λ a. v (A.dim d + a)) ((A.dim t + i) - A.dim t))
            (le-ltb (A.dim t + i) (A.dim t) (omega arith)) ∙ ap (B.act m d t (λ a. v (A.dim d + a))) back))
            (j - M.dim t) (omega arith)
            ∙ G.acts m k d t (λ a. v (A.dim d + a)) is e (j - M.dim t) (omega arith)
            ∙ sym ((in_n.linear m k d t is e).respects
            (λ i. cond (ltb (M.dim d + i) (M.dim d)) (f d v (M.dim d + i))
            (g d (λ a. v (A.dim d + a)) ((M.dim d + i) - M.dim d))) (g d (λ a. v (A.dim d + a)))
            (λ i b. let back : (M.dim d + i) - M.dim d ≡ i = omega arith in
            ap (λ z. z % p) (cond-false {A = ℕ} (ltb (M.dim d + i) (M.dim d)) (f d v (M.dim d + i))
            (g d (λ a. v (A.dim d + a)) ((M.dim d + i) - M.dim d)) (le-ltb (M.dim d + i) (M.dim d) (omega arith))
            ∙ ap (g d (λ a. v (A.dim d + a))) back)) (j - M.dim t) (omega arith)))
      ];
}

pub moved_map : (p r g : ℕ) (A M : Graded) (f : ℕ → (ℕ → ℕ) → ℕ → ℕ) → IsModuleMap p r A M f →
    IsModuleMap p r (moved g A) (moved g M) (λ d. f (d - g))
unfolding moved
moved_map p r g A M f F = record {
  linear = λ d. elim (leb g d) as (λ b. IsLinear p (cond b (A.dim (d - g)) 0) (cond b (M.dim (d - g)) 0) (f (d - g))) [
    | true ↦ F.linear (d - g)
    | false ↦ record {
      respects = λ u v h j l. absurd (omega arith);
      sums = λ u v j l. absurd (omega arith);
      multiples = λ c v j l. absurd (omega arith);
    }
  ];
  acts = λ m k d t v is e j l. elim (cases_lt t g) [
    | inl early ↦ absurd (let off : leb g t ≡ false = lt-leb g t early in let none = rw off at l in omega arith)
    | inr late ↦
        let on_t : leb g t ≡ true = le-leb g t late in
        let here : j < M.dim (t - g) = rw on_t at l in
        elim (cases_lt d g) [
          | inl before ↦
              let off : leb g d ≡ false = lt-leb g d before in
              linear_zero p (A.dim (t - g)) (M.dim (t - g)) (f (t - g)) (F.linear (t - g))
              (λ i. cond (leb g d) (A.act m (d - g) (t - g) v i) 0)
              (λ i b. ap (λ z. z % p) (cond-false {A = ℕ} (leb g d) (A.act m (d - g) (t - g) v i) 0 off)) j here
              ∙ ap (λ z. z % p) (sym (cond-false {A = ℕ} (leb g d) (M.act m (d - g) (t - g) (f (d - g) v) j) 0 off))
          | inr from ↦
              let on : leb g d ≡ true = le-leb g d from in
              (F.linear (t - g)).respects (λ i. cond (leb g d) (A.act m (d - g) (t - g) v i) 0)
              (A.act m (d - g) (t - g) v)
              (λ i b. ap (λ z. z % p) (cond-true {A = ℕ} (leb g d) (A.act m (d - g) (t - g) v i) 0 on)) j here
              ∙ F.acts m k (d - g) (t - g) v is (omega arith) j here
              ∙ ap (λ z. z % p) (sym (cond-true {A = ℕ} (leb g d) (M.act m (d - g) (t - g) (f (d - g) v) j) 0 on))
        ]
  ];
}

-- a map of each of the moved copies
pub copies_map : (p r : ℕ) (A M : Graded) (f : ℕ → (ℕ → ℕ) → ℕ → ℕ) (degrees : List ℕ) → IsModule p r M →
    IsModuleMap p r A M f →
    IsModuleMap p r (copies A degrees) (copies M degrees)
    (λ d. blockwise (λ g. (moved g A).dim d) (λ g. (moved g M).dim d) (λ g. f (d - g)) degrees)
unfolding copies blockwise
copies_map p r A M f [] laws F = nothing_map p r nothing (nothing_is_module p r)
copies_map p r A M f (g ∷ gs) laws F =
    both_map p r (moved g A) (copies A gs) (moved g M) (copies M gs) (λ d. f (d - g))
    (λ d. blockwise (λ g. (moved g A).dim d) (λ g. (moved g M).dim d) (λ g. f (d - g)) gs)
    (moved_is_module p r g M laws) (copies_is_module p r M gs laws) (moved_map p r g A M f F)
    (copies_map p r A M f gs laws F)
