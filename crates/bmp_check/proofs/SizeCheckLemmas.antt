-- Sizes compared one after the other: lists joined, and the step of a loop.
use Rattle.std.proofs.Common.{◌≡◌, ◌≢◌, ℕ, suc, ◌+◌, ◌<◌, ◌≤◌, Bool, true, false, cond, eqb, leb, List, [], ◌∷◌, ◌++◌, length, get_or, take, drop, Option, Some, None, Result, Ok, Err, refl, sym, ap, subst, ◌∙◌, inl, inr, arith, eq-eqb, leb-false, length-append, add-zero}
use Rattle.std.proofs.lemmas.Bool.{cases_Bool, cond-true, cond-false}
use Rattle.std.proofs.lemmas.Option.{none-some, same_Some}
use Rattle.std.proofs.lemmas.List.{take-append-drop, take_more, take_all, length-map, get_or-map}
use Rattle.std.proofs.Math.Seq.{drop-cons}
use Rattle.bmp_linear.specs.declared.vector.Entry.{Entry}
use Rattle.bmp_check.specs.Comparisons.{Comparison, first_failure}
use Rattle.bmp_check.specs.Sizes.{Size, is, at_most, need, each_at_most, size_comparison, numbered}
use Rattle.bmp_check.specs.SizeChecks.{first_of, behind, Compares}
use Rattle.bmp_check.specs.declared.refusal.Refusal.{Refusal}
use Rattle.bmp_check.specs.declared.size_check.SizeCheck.{SizeCheck}

-- the first failure of a list is that of its first comparison, or of the rest
pub first_passes : (c : Comparison) (cs : List Comparison) → c.passes ≡ true → first_failure (c ∷ cs) ≡ first_failure cs
first_passes c cs passes = cond-true {A = Option Refusal} c.passes (first_failure cs) (Some c.refusal) passes

pub first_fails : (c : Comparison) (cs : List Comparison) → c.passes ≡ false → first_failure (c ∷ cs) ≡ Some c.refusal
first_fails c cs fails = cond-false {A = Option Refusal} c.passes (first_failure cs) (Some c.refusal) fails

module _ (x d : ℕ) where
  passed : (a b : List Size) (i : ℕ) → first_failure (numbered x d i a) ≡ None → first_failure (numbered x d i (a ++ b))
      ≡ first_failure (numbered x d (i + length a) b)
  passed [] b i none = ap (λ j. first_failure (numbered x d j b)) (sym (add-zero i))
  passed (s ∷ a) b i none = elim (cases_Bool (size_comparison x d i s).passes) [
    | inl passes ↦
        let counted : (i + 1) + length a ≡ i + length (s ∷ a) = omega arith in
        first_passes (size_comparison x d i s) (numbered x d (i + 1) (a ++ b)) passes
        ∙ passed a b (i + 1) (sym (first_passes (size_comparison x d i s) (numbered x d (i + 1) a) passes) ∙ none)
        ∙ ap (λ j. first_failure (numbered x d j b)) counted
    | inr fails ↦ absurd
        (none-some (size_comparison x d i s).refusal
        (sym none ∙ first_fails (size_comparison x d i s) (numbered x d (i + 1) a) fails))
  ]

  stopped : (a b : List Size) (i : ℕ) (r : Refusal) → first_failure (numbered x d i a) ≡ Some r →
      first_failure (numbered x d i (a ++ b)) ≡ Some r
  stopped [] b i r some = absurd (none-some r some)
  stopped (s ∷ a) b i r some = elim (cases_Bool (size_comparison x d i s).passes) [
    | inl passes ↦
        first_passes (size_comparison x d i s) (numbered x d (i + 1) (a ++ b)) passes
        ∙ stopped a b (i + 1) r (sym (first_passes (size_comparison x d i s) (numbered x d (i + 1) a) passes) ∙ some)
    | inr fails ↦
        first_fails (size_comparison x d i s) (numbered x d (i + 1) (a ++ b)) fails
        ∙ sym (first_fails (size_comparison x d i s) (numbered x d (i + 1) a) fails) ∙ some
  ]

  -- the two numbers of a failure differ
  pub first_differs : (a : List Size) (i : ℕ) (r : Refusal) → first_failure (numbered x d i a) ≡ Some r →
      r.left ≢ r.right
  first_differs [] i r some = absurd (none-some r some)
  first_differs (s ∷ a) i r some = elim (cases_Bool (size_comparison x d i s).passes) [
    | inl passes ↦ first_differs a (i + 1) r
        (sym (first_passes (size_comparison x d i s) (numbered x d (i + 1) a) passes) ∙ some)
    | inr fails ↦
        let own : (size_comparison x d i s).refusal ≡ r =
        same_Some (size_comparison x d i s).refusal r
        (sym (first_fails (size_comparison x d i s) (numbered x d (i + 1) a) fails) ∙ some) in
        λ same. apart s.exact s.left s.right fails (ap (λ (q : Refusal). q.left) own ∙ same
        ∙ sym (ap (λ (q : Refusal). q.right) own))
  ]
    where
      apart : (exact : Bool) (m n : ℕ) → cond exact (eqb m n) (leb m n) ≡ false → m ≡ n → ⊥
      apart true m n fails same = let yes : eqb m n ≡ true = eq-eqb m n same in cc
      apart false m n fails same = let below : n < m = leb-false m n fails in omega arith

-- ---- from one state to the next

abbrev pub Passed : SizeCheck → SizeCheck → List Size → Type 0
Passed at new sizes = (first_of at sizes ≡ None) × (new ≡ behind at sizes)

pub goes_on : (s t : SizeCheck) (a b : List Size) → Passed s t a → first_of s (a ++ b) ≡ first_of t b
goes_on s t a b h = passed s.vertex s.degree a b s.index h.0 ∙ ap (λ (u : SizeCheck). first_of u b) (sym h.1)

pub stops : (s : SizeCheck) (a b : List Size) (r : Refusal) → first_of s a ≡ Some r → first_of s (a ++ b) ≡ Some r
stops s a b r some = stopped s.vertex s.degree a b s.index r some

pub behind-append : (s t u : SizeCheck) (a b : List Size) → t ≡ behind s a → u ≡ behind t b → u ≡ behind s (a ++ b)
behind-append s t u a b first second =
    let counted : (s.index + length a) + length b ≡ s.index + length (a ++ b) = omega (arith, length-append a b) in
    second ∙ ap (λ (v : SizeCheck). behind v b) first
    ∙ ap (λ (i : ℕ). let moved : SizeCheck = record s { index = i } in moved) counted

pub then_passed : (s t u : SizeCheck) (a b : List Size) → Passed s t a → Passed t u b → Passed s u (a ++ b)
then_passed s t u a b h k = (goes_on s t a b h ∙ k.0, behind-append s t u a b h.1 k.1)

-- the answer to the second part is that to both
pub then_compares : (s t u : SizeCheck) (a b : List Size) (r : Result (Unit {0}) Refusal) → Passed s t a →
    Compares t u b r → Compares s u (a ++ b) r
then_compares s t u a b (Ok done) h k = then_passed s t u a b h k
then_compares s t u a b (Err e) h k = goes_on s t a b h ∙ k

-- the answer at the exit of a `?`
pub exit_compares : (s u : SizeCheck) (sizes : List Size) (result : Result (Unit {0}) Refusal) (y e : Refusal) →
    result ≡ Err y → y ≡ e → first_of s sizes ≡ Some e → Compares s u sizes result
exit_compares s u sizes result y e is same some =
    subst (Compares s u sizes) (sym is) (some ∙ ap (λ (r : Refusal). Some r) (sym same))

-- ---- a loop over sizes

module _ (s t : SizeCheck) (sizes : List Size) (i : ℕ) (size : Size) (within : i < length sizes)
    (read : size ≡ get_or sizes i size) where
  pub passed_more : (u : SizeCheck) → Passed s t (take i sizes) → Passed t u (size ∷ []) →
      Passed s u (take (i + 1) sizes)
  passed_more u h k =
      let front : take (i + 1) sizes ≡ take i sizes ++ size ∷ [] =
      take_more sizes i size within ∙ ap (λ (z : Size). take i sizes ++ z ∷ []) (sym read) in
      subst (λ (l : List Size). Passed s u l) (sym front) (then_passed s t u (take i sizes) (size ∷ []) h k)

  pub failed_at : (r : Refusal) → Passed s t (take i sizes) → first_of t (size ∷ []) ≡ Some r →
      first_of s sizes ≡ Some r
  failed_at r h k =
      let rest : drop i sizes ≡ size ∷ drop (suc i) sizes =
      drop-cons sizes i size within ∙ ap (λ (z : Size). z ∷ drop (suc i) sizes) (sym read) in
      let split : sizes ≡ take i sizes ++ (size ∷ drop (suc i) sizes) =
      sym (take-append-drop i sizes) ∙ ap (λ (l : List Size). take i sizes ++ l) rest in
      ap (first_of s) split ∙ goes_on s t (take i sizes) (size ∷ drop (suc i) sizes) h
      ∙ stops t (size ∷ []) (drop (suc i) sizes) r k

-- the needs of vectors, each with the same number
module _ (s t : SizeCheck) (vs : List (List Entry)) (most i : ℕ) (v : List Entry) (within : i < length vs)
    (read : v ≡ get_or vs i []) where
  abbrev size : Size
  size = at_most (need v) most

  each_within : i < length (each_at_most vs most)
  each_within = omega (arith, within, length-map vs (λ (w : List Entry). at_most (need w) most))

  each_read : size ≡ get_or (each_at_most vs most) i size
  each_read = ap (λ (w : List Entry). at_most (need w) most) read
      ∙ sym (get_or-map (λ (w : List Entry). at_most (need w) most) vs i [] size within)

  pub each_more : (u : SizeCheck) (n : ℕ) → n ≡ need v → Passed s t (take i (each_at_most vs most)) →
      Passed t u (at_most n most ∷ []) → Passed s u (take (i + 1) (each_at_most vs most))
  each_more u n is h k =
      passed_more s t (each_at_most vs most) i size each_within each_read u h
      (subst (λ m. Passed t u (at_most m most ∷ [])) is k)

  pub each_fails : (r : Refusal) (n : ℕ) → n ≡ need v → Passed s t (take i (each_at_most vs most)) →
      first_of t (at_most n most ∷ []) ≡ Some r → first_of s (each_at_most vs most) ≡ Some r
  each_fails r n is h k =
      failed_at s t (each_at_most vs most) i size each_within each_read r h
      (subst (λ m. first_of t (at_most m most ∷ []) ≡ Some r) is k)

-- a loop that has passed all sizes
pub passed_all : (s t : SizeCheck) (sizes : List Size) (i : ℕ) → length sizes ≤ i → Passed s t (take i sizes) →
    Passed s t sizes
passed_all s t sizes i past h = subst (λ (l : List Size). Passed s t l) (take_all i sizes past) h

pub passed_none : (s : SizeCheck) (sizes : List Size) → Passed s s (take 0 sizes)
passed_none s sizes =
    (refl, ap (λ (i : ℕ). let moved : SizeCheck = record s { index = i } in moved) (sym (add-zero s.index)))

-- with the numbers as the sizes have them
pub passed_as : (s t : SizeCheck) (size : ℕ → Size) (m n : ℕ) → m ≡ n → Passed s t (size m ∷ []) →
    Passed s t (size n ∷ [])
passed_as s t size m n same h = subst (λ k. Passed s t (size k ∷ [])) same h

pub compares_as : (s t : SizeCheck) (size : ℕ → Size) (m n : ℕ) (r : Result (Unit {0}) Refusal) → m ≡ n →
    Compares s t (size m ∷ []) r → Compares s t (size n ∷ []) r
compares_as s t size m n r same h = subst (λ k. Compares s t (size k ∷ []) r) same h
