-- Members and counts, where a test tells elements apart: a permutation keeps the members, each once.
use Rattle.std.proofs.Common.{◌≡◌, ℕ, zero, suc, ◌+◌, ◌<◌, ◌≤◌, arith, refl, sym, ap, ◌∙◌, subst, inl, inr, List, [], ◌∷◌, length, get_or, Bool, true, false, cond, count_by}
use Rattle.std.proofs.lemmas.List.Sums.{sum_by-cons}
use Rattle.std.proofs.lemmas.List.Sorted.{sum_by-IsPermutation}
use Rattle.std.specs.List.Sorted.{IsPermutation}
use Rattle.bmp_math.specs.Lists.{Member, HasEachOnce}
use Rattle.bmp_math.proofs.ListLemmas.{member_at}

module _ {X : Type 0} (eq : X → X → Bool) (same : (a b : X) → eq a b ≡ true → a ≡ b) (self : (a : X) → eq a a ≡ true)
  where
    count_more : (x y : X) (xs : List X) → count_by (eq x) (y ∷ xs) ≡ cond (eq x y) 1 0 + count_by (eq x) xs
    count_more x y xs = sum_by-cons (λ z. cond (eq x z) 1 0) y xs

    one_at : (b : Bool) → b ≡ true → cond {A = ℕ} b 1 0 ≡ 1
    one_at b h = ap (λ c. cond {A = ℕ} c 1 0) h

    member_counted : (x : X) (xs : List X) → Member x xs → 1 ≤ count_by (eq x) xs
    member_counted x [] h = absurd h
    member_counted x (y ∷ xs) (inl e) = omega (arith, count_more x y xs, one_at (eq x y) (ap (eq x) (sym e) ∙ self x))
    member_counted x (y ∷ xs) (inr h) = omega (arith, count_more x y xs, member_counted x xs h)

    counted_member : (x : X) (xs : List X) → 1 ≤ count_by (eq x) xs → Member x xs
    counted_member x [] h = absurd (omega (arith, h))
    counted_member x (y ∷ xs) h = by (eq x y) refl (omega (arith, h, count_more x y xs)) (counted_member x xs)
      where
        by : (b : Bool) → eq x y ≡ b → 1 ≤ cond b 1 0 + count_by (eq x) xs → (1 ≤ count_by (eq x) xs → Member x xs) →
            Member x (y ∷ xs)
        by true e k again = inl (same x y e)
        by false e k again = inr (again (omega (arith, k)))

    once_counted : (x : X) (xs : List X) → HasEachOnce xs → count_by (eq x) xs ≤ 1
    once_counted x [] once = omega arith
    once_counted x (y ∷ xs) once = by (eq x y) refl (count_more x y xs) (once_counted x xs once.1)
      where
        by : (b : Bool) → eq x y ≡ b → count_by (eq x) (y ∷ xs) ≡ cond b 1 0 + count_by (eq x) xs →
            count_by (eq x) xs ≤ 1 → count_by (eq x) (y ∷ xs) ≤ 1
        by false e is rest = omega (arith, is, rest)
        by true e is rest =
            none (count_by (eq x) xs) (λ h. once.0 (subst (λ z. Member z xs) (same x y e) (counted_member x xs h))) is
          where
            none : (n : ℕ) → (1 ≤ n → ⊥) → count_by (eq x) (y ∷ xs) ≡ 1 + n → count_by (eq x) (y ∷ xs) ≤ 1
            none zero never is = omega (arith, is)
            none (suc n) never is = absurd (never (omega arith))

    counted_once : (xs : List X) → ((x : X) → count_by (eq x) xs ≤ 1) → HasEachOnce xs
    counted_once [] h = tt
    counted_once (y ∷ xs) h = (
      (λ k. absurd (omega (arith, h y, count_more y y xs, one_at (eq y y) (self y), member_counted y xs k))),
      counted_once xs (λ x. omega (arith, h x, count_more x y xs)),
    )

    same_counts : (x : X) (xs ys : List X) → IsPermutation xs ys → count_by (eq x) ys ≡ count_by (eq x) xs
    same_counts x xs ys h = sum_by-IsPermutation (λ z. cond (eq x z) 1 0) xs ys h

    pub permuted_once : (xs ys : List X) → IsPermutation xs ys → HasEachOnce xs → HasEachOnce ys
    permuted_once xs ys h once = counted_once ys (λ x. omega (arith, same_counts x xs ys h, once_counted x xs once))

    pub permuted_member : (x : X) (xs ys : List X) → IsPermutation xs ys → Member x xs → Member x ys
    permuted_member x xs ys h k = counted_member x ys (omega (arith, same_counts x xs ys h, member_counted x xs k))

    pub member_permuted : (x : X) (xs ys : List X) → IsPermutation xs ys → Member x ys → Member x xs
    member_permuted x xs ys h k = counted_member x xs (omega (arith, same_counts x xs ys h, member_counted x ys k))

-- ---- by places
module _ {X : Type 0} where
  pub once_apart : (xs : List X) → HasEachOnce xs → (i j : ℕ) (d : X) → i < length xs → j < length xs →
      get_or xs i d ≡ get_or xs j d → i ≡ j
  once_apart [] once i j d l k e = absurd (omega arith)
  once_apart (x ∷ xs) once zero zero d l k e = refl
  once_apart (x ∷ xs) once zero (suc j) d l k e =
      absurd (once.0 (subst (λ z. Member z xs) (sym e) (member_at xs j d (omega arith))))
  once_apart (x ∷ xs) once (suc i) zero d l k e =
      absurd (once.0 (subst (λ z. Member z xs) e (member_at xs i d (omega arith))))
  once_apart (x ∷ xs) once (suc i) (suc j) d l k e = ap suc (once_apart xs once.1 i j d (omega arith) (omega arith) e)

  -- what holds of the first i members alone is counted i times
  pub count_prefix : (p : X → Bool) (xs : List X) (i : ℕ) (d : X) → i ≤ length xs
      → ((k : ℕ) → k < i → p (get_or xs k d) ≡ true) → ((k : ℕ) → i ≤ k → k < length xs → p (get_or xs k d) ≡ false) →
      count_by p xs ≡ i
  count_prefix p [] i d l before after = omega (arith, l)
  count_prefix p (x ∷ xs) zero d l before after =
      let first : p x ≡ false = after 0 (omega arith) (omega arith) in
      omega (
        arith,
        sum_by-cons (λ z. cond {A = ℕ} (p z) 1 0) x xs,
        ap (λ (b : Bool). cond {A = ℕ} b 1 0) first,
        count_prefix p xs 0 d (omega arith) (λ k h. absurd (omega arith))
            (λ k h m. after (suc k) (omega arith) (omega arith)),
      )
  count_prefix p (x ∷ xs) (suc i) d l before after =
      let first : p x ≡ true = before 0 (omega arith) in
      omega (
        arith,
        sum_by-cons (λ z. cond {A = ℕ} (p z) 1 0) x xs,
        ap (λ (b : Bool). cond {A = ℕ} b 1 0) first,
        count_prefix p xs i d (omega arith) (λ k h. before (suc k) (omega arith))
            (λ k h m. after (suc k) (omega arith) (omega arith)),
      )
