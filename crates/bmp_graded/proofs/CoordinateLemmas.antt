-- Numbers of lists of field values.
use Rattle.std.proofs.Common.{◌≡◌, ℕ, zero, suc, ◌+◌, ◌-◌, ◌<◌, List, [], ◌∷◌, ◌++◌, length, take, drop, refl, arith, length-append}
use Rattle.std.specs.List.{All, slice_range}
use Rattle.bmp_poly.specs.Coefficients.{coefficient}

-- the number of a value is below p where each value's is
pub coefficient_small : {E : Type 0} (is_value : E → Type 0) (num : E → ℕ) (p : ℕ) (xs : List E) (i : ℕ) →
    ((a : E) → is_value a → num a < p) → All is_value xs → i < length xs → coefficient num xs i < p
unfolding coefficient
coefficient_small is_value num p [] i below values inside = absurd (let none : i < 0 = inside in omega arith)
coefficient_small is_value num p (x ∷ xs) zero below values inside = below x (values 0 x inside)
coefficient_small is_value num p (x ∷ xs) (suc i) below values inside =
    let rest : suc i < suc (length xs) = inside in
    coefficient_small is_value num p xs i below (λ k d l. let deeper : suc k < suc (length xs) = omega arith in
    values (suc k) d deeper) (omega arith)

pub length_more : {E : Type 0} (xs : List E) (x : E) → length (xs ++ x ∷ []) ≡ length xs + 1
length_more xs x = simp length-append

-- one value more
pub coefficient_before : {E : Type 0} (num : E → ℕ) (xs : List E) (x : E) (i : ℕ) → i < length xs →
    coefficient num (xs ++ x ∷ []) i ≡ coefficient num xs i
unfolding coefficient
coefficient_before num [] x i inside = absurd (let none : i < 0 = inside in omega arith)
coefficient_before num (y ∷ xs) x zero inside = refl
coefficient_before num (y ∷ xs) x (suc i) inside = let rest : suc i < suc (length xs) =
    inside in coefficient_before num xs x i (omega arith)

pub coefficient_last : {E : Type 0} (num : E → ℕ) (xs : List E) (x : E) → coefficient num (xs ++ x ∷ []) (length xs)
    ≡ num x
unfolding coefficient
coefficient_last num [] x = refl
coefficient_last num (y ∷ xs) x = coefficient_last num xs x

coefficient_taken : {E : Type 0} (num : E → ℕ) (xs : List E) (n j : ℕ) → j < n →
    coefficient num (take n xs) j ≡ coefficient num xs j
unfolding coefficient
coefficient_taken num xs zero j inside = absurd (omega arith)
coefficient_taken num [] (suc n) j inside = refl
coefficient_taken num (x ∷ xs) (suc n) zero inside = refl
coefficient_taken num (x ∷ xs) (suc n) (suc j) inside = coefficient_taken num xs n j (omega arith)

coefficient_dropped : {E : Type 0} (num : E → ℕ) (xs : List E) (n j : ℕ) →
    coefficient num (drop n xs) j ≡ coefficient num xs (n + j)
unfolding coefficient
coefficient_dropped num xs zero j = let same : 0 + j ≡ j = omega arith in rw same refl
coefficient_dropped num [] (suc n) j = refl
coefficient_dropped num (x ∷ xs) (suc n) j = let same : suc n + j ≡ suc (n + j) = omega arith in
    rw same (coefficient_dropped num xs n j)

-- the values from a on, below b
pub coefficient_range : {E : Type 0} (num : E → ℕ) (xs : List E) (a b j : ℕ) → a + j < b →
    coefficient num (slice_range xs a b) j ≡ coefficient num xs (a + j)
coefficient_range num xs a b j inside =
    rw (coefficient_taken num (drop a xs) (b - a) j (omega arith)) (coefficient_dropped num xs a j)
