-- Monomials without one variable, as lists of one exponent fewer or with a further 0.
use Rattle.std.proofs.Common.{◌≡◌, ℕ, zero, suc, ◌+◌, ◌-◌, ◌<◌, ◌≤◌, List, [], ◌∷◌, ◌++◌, length, get_or, take, drop, refl, ap, ap₂, ◌∙◌, arith, drop-cons, drop_of_length-le, length-append}
use Rattle.std.specs.List.{sum}
use Rattle.bmp_math.specs.Sums.{sum_below}
use Rattle.bmp_poly.specs.Exponents.{IsMonomial, count, place, exponents, zeros, level}
use Rattle.bmp_poly.proofs.PlaceLemmas.{sum-cons, exponents_stand, StandsAt}
use Rattle.bmp_graded.specs.Quotients.{insert, remove}
use Rattle.bmp_graded.proofs.QuotientLemmas.{insert_monomial, remove_monomial}

-- with one exponent more, which is 0
take_zeros : (w : ℕ) → take w (zeros (suc w)) ≡ zeros w
unfolding zeros
take_zeros zero = refl
take_zeros (suc w) = ap (λ (m : List ℕ). 0 ∷ m) (take_zeros w)

pub exponents_narrower : (w r d i : ℕ) → r ≤ w → take w (exponents (suc w) r d i) ≡ exponents w r d i
unfolding exponents
exponents_narrower w zero d i wide = take_zeros w
exponents_narrower zero (suc r) d i wide = absurd (omega arith)
exponents_narrower (suc w) (suc r) d i wide = let j = level (count r) i d in
    ap (λ (m : List ℕ). (d - j) ∷ m) (exponents_narrower w r j (i - sum_below (count r) j) (omega arith))

-- a list with its last member, which is 0, put in at a
pub rotated_right : (a n : ℕ) (xs : List ℕ) → a ≤ n → length xs ≡ suc n → get_or xs n 0 ≡ 0 →
    take a xs ++ (drop (n - a) (drop a xs) ++ take (n - a) (drop a xs)) ≡ insert a (take n xs)
unfolding insert
rotated_right zero n xs le long last =
    let all : n - 0 ≡ n = omega arith in
    let past : length xs ≤ suc n = omega arith in
    let empty : drop (suc n) xs ≡ [] = drop_of_length-le xs past in
    let one : drop n xs ≡ 0 ∷ [] =
    drop-cons xs n 0 (omega arith) ∙ ap₂ (λ (x : ℕ) (rest : List ℕ). x ∷ rest) last empty in
    rw (all, one) refl
rotated_right (suc a) zero xs le long last = absurd (omega arith)
rotated_right (suc a) (suc n) [] le long last = absurd (let none : 0 ≡ suc (suc n) = long in omega arith)
rotated_right (suc a) (suc n) (x ∷ xs) le long last =
    let rest : suc (length xs) ≡ suc (suc n) = long in
    let size : suc n - suc a ≡ n - a = omega arith in
    rw size (ap (λ (m : List ℕ). x ∷ m) (rotated_right a n xs (omega arith) (omega arith) last))

pub remove_parts : (l : ℕ) (e : List ℕ) → remove l e ≡ take l e ++ drop (suc l) e
unfolding remove
remove_parts zero [] = refl
remove_parts zero (x ∷ e) = refl
remove_parts (suc l) [] = refl
remove_parts (suc l) (x ∷ e) = ap (λ (m : List ℕ). x ∷ m) (remove_parts l e)

-- the monomials without the l-th of r variables
pub without_monomial : (r l d i : ℕ) → l < r → r ≤ 6 → i < count (r - 1) d →
    IsMonomial 6 r d (insert l (exponents 5 (r - 1) d i))
without_monomial zero l d i here wide inside = absurd (omega arith)
without_monomial (suc r) l d i here wide inside =
    let less_one : suc r - 1 ≡ r = omega arith in
    let below : i < count r d = rw less_one at inside in
    let stands : StandsAt 5 r d i (exponents 5 r d i) = exponents_stand 5 r d i (omega arith) below in
    rw less_one (insert_monomial 5 r d l (exponents 5 r d i) (omega arith) (omega arith) stands.monomial)

-- with no variable there is the monomial of degree 0 alone
pub count_one : (r d : ℕ) → r ≤ 0 → d ≡ 0 → count r d ≡ 1
unfolding count
count_one r d few none = let at : r ≡ 0 = omega arith in rw (at, none) refl

pub count_no : (r d : ℕ) → r ≤ 0 → (d ≡ 0 → ⊥) → count r d ≡ 0
unfolding count
count_no r zero few other = absurd (other refl)
count_no r (suc d) few other = let at : r ≡ 0 = omega arith in rw at refl
