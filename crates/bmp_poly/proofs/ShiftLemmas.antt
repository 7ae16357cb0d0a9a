-- Monomials times polynomials.
use Rattle.std.proofs.Common.{◌≡◌, ℕ, zero, suc, ◌+◌, ◌-◌, ◌<◌, ◌≤◌, Bool, true, false, ◌&&◌, leb, leb-true, leb-false, List, [], ◌∷◌, length, get_or, refl, sym, ap, ap₂, ◌∙◌, inl, inr, arith}
use Rattle.std.proofs.lemmas.Bool.{cases_Bool, cases_lt, and_parts, lt-leb, le-leb}
use Rattle.std.specs.List.{sum}
use Rattle.bmp_poly.specs.Exponents.{IsMonomial, zeros}
use Rattle.bmp_poly.proofs.PlaceLemmas.{sum-cons}
use Rattle.bmp_poly.specs.Shifts.{contains, less, joined}

length-less : (e m : List ℕ) → length (less e m) ≡ length e
unfolding less
length-less [] [] = refl
length-less [] (y ∷ m) = refl
length-less (x ∷ e) [] = refl
length-less (x ∷ e) (y ∷ m) = ap suc (length-less e m)

pub sum-less : (e m : List ℕ) → length e ≡ length m → contains e m ≡ true → sum (less e m) + sum m ≡ sum e
unfolding less contains
sum-less [] [] l h = refl
sum-less [] (y ∷ m) l h = absurd (let e : 0 ≡ suc (length m) = l in omega arith)
sum-less (x ∷ e) [] l h = absurd (let e : suc (length e) ≡ 0 = l in omega arith)
sum-less (x ∷ e) (y ∷ m) l h =
    let parts = and_parts (leb y x) (contains e m) h in
    let le : y ≤ x = leb-true y x parts.0 in
    let sizes : suc (length e) ≡ suc (length m) = l in
    omega (arith, sum-cons (x - y) (less e m), sum-cons x e, sum-cons y m, sum-less e m (omega arith) parts.1)

less_at : (e m : List ℕ) (k : ℕ) → get_or e k 0 ≡ 0 → get_or (less e m) k 0 ≡ 0
unfolding less
less_at [] [] k h = refl
less_at [] (y ∷ m) k h = refl
less_at (x ∷ e) [] k h = h
less_at (x ∷ e) (y ∷ m) zero h = let z : x ≡ 0 = h in omega arith
less_at (x ∷ e) (y ∷ m) (suc k) h = less_at e m k h

pub less_monomial : (w r d k t : ℕ) (e m : List ℕ) → IsMonomial w r t e → IsMonomial w r k m → d + k ≡ t →
    contains e m ≡ true → IsMonomial w r d (less e m)
less_monomial w r d k t e m is_e is_m total h = record {
  long = length-less e m ∙ is_e.long;
  size = omega (arith, sum-less e m (is_e.long ∙ sym is_m.long) h, is_e.size, is_m.size);
  past = λ j l. less_at e m j (is_e.past j l);
}

pub length-joined : (m n : List ℕ) → length m ≡ length n → length (joined m n) ≡ length n
unfolding joined
length-joined [] [] l = refl
length-joined [] (y ∷ n) l = refl
length-joined (x ∷ m) [] l = l
length-joined (x ∷ m) (y ∷ n) l = let sizes : suc (length m) ≡ suc (length n) =
    l in ap suc (length-joined m n (omega arith))

sum-joined : (m n : List ℕ) → length m ≡ length n → sum (joined m n) ≡ sum m + sum n
unfolding joined
sum-joined [] [] l = refl
sum-joined [] (y ∷ n) l = absurd (let e : 0 ≡ suc (length n) = l in omega arith)
sum-joined (x ∷ m) [] l = absurd (let e : suc (length m) ≡ 0 = l in omega arith)
sum-joined (x ∷ m) (y ∷ n) l = let sizes : suc (length m) ≡ suc (length n) =
    l in omega (arith, sum-cons (x + y) (joined m n), sum-cons x m, sum-cons y n, sum-joined m n (omega arith))

joined_at : (m n : List ℕ) (k : ℕ) → get_or m k 0 ≡ 0 → get_or n k 0 ≡ 0 → get_or (joined m n) k 0 ≡ 0
unfolding joined
joined_at [] [] k h g = refl
joined_at [] (y ∷ n) k h g = g
joined_at (x ∷ m) [] k h g = h
joined_at (x ∷ m) (y ∷ n) zero h g = let a : x ≡ 0 = h in let b : y ≡ 0 = g in omega arith
joined_at (x ∷ m) (y ∷ n) (suc k) h g = joined_at m n k h g

pub joined_monomial : (w r k h : ℕ) (m n : List ℕ) → IsMonomial w r k m → IsMonomial w r h n →
    IsMonomial w r (k + h) (joined m n)
joined_monomial w r k h m n is_m is_n =
    let same : length m ≡ length n = is_m.long ∙ sym is_n.long in
    record {
      long = length-joined m n same ∙ is_n.long;
      size = omega (arith, sum-joined m n same, is_m.size, is_n.size);
      past = λ j l. joined_at m n j (is_m.past j l) (is_n.past j l);
    }

leb_sum : (a b x : ℕ) → leb b x ≡ true → leb (a + b) x ≡ leb a (x - b)
leb_sum a b x h =
    let le : b ≤ x = leb-true b x h in
    elim (cases_lt (x - b) a) [
      | inl more ↦ lt-leb (a + b) x (omega arith) ∙ sym (lt-leb a (x - b) more)
      | inr fits ↦ le-leb (a + b) x (omega arith) ∙ sym (le-leb a (x - b) fits)
    ]

pub contains-joined : (e m n : List ℕ) → length e ≡ length n → length m ≡ length n → contains e n ≡ true →
    contains e (joined m n) ≡ contains (less e n) m
unfolding contains less joined
contains-joined [] [] [] l g h = refl
contains-joined [] [] (y ∷ n) l g h = absurd (let e : 0 ≡ suc (length n) = l in omega arith)
contains-joined [] (x ∷ m) n l g h =
    absurd (let a : suc (length m) ≡ length n = g in let b : 0 ≡ length n = l in omega arith)
contains-joined (z ∷ e) m [] l g h = absurd (let a : suc (length e) ≡ 0 = l in omega arith)
contains-joined (z ∷ e) [] (y ∷ n) l g h = absurd (let a : 0 ≡ suc (length n) = g in omega arith)
contains-joined (z ∷ e) (x ∷ m) (y ∷ n) l g h =
    let parts = and_parts (leb y z) (contains e n) h in
    let a : suc (length e) ≡ suc (length n) = l in
    let b : suc (length m) ≡ suc (length n) = g in
    ap₂ (λ s t. s && t) (leb_sum x y z parts.0) (contains-joined e m n (omega arith) (omega arith) parts.1)

pub less-joined : (e m n : List ℕ) → length e ≡ length n → length m ≡ length n → less e (joined m n) ≡ less (less e n) m
unfolding less joined
less-joined [] [] [] l g = refl
less-joined [] [] (y ∷ n) l g = absurd (let e : 0 ≡ suc (length n) = l in omega arith)
less-joined [] (x ∷ m) n l g = absurd (let a : suc (length m) ≡ length n = g in let b : 0 ≡ length n = l in omega arith)
less-joined (z ∷ e) m [] l g = absurd (let a : suc (length e) ≡ 0 = l in omega arith)
less-joined (z ∷ e) [] (y ∷ n) l g = absurd (let a : 0 ≡ suc (length n) = g in omega arith)
less-joined (z ∷ e) (x ∷ m) (y ∷ n) l g =
    let a : suc (length e) ≡ suc (length n) = l in
    let b : suc (length m) ≡ suc (length n) = g in
    let first : z - (x + y) ≡ (z - y) - x = omega arith in
    ap₂ (λ (s : ℕ) (t : List ℕ). s ∷ t) first (less-joined e m n (omega arith) (omega arith))

-- what does not hold n does not hold more
pub contains-joined_false : (e m n : List ℕ) → length e ≡ length n → length m ≡ length n → contains e n ≡ false →
    contains e (joined m n) ≡ false
unfolding contains joined
contains-joined_false [] [] n l g h =
    elim n as (λ n. contains [] n ≡ false → contains [] (joined [] n) ≡ false) [ [] ↦ λ q. q | y ∷ n ↦ λ q. q ] h
contains-joined_false [] (x ∷ m) n l g h =
    absurd (let a : suc (length m) ≡ length n = g in let b : 0 ≡ length n = l in omega arith)
contains-joined_false (z ∷ e) m [] l g h = absurd (let a : suc (length e) ≡ 0 = l in omega arith)
contains-joined_false (z ∷ e) [] (y ∷ n) l g h = absurd (let a : 0 ≡ suc (length n) = g in omega arith)
contains-joined_false (z ∷ e) (x ∷ m) (y ∷ n) l g h =
    let a : suc (length e) ≡ suc (length n) = l in
    let b : suc (length m) ≡ suc (length n) = g in
    elim (cases_Bool (contains e n)) [
      | inl rest ↦
          elim (cases_Bool (leb y z)) [
            | inl fits ↦ absurd (elim (both_true (leb y z) (contains e n) fits rest h) [ ])
            | inr more ↦ let above : z < y = leb-false y z more in rw (lt-leb (x + y) z (omega arith)) refl
          ]
      | inr none ↦ let later = contains-joined_false e m n (omega arith) (omega arith) none in
          and_false (leb (x + y) z) (contains e (joined m n)) later
    ]
  where
    both_true : (s t : Bool) → s ≡ true → t ≡ true → (s && t) ≡ false → ⊥
    both_true s t u v w = let k : (true && true) ≡ false = rw (u, v) at w in cc

    and_false : (s t : Bool) → t ≡ false → (s && t) ≡ false
    and_false s t u = rw u (elim s as (λ s. (s && false) ≡ false) [ true ↦ refl | false ↦ refl ])

pub contains-zeros : (e : List ℕ) → contains e (zeros (length e)) ≡ true
unfolding contains zeros
contains-zeros [] = refl
contains-zeros (x ∷ e) = rw (le-leb 0 x (omega arith)) (contains-zeros e)

pub less-zeros : (e : List ℕ) → less e (zeros (length e)) ≡ e
unfolding less zeros
less-zeros [] = refl
less-zeros (x ∷ e) = let first : x - 0 ≡ x = omega arith in ap₂ (λ (s : ℕ) (t : List ℕ). s ∷ t) first (less-zeros e)

-- a product divided by one factor is the other
pub less-of_joined : (m g : List ℕ) → length m ≡ length g → less (joined m g) m ≡ g
unfolding less joined
less-of_joined [] [] l = refl
less-of_joined [] (y ∷ g) l = absurd (let e : 0 ≡ suc (length g) = l in omega arith)
less-of_joined (x ∷ m) [] l = absurd (let e : suc (length m) ≡ 0 = l in omega arith)
less-of_joined (x ∷ m) (y ∷ g) l =
    let e : suc (length m) ≡ suc (length g) = l in
    let first : (x + y) - x ≡ y = omega arith in
    ap₂ (λ (s : ℕ) (t : List ℕ). s ∷ t) first (less-of_joined m g (omega arith))

pub contains-of_joined : (m g : List ℕ) → length m ≡ length g → contains (joined m g) m ≡ true
unfolding contains joined
contains-of_joined [] [] l = refl
contains-of_joined [] (y ∷ g) l = absurd (let e : 0 ≡ suc (length g) = l in omega arith)
contains-of_joined (x ∷ m) [] l = absurd (let e : suc (length m) ≡ 0 = l in omega arith)
contains-of_joined (x ∷ m) (y ∷ g) l =
    let e : suc (length m) ≡ suc (length g) = l in
    rw (le-leb x (x + y) (omega arith)) (contains-of_joined m g (omega arith))

-- and a quotient times the divisor is the monomial
pub joined-less : (h m : List ℕ) → length h ≡ length m → contains h m ≡ true → joined m (less h m) ≡ h
unfolding contains less joined
joined-less [] [] l c = refl
joined-less [] (y ∷ m) l c = absurd (let e : 0 ≡ suc (length m) = l in omega arith)
joined-less (x ∷ h) [] l c = absurd (let e : suc (length h) ≡ 0 = l in omega arith)
joined-less (x ∷ h) (y ∷ m) l c =
    let e : suc (length h) ≡ suc (length m) = l in
    let parts = and_parts (leb y x) (contains h m) c in
    let le : y ≤ x = leb-true y x parts.0 in
    let first : y + (x - y) ≡ x = omega arith in
    ap₂ (λ (s : ℕ) (t : List ℕ). s ∷ t) first (joined-less h m (omega arith) parts.1)

-- a product's exponents, place by place
pub joined-at : (m g : List ℕ) (k : ℕ) → length m ≡ length g → get_or (joined m g) k 0 ≡ get_or m k 0 + get_or g k 0
unfolding joined
joined-at [] [] k l = omega arith
joined-at [] (y ∷ g) k l = absurd (let e : 0 ≡ suc (length g) = l in omega arith)
joined-at (x ∷ m) [] k l = absurd (let e : suc (length m) ≡ 0 = l in omega arith)
joined-at (x ∷ m) (y ∷ g) zero l = refl
joined-at (x ∷ m) (y ∷ g) (suc k) l = let e : suc (length m) ≡ suc (length g) = l in joined-at m g k (omega arith)
