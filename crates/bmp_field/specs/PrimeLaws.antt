-- The numbers below a listed prime are a field. The law that `PrimeField` cites, with its proof.
--   listed_range p      a listed prime is from 2 to 61
--   listed_inverse p    each number below it but 0 has an inverse modulo it
--   prime_laws          so the values of a prime field keep the laws of a field
use Rattle.std.proofs.Common.{◌≡◌, ◌≢◌, ℕ, zero, suc, ◌*◌, ◌%◌, ◌<◌, ◌≤◌, Bool, true, false, IsTrue, List, [], ◌∷◌, refl, arith, leb, leb-true, eqb-true, ◌∙◌, ap, sym, true≢false, inl, inr}
use Rattle.std.specs.Prelude.{◌||◌, ◌&&◌, ◌==◌}
use Rattle.std.specs.List.{list_any, list_all}
use Rattle.std.proofs.lemmas.Bool.{or_cases, and_parts, cases_eq}
use Rattle.bmp_field.specs.Primes.{listed_primes, is_listed}
use Rattle.bmp_field.specs.FieldLaws.{FieldLaws}
use Rattle.bmp_field.specs.declared.prime.PrimeField.{PrimeField}

-- a test of each number below a bound
abbrev some_below : (ℕ → Bool) → ℕ → Bool
some_below t zero = false
some_below t (suc n) = t n || some_below t n

abbrev each_below : (ℕ → Bool) → ℕ → Bool
each_below t zero = true
each_below t (suc n) = t n && each_below t n

abbrev is_inverse : ℕ → ℕ → ℕ → Bool
is_inverse p a b = ((a * b) % p) == 1

-- each number below p but 0 has an inverse
abbrev makes_field : ℕ → Bool
makes_field p = each_below (λ a. (a == 0) || some_below (is_inverse p a) p) p

found_below : (t : ℕ → Bool) (n : ℕ) → some_below t n ≡ true → (m : ℕ) × (m < n) × (t m ≡ true)
found_below t zero h = absurd (true≢false (sym h))
found_below t (suc n) h =
    elim (or_cases (t n) (some_below t n) h) [
      | inl here ↦ (n, omega arith, here)
      | inr below ↦ let m = found_below t n below in (m.0, omega arith, m.2)
    ]

holds_below : (t : ℕ → Bool) (n : ℕ) → each_below t n ≡ true → (k : ℕ) → k < n → t k ≡ true
holds_below t zero h k l = absurd (omega arith)
holds_below t (suc n) h k l =
    let parts = and_parts (t n) (each_below t n) h in
    elim (cases_eq k n) [
      | inl same ↦ ap t same ∙ parts.0
      | inr other ↦ holds_below t n parts.1 k (omega arith)
    ]

found_listed : (s t : ℕ → Bool) (qs : List ℕ) → list_any s qs ≡ true → list_all t qs ≡ true → (q : ℕ) × (s q ≡ true) ×
    (t q ≡ true)
found_listed s t [] h all = absurd (true≢false (sym h))
found_listed s t (q ∷ qs) h all =
    let parts = and_parts (t q) (list_all t qs) all in
    elim (or_cases (s q) (list_any s qs) h) [
      | inl here ↦ (q, here, parts.0)
      | inr later ↦ found_listed s t qs later parts.1
    ]

listed_makes_field : (p : ℕ) → IsTrue (is_listed p) → makes_field p ≡ true
listed_makes_field p h = let q = found_listed (λ q. p == q) makes_field listed_primes h refl in
    ap makes_field (eqb-true p q.0 q.1) ∙ q.2

pub listed_inverse : (p : ℕ) → IsTrue (is_listed p) → (n : ℕ) → n < p → n ≢ 0 → (m : ℕ) × (m < p) × ((n * m) % p ≡ 1)
listed_inverse p h n below other =
    elim (or_cases (n == 0) (some_below (is_inverse p n) p)
    (holds_below (λ a. (a == 0) || some_below (is_inverse p a) p) p (listed_makes_field p h) n below)) [
      | inl none ↦ absurd (other (eqb-true n 0 none))
      | inr some ↦ let m = found_below (is_inverse p n) p some in (m.0, m.1, eqb-true ((n * m.0) % p) 1 m.2)
    ]

pub listed_range : (p : ℕ) → IsTrue (is_listed p) → (2 ≤ p) × (p ≤ 61)
listed_range p h =
    let q = found_listed (λ q. p == q) (λ q. leb 2 q && leb q 61) listed_primes h refl in
    let e : p ≡ q.0 = eqb-true p q.0 q.1 in
    let parts = and_parts (leb 2 q.0) (leb q.0 61) q.2 in
    (rw e (leb-true 2 q.0 parts.0), rw e (leb-true q.0 61 parts.1))

at_most_256 : (p : ℕ) → p ≤ 61 → p ≤ 256
at_most_256 p h = omega arith

pub prime_laws : FieldLaws (λ (f : PrimeField). f.prime) (λ f (a : ℕ). a < f.prime) (λ f a. a)
prime_laws = record {
  at_least_two = λ f. (listed_range f.prime f.listed).0;
  at_most_256 = λ f. at_most_256 f.prime (listed_range f.prime f.listed).1;
  below_size = λ f a h. h;
  same_number = λ f a b _ _ e. e;
  each_number = λ f n h. (n, h, λ _. n);
  inverse = λ f n below other. listed_inverse f.prime f.listed n below other;
}
