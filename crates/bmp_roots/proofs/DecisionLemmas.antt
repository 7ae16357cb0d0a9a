-- What can be decided, and what is not false therefore holds.
use Rattle.std.proofs.Common.{◌≡◌, ℕ, zero, suc, ◌<◌, ◌≤◌, arith, refl, sym, subst, inl, inr, ◌⊎◌, ℤ, pos, negsuc, List, [], ◌∷◌, Bool, true, false, int_eq}
use Rattle.std.proofs.lemmas.Bool.{cases_eq}
use Rattle.std.proofs.lemmas.Bool.Decides.{Decides-int_eq}
use Rattle.std.proofs.lemmas.Int.{ints}
use Rattle.std.specs.Bool.{Decides}
use Rattle.bmp_math.specs.Integers.{IsWithin}
use Rattle.bmp_math.specs.Lists.{Member, HasEachOnce}

abbrev pub Decided : Type 0 → Type 0
Decided P = P ⊎ (P → ⊥)

pub stable : {P : Type 0} → Decided P → ((P → ⊥) → ⊥) → P
stable (inl p) h = p
stable (inr never) h = absurd (h never)

decided : {P : Type 0} (r : Bool) → Decides r P → Decided P
decided true h = inl (h.0 refl)
decided false h = inr (λ p. let e : false ≡ true = h.1 p in absurd (cc))

pub both_decided : {P Q : Type 0} → Decided P → Decided Q → Decided (P × Q)
both_decided (inl p) (inl q) = inl (p, q)
both_decided (inl p) (inr never) = inr (λ h. never h.1)
both_decided (inr never) q = inr (λ h. never h.0)

pub either_decided : {P Q : Type 0} → Decided P → Decided Q → Decided (P ⊎ Q)
either_decided (inl p) q = inl (inl p)
either_decided (inr never) (inl q) = inl (inr q)
either_decided (inr never) (inr none) = inr (λ h. elim h [ inl p ↦ never p | inr q ↦ none q ])

pub same_integers : (x y : ℤ) → Decided (x ≡ y)
same_integers x y = decided (int_eq x y) (Decides-int_eq x y)

pub below_decided : (i n : ℕ) → Decided (i < n)
below_decided i n =
    elim (either i n) [ inl l ↦ inl l | inr k ↦ inr (λ l. absurd (omega arith)) ]
  where
    either : (i n : ℕ) → (i < n) ⊎ (n ≤ i)
    either i n = grind arith

pub within_decided : (n : ℕ) (z : ℤ) → Decided (IsWithin n z)
within_decided n (pos k) =
    elim (below_decided n k) [
      | inl l ↦ inr (λ h. absurd (omega (arith, ints, h.1)))
      | inr never ↦ let at_most : k ≤ n = at_least never in inl (omega (arith, ints), omega (arith, ints))
    ]
  where
    at_least : (n < k → ⊥) → k ≤ n
    at_least never = omega (arith, never)
within_decided n (negsuc k) =
    elim (below_decided k n) [
      | inl l ↦ inl (omega (arith, ints), omega (arith, ints))
      | inr never ↦ inr (λ h. never (omega (arith, ints, h.0)))
    ]

-- each number below n, or not each
pub all_below_decided : (P : ℕ → Type 0) → ((k : ℕ) → Decided (P k)) → (n : ℕ) → Decided ((k : ℕ) → k < n → P k)
all_below_decided P each zero = inl (λ k l. absurd (omega arith))
all_below_decided P each (suc n) =
    elim (all_below_decided P each n) [
      | inr some ↦ inr (λ all. some (λ k l. all k (omega arith)))
      | inl before ↦ elim (each n) [
        | inr never ↦ inr (λ all. never (all n (omega arith)))
        | inl last ↦ inl (λ k l. elim (cases_eq k n)
            [ inl e ↦ subst P (sym e) last | inr apart ↦ before k (omega arith) ])
      ]
    ]

-- some number below n, or none
pub some_below_decided : (n : ℕ) (P : ℕ → Type 0) → ((k : ℕ) → k < n → Decided (P k)) →
    Decided ((k : ℕ) × (k < n) × P k)
some_below_decided zero P each = inr (λ r. absurd (omega (arith, r.1)))
some_below_decided (suc n) P each =
    elim (some_below_decided n P (λ k l. each k (omega arith))) [
      | inl r ↦ inl (r.0, omega (arith, r.1), r.2)
      | inr none ↦ elim (each n (omega arith)) [
        | inl here ↦ inl (n, omega arith, here)
        | inr never ↦ inr
            (λ r. elim (cases_eq r.0 n)
            [ inl e ↦ never (subst P e r.2) | inr apart ↦ none (r.0, omega (arith, r.1, apart), r.2) ])
      ]
    ]

pub member_decided : {X : Type 0} (x : X) (xs : List X) → ((y : X) → Member y xs → Decided (x ≡ y)) →
    Decided (Member x xs)
member_decided x [] same = inr (λ h. h)
member_decided x (y ∷ ys) same = either_decided (same y (inl refl)) (member_decided x ys (λ z h. same z (inr h)))

pub stable_once : {X : Type 0} (xs : List X) → ((HasEachOnce xs → ⊥) → ⊥) → HasEachOnce xs
stable_once [] h = tt
stable_once (x ∷ xs) h = ((λ k. h (λ once. once.0 k)), stable_once xs (λ never. h (λ once. never once.1)))
