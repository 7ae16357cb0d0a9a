-- Places that rise below a bound, one by one, and lists whose members all fit.
use Rattle.std.proofs.Common.{◌≡◌, ℕ, zero, suc, ◌+◌, ◌<◌, ◌≤◌, List, length, get_or, subst, inl, inr, ap, sym, arith}
use Rattle.std.specs.List.{All}
use Rattle.std.proofs.lemmas.List.{get_or_default}
use Rattle.std.specs.List.Sorted.{IsStrictlyIncreasing}
use Rattle.std.proofs.lemmas.Bool.{cases_eq}

-- the first k places rise and are below n, and `least` is past them
pub record RisesSoFar (ps : List ℕ) (n k least : ℕ) : Type 0 where
  pub rise : (i : ℕ) → i + 1 < k → get_or ps i 0 < get_or ps (i + 1) 0
  pub below : (i : ℕ) → i < k → get_or ps i 0 < n
  pub first : k ≡ 0 → least ≡ 0
  pub later : (i : ℕ) → i + 1 ≡ k → least ≡ get_or ps i 0 + 1

pub rises_none : (ps : List ℕ) (n : ℕ) → RisesSoFar ps n 0 0
rises_none ps n =
    record {
      rise = λ i l. absurd (omega arith);
      below = λ i l. absurd (omega arith);
      first = λ e. e;
      later = λ i e. absurd (omega arith);
    }

pub rises_more : (ps : List ℕ) (n k least : ℕ) → RisesSoFar ps n k least → least ≤ get_or ps k 0 → get_or ps k 0 < n →
    RisesSoFar ps n (k + 1) (get_or ps k 0 + 1)
rises_more ps n k least so_far after within = record {
  rise = λ i l. elim (cases_eq (i + 1) k) [
    | inl last ↦
        let past : least ≡ get_or ps i 0 + 1 = so_far.later i last in
        let here : get_or ps (i + 1) 0 ≡ get_or ps k 0 = ap (λ j. get_or ps j 0) last in
        omega arith
    | inr other ↦ so_far.rise i (omega arith)
  ];
  below = λ i l. elim (cases_eq i k) [
    | inl last ↦ let here : get_or ps i 0 ≡ get_or ps k 0 = ap (λ j. get_or ps j 0) last in omega arith
    | inr other ↦ so_far.below i (omega arith)
  ];
  first = λ e. absurd (omega arith);
  later = λ i e. let same : i ≡ k = omega arith in ap (λ j. get_or ps j 0 + 1) (sym same);
}

pub rises_all : (ps : List ℕ) (n k least : ℕ) → length ps ≤ k → RisesSoFar ps n k least → IsStrictlyIncreasing ps ×
    All (λ q. q < n) ps
rises_all ps n k least l so_far = (
  λ i m. so_far.rise i (omega arith),
  λ i d m. let here : get_or ps i 0 < n = so_far.below i (omega arith) in
      rw (get_or_default ps i d 0 m) here,
)

-- a place that is too low, or too high, shows that they do not rise below n
pub too_low : (ps : List ℕ) (n k least : ℕ) → k < length ps → RisesSoFar ps n k least → get_or ps k 0 < least →
    IsStrictlyIncreasing ps × All (λ q. q < n) ps → ⊥
too_low ps n zero least l so_far low rises = let none : least ≡ 0 = so_far.first (omega arith) in absurd (omega arith)
too_low ps n (suc i) least l so_far low rises =
    let next : i + 1 ≡ suc i = omega arith in
    let past : least ≡ get_or ps i 0 + 1 = so_far.later i next in
    let above : get_or ps i 0 < get_or ps (i + 1) 0 = rises.0 i (omega arith) in
    let here : get_or ps (i + 1) 0 ≡ get_or ps (suc i) 0 = ap (λ j. get_or ps j 0) next in
    omega arith

pub too_high : (ps : List ℕ) (n k : ℕ) → k < length ps → n ≤ get_or ps k 0 → IsStrictlyIncreasing ps ×
    All (λ q. q < n) ps → ⊥
too_high ps n k l high rises = let below : get_or ps k 0 < n = rises.1 k 0 l in omega arith

-- what holds of each member up to the last holds of all
pub all_from_index : {X : Type 0} (P : X → Type 0) (xs : List X) (i : ℕ) (e : X) → length xs ≤ i →
    ((k : ℕ) → k < i → P (get_or xs k e)) → All P xs
all_from_index P xs i e l h k d m = subst P (get_or_default xs k e d m) (h k (omega arith))
