-- The entries of the reflection of a root pair.
use Rattle.std.proofs.Common.{◌≡◌, ℕ, ◌+◌, ◌<◌, ◌≤◌, arith, sym, ap, ◌∙◌, subst, inl, inr, ◌⊎◌, ℤ, pos, ◌*ℤ◌, List, length, replicate, set, length-set, get_or, get_or-set_same, get_or-set_other}
use Rattle.std.proofs.lemmas.Bool.{cases_eq}
use Rattle.std.proofs.lemmas.Int.{ints}
use Rattle.std.proofs.lemmas.List.{length-replicate, get_or-replicate, get_or_past}
use Rattle.bmp_math.specs.Integers.{IsWithin}
use Rattle.bmp_math.specs.IntegerSums.{integer_sum, integer_unit}
use Rattle.bmp_math.proofs.IntegerLemmas.{mul-zero}
use Rattle.bmp_math.proofs.IntegerSumLemmas.{integer_sum-zeros, unit_off}
use Rattle.bmp_roots.specs.RootPairs.{CartanMatrix, Vector, entry, pairing, RootPair, across, mirrored, simple_pair, IsRootPair, HasCartanForm, HasFiniteSystem}
use Rattle.bmp_roots.proofs.ClosingLemmas.{simple_small}
use Rattle.bmp_roots.proofs.PairLemmas.{simple_is_pair, mirrored_is_pair}

module _ (m : CartanMatrix) where
  pub entry_within : HasCartanForm m → (i j : ℕ) → i < m.rank → j < m.rank → IsWithin 32 (entry m i j)
  entry_within form i j li lj =
      elim (cases_eq i j) [
        | inl e ↦ subst (λ k. IsWithin 32 (entry m i k)) e (let two : entry m i i ≡ pos 2 = form.diagonal i li in
            (omega (arith, ints), omega (arith, ints)))
        | inr apart ↦ (
          omega (arith, ints, (form.others i j li lj apart).0),
          omega (arith, ints, (form.others i j li lj apart).1),
        )
      ]

  -- no coroot has a value past the rank
  pub pairing_past : (c : Vector) (j : ℕ) → m.rank ≤ j → pairing m c (integer_unit j) ≡ pos 0
  unfolding pairing
  pairing_past c j out =
      integer_sum-zeros (λ i. c i *ℤ integer_sum (λ l. entry m i l *ℤ integer_unit j l) m.rank) m.rank (λ i l.
      ap (λ z. c i *ℤ z)
      (integer_sum-zeros (λ h. entry m i h *ℤ integer_unit j h) m.rank
      (λ h inside. ap (λ z. entry m i h *ℤ z) (unit_off j h (omega arith)) ∙ mul-zero (entry m i h)))
      ∙ mul-zero (c i))

  -- the reflection of a root pair has small entries
  pub reflection_small : HasCartanForm m → HasFiniteSystem m → (q : RootPair) → IsRootPair m q →
      (i j : ℕ) → IsWithin 32 (across m q (integer_unit j) i)
  reflection_small form finite q is i j =
      elim (below_or j m.rank) [
        | inl inside ↦ (finite.small (mirrored m q (simple_pair j))
            (mirrored_is_pair m form q is (simple_pair j) (simple_is_pair m j inside)) i).0
        | inr out ↦
            let same : across m q (integer_unit j) i ≡ integer_unit j i =
            omega (arith, ints, ap (λ z. z *ℤ q.root i) (pairing_past q.coroot j out)) in
            subst (λ z. IsWithin 32 z) (sym same) (simple_small j i).0
      ]
    where
      below_or : (a b : ℕ) → (a < b) ⊎ (b ≤ a)
      below_or a b = grind arith

pub zeros_read : (n k : ℕ) → get_or (replicate n (pos 0)) k (pos 0) ≡ pos 0
zeros_read n k = elim (below_or k n) [
  | inl l ↦ get_or-replicate n k (pos 0) (pos 0) l
  | inr out ↦ get_or_past (replicate n (pos 0)) k (pos 0)
      (omega (arith, length-replicate n (pos 0)))
]
  where
    below_or : (a b : ℕ) → (a < b) ⊎ (b ≤ a)
    below_or a b = grind arith

-- one value more: it is written, those before and behind stay
pub record AreValues (m : CartanMatrix) (c : Vector) (values : List ℤ) (n : ℕ) : Type 0 where
  pub six : length values ≡ 6
  pub before : (k : ℕ) → k < n → get_or values k (pos 0) ≡ pairing m c (integer_unit k)
  pub behind : (k : ℕ) → n ≤ k → get_or values k (pos 0) ≡ pos 0
  pub within : (k : ℕ) → IsWithin 6144 (get_or values k (pos 0))

pub value_written : (m : CartanMatrix) (c : Vector) (values : List ℤ) (n : ℕ) (v : ℤ) → n < 6 → AreValues m c values n →
    v ≡ pairing m c (integer_unit n) → IsWithin 6144 v
    → AreValues m c (set values n v) (n + 1)
value_written m c values n v l h e within = record {
  six = length-set values n v ∙ h.six;
  before = λ k below. elim (cases_eq k n) [
    | inl same ↦ ap (λ i. get_or (set values n v) i (pos 0)) same
        ∙ get_or-set_same values n v (pos 0) (omega (arith, h.six)) ∙ e
        ∙ ap (λ i. pairing m c (integer_unit i)) (sym same)
    | inr apart ↦ get_or-set_other values n k v (pos 0) apart ∙ h.before k (omega arith)
  ];
  behind = λ k past. get_or-set_other values n k v (pos 0) (λ same. absurd (omega arith)) ∙ h.behind k (omega arith);
  within = λ k. elim (cases_eq k n) [
    | inl same ↦ subst (λ z. IsWithin 6144 z)
        (sym (ap (λ i. get_or (set values n v) i (pos 0)) same
        ∙ get_or-set_same values n v (pos 0) (omega (arith, h.six)))) within
    | inr apart ↦ subst (λ z. IsWithin 6144 z) (sym (get_or-set_other values n k v (pos 0) apart)) (h.within k)
  ];
}

pub no_values : (m : CartanMatrix) (c : Vector) → AreValues m c (replicate 6 (pos 0)) 0
no_values m c = record {
  six = length-replicate 6 (pos 0);
  before = λ k l. absurd (omega arith);
  behind = λ k l. zeros_read 6 k;
  within = λ k. subst (λ z. IsWithin 6144 z) (sym (zeros_read 6 k)) (omega (arith, ints), omega (arith, ints));
}

-- the values up to the rank are all values
pub all_values : (m : CartanMatrix) (c : Vector) (values : List ℤ) → AreValues m c values m.rank →
    (k : ℕ) → get_or values k (pos 0) ≡ pairing m c (integer_unit k)
all_values m c values h k =
    elim (below_or k m.rank) [ inl l ↦ h.before k l | inr out ↦ h.behind k out ∙ sym (pairing_past m c k out) ]
  where
    below_or : (a b : ℕ) → (a < b) ⊎ (b ≤ a)
    below_or a b = grind arith
