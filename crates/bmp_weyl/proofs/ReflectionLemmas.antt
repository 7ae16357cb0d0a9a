-- Reflections of root pairs, as products of words.
use Rattle.std.proofs.Common.{◌≡◌, ◌≢◌, ℕ, zero, suc, ◌/◌, ◌%◌, ◌<◌, ◌≤◌, arith, sym, ap, ◌∙◌, inl, inr, ◌⊎◌, ℤ, pos, negsuc, ◌+ℤ◌, ◌-ℤ◌, ◌*ℤ◌, ◌≤ℤ◌, ◌<ℤ◌, List, ◌∷◌, ◌++◌, length, length-append, reverse}
use Rattle.std.proofs.Math.Path.{fun_ext}
use Rattle.std.proofs.Math.Nat.{mul-le-mul_left}
use Rattle.std.proofs.lemmas.Int.{ints}
use Rattle.std.proofs.lemmas.List.{length-reverse}
use Rattle.std.proofs.lemmas.List.Elements.{All-cons, All-append}
use Rattle.bmp_math.proofs.IntegerLemmas.{add-mul, mul-sub, mul_assoc}
use Rattle.bmp_roots.specs.RootPairs.{CartanMatrix, Vector, pairing, RootPair, across, simple_pair, IsRootPair, IsPositive}
use Rattle.bmp_roots.proofs.PairLemmas.{pair_two, primitive_root, one_coroot, same_pair}
use Rattle.bmp_roots.proofs.PositiveLemmas.{above_somewhere}
use Rattle.bmp_weyl.specs.Words.{IsWord, acts, IsRootSystem, length_of}
use Rattle.bmp_weyl.proofs.ActionLemmas.{acts-append, acts-reverse, word-reverse}
use Rattle.bmp_weyl.proofs.LengthLemmas.{length_same, length_parity}
use Rattle.bmp_weyl.proofs.ExchangeLemmas.{acts-across}

-- an integer is twice another, or one more
halves : (n : ℤ) → (t : ℤ) × ((n ≡ pos 2 *ℤ t) ⊎ (n ≡ pos 2 *ℤ t +ℤ pos 1))
halves (pos n) = elim
    (rest n) [ inl e ↦ (pos (n / 2), inl (omega (arith, ints))) | inr e ↦ (pos (n / 2), inr (omega (arith, ints))) ]
  where
    rest : (n : ℕ) → (n % 2 ≡ 0) ⊎ (n % 2 ≡ 1)
    rest n = grind arith
halves (negsuc n) =
    elim (rest n) [
      | inl e ↦ (negsuc (n / 2), inr (omega (arith, ints)))
      | inr e ↦
          (negsuc (n / 2), inl (omega (arith, ints)))
    ]
  where
    rest : (n : ℕ) → (n % 2 ≡ 0) ⊎ (n % 2 ≡ 1)
    rest n = grind arith

module _ (m : CartanMatrix) (roots : List Vector) (system : IsRootSystem m roots) where
  -- by the word that leads to the pair, its simple reflection, and the word backwards
  pub reflection_is_element : (q : RootPair) → IsRootPair m q → (u : List ℕ) × IsWord m u × (length u % 2 ≡ 1) ×
      (acts m u ≡ across m q)
  reflection_is_element q h =
      let u : List ℕ = h.word in
      let k : ℕ = h.first in
      let back : IsWord m (reverse u) = word-reverse m u h.letters in (
        u ++ k ∷ reverse u,
        All-append (λ k. k < m.rank) u (k ∷ reverse u) h.letters
            (All-cons (λ k. k < m.rank) k (reverse u) h.first_below back),
        omega (arith, length-append u (k ∷ reverse u), length-reverse u),
        fun_ext (λ v.
            acts-append m u (k ∷ reverse u) v
            ∙ acts-across m system.form u h.letters (simple_pair k) (acts m (reverse u) v)
            ∙ ap (λ (p : RootPair). across m p (acts m u (acts m (reverse u) v))) h.reached
            ∙ ap (across m q) (sym (acts-append m u (reverse u) v) ∙ acts-reverse m system.form u h.letters v)),
      )

  -- ---- a reflection knows its root
  -- a positive root is no multiple of another
  same_multiple : (p q : RootPair) → IsRootPair m p → IsRootPair m q → IsPositive m p.root → IsPositive m q.root
      → (t : ℤ) → ((j : ℕ) → q.root j ≡ t *ℤ p.root j) → p.root ≡ q.root
  same_multiple p q hp hq pp pq (pos zero) e =
      absurd (primitive_root m system.form 2 (omega arith) q hq (λ j l. (pos 0, omega (arith, ints, e j))))
  same_multiple p q hp hq pp pq (pos (suc zero)) e = fun_ext (λ j. omega (arith, ints, e j))
  same_multiple p q hp hq pp pq (pos (suc (suc n))) e =
      absurd (primitive_root m system.form (suc (suc n)) (omega arith) q hq (λ j l. (p.root j, e j)))
  same_multiple p q hp hq pp pq (negsuc n) e =
      let r : (j : ℕ) × (j < m.rank) × (pos 0 <ℤ p.root j) = above_somewhere m system.form system.finite p hp pp in
      absurd (below n (p.root r.0) (q.root r.0) (e r.0) r.2 (pq r.0 r.1))
    where
      below : (n : ℕ) (x y : ℤ) → y ≡ negsuc n *ℤ x → pos 0 <ℤ x → pos 0 ≤ℤ y → ⊥
      below n (pos zero) y e above least = absurd (omega (arith, ints))
      below n (pos (suc x)) (negsuc y) e above least = absurd (omega (arith, ints))
      below n (pos (suc x)) (pos y) e above least = let one : 1 ≤ suc x = omega arith in
          absurd (omega (arith, ints, mul-le-mul_left (suc n) one))
      below n (negsuc x) y e above least = absurd (omega (arith, ints))

  pub reflection_knows_root : (p q : RootPair) → IsRootPair m p → IsRootPair m q → IsPositive m p.root →
      IsPositive m q.root
      → across m p ≡ across m q → p ≡ q
  reflection_knows_root p q hp hq pp pq same =
      let n : ℤ = pairing m p.coroot q.root in
      let double : (j : ℕ) → pos 2 *ℤ q.root j ≡ n *ℤ p.root j = λ j.
      let e : across m p q.root j ≡ across m q q.root j = ap (λ (f : Vector → Vector). f q.root j) same in
      omega (arith, ints, e, ap (λ z. z *ℤ q.root j) (pair_two m system.form q hq)) in
      let half : (t : ℤ) × ((n ≡ pos 2 *ℤ t) ⊎ (n ≡ pos 2 *ℤ t +ℤ pos 1)) = halves n in
      let root : p.root ≡ q.root = elim half.1 [
        | inl even ↦
            same_multiple p q hp hq pp pq half.0 (λ j.
            omega (arith, ints, double j, ap (λ z. z *ℤ p.root j) even, mul_assoc (pos 2) half.0 (p.root j)))
        | inr odd ↦
            absurd (primitive_root m system.form 2 (omega arith) p hp (λ j l. (
              q.root j -ℤ half.0 *ℤ p.root j,
              omega (
                arith,
                ints,
                double j,
                ap (λ z. z *ℤ p.root j) odd,
                add-mul (pos 2 *ℤ half.0) (pos 1) (p.root j),
                mul_assoc (pos 2) half.0 (p.root j),
                mul-sub (pos 2) (q.root j) (half.0 *ℤ p.root j),
              ),
            )))
      ] in
      same_pair p q root (one_coroot m system.form system.finite p q hp hq root)

  -- ---- a reflection on the left changes the length
  pub reflection_changes_length : (q : RootPair) → IsRootPair m q → (u w : List ℕ) → IsWord m u → IsWord m w
      → ((v : Vector) → acts m w v ≡ across m q (acts m u v)) → length_of m roots w ≢ length_of m roots u
  reflection_changes_length q h u w first second same equal =
      let r : (t : List ℕ) × IsWord m t × (length t % 2 ≡ 1) × (acts m t ≡ across m q) = reflection_is_element q h in
      let joined : IsWord m (r.0 ++ u) = All-append (λ k. k < m.rank) r.0 u r.1 first in
      let alike : acts m w ≡ acts m (r.0 ++ u) =
      fun_ext (λ v. same v ∙ ap (λ (f : Vector → Vector). f (acts m u v)) (sym r.3)
      ∙ sym (acts-append m r.0 u v)) in
      absurd (omega (
        arith,
        equal,
        length_same m roots system w (r.0 ++ u) alike,
        length_parity m roots system (r.0 ++ u) joined,
        length_parity m roots system u first,
        length-append r.0 u,
        r.2,
      ))
