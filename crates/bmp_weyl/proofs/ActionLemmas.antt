-- What the products of words make of vectors.
use Rattle.std.proofs.Common.{◌≡◌, ℕ, zero, suc, ◌<◌, ◌≤◌, arith, refl, sym, ap, ◌∙◌, subst, inl, inr, ◌⊎◌, ℤ, pos, ◌-ℤ◌, ◌*ℤ◌, List, [], ◌∷◌, ◌++◌, reverse}
use Rattle.std.proofs.Math.Path.{fun_ext}
use Rattle.std.proofs.lemmas.Bool.{cases_eq}
use Rattle.std.proofs.lemmas.Int.{ints}
use Rattle.std.proofs.lemmas.List.{reverse-append}
use Rattle.std.proofs.lemmas.List.Elements.{All-head, All-tail, All-nil, All-cons, All-append}
use Rattle.std.specs.List.{All}
use Rattle.bmp_math.specs.IntegerSums.{integer_sum, integer_unit}
use Rattle.bmp_math.specs.Integers.{IsWithin}
use Rattle.bmp_math.proofs.IntegerLemmas.{mul-sub, sub-mul, mul_assoc, mul-zero}
use Rattle.bmp_math.proofs.IntegerSumLemmas.{integer_sum-zeros, integer_sum_same, unit_at, unit_off}
use Rattle.bmp_roots.specs.RootPairs.{CartanMatrix, Vector, entry, pairing, minus_times, across, simple_pair, walk, RootPair, IsRootPair, HasCartanForm, HasFiniteSystem}
use Rattle.bmp_roots.proofs.RootLemmas.{pairing-minus_right, pairing-unit_left, pairing-units, across-across}
use Rattle.bmp_roots.proofs.ClosingLemmas.{simple_small}
use Rattle.bmp_weyl.specs.Words.{IsWord, acts}

pub All-reverse : {X : Type 0} (P : X → Type 0) (xs : List X) → All P xs → All P (reverse xs)
All-reverse P [] h = h
All-reverse P (x ∷ xs) h =
    subst (All P) (sym (reverse-append (x ∷ []) xs))
    (All-append P (reverse xs) (x ∷ []) (All-reverse P xs (All-tail P x xs h))
    (All-cons P x [] (All-head P x xs h) (All-nil P)))

module _ (m : CartanMatrix) where
  -- ---- words
  pub acts-append : (u w : List ℕ) (v : Vector) → acts m (u ++ w) v ≡ acts m u (acts m w v)
  acts-append [] w v = refl
  acts-append (k ∷ u) w v = ap (across m (simple_pair k)) (acts-append u w v)

  pub across-minus_times : (q : RootPair) (v b : Vector) (t : ℤ) →
      across m q (minus_times v t b) ≡ minus_times (across m q v) t (across m q b)
  across-minus_times q v b t = fun_ext (λ j.
      let x : ℤ = pairing m q.coroot v in
      let y : ℤ = pairing m q.coroot b in
      let e : pairing m q.coroot (minus_times v t b) ≡ x -ℤ t *ℤ y = pairing-minus_right m q.coroot v b t in
      omega (
        arith,
        ints,
        ap (λ z. z *ℤ q.root j) e,
        sub-mul x (t *ℤ y) (q.root j),
        mul-sub t (b j) (y *ℤ q.root j),
        mul_assoc t y (q.root j),
      ))

  pub acts-minus_times : (u : List ℕ) (v b : Vector) (t : ℤ) →
      acts m u (minus_times v t b) ≡ minus_times (acts m u v) t (acts m u b)
  acts-minus_times [] v b t = refl
  acts-minus_times (k ∷ u) v b t = ap (across m (simple_pair k)) (acts-minus_times u v b t)
      ∙ across-minus_times (simple_pair k) (acts m u v) (acts m u b) t

  pub walk-root : (u : List ℕ) (q : RootPair) → (walk m u q).root ≡ acts m u q.root
  walk-root [] q = refl
  walk-root (k ∷ u) q = ap (across m (simple_pair k)) (walk-root u q)

  acts_nothing : (u : List ℕ) (w : Vector) → ((j : ℕ) → w j ≡ pos 0) → (i : ℕ) → acts m u w i ≡ pos 0
  acts_nothing u w h i =
      let same : w ≡ minus_times w (pos 1) w = fun_ext (λ j. omega (arith, ints, h j)) in
      let e : acts m u w i ≡ acts m u w i -ℤ pos 1 *ℤ acts m u w i =
      ap (λ v. acts m u v i) same ∙ ap (λ v. v i) (acts-minus_times u w w (pos 1)) in
      omega (arith, ints, e)

  -- what a word makes of a vector, by what it makes of the integer_unit vectors
  pub acts_sum : (u : List ℕ) (n : ℕ) (w : Vector) (i : ℕ) → ((j : ℕ) → n ≤ j → w j ≡ pos 0) →
      acts m u w i ≡ integer_sum (λ l. w l *ℤ acts m u (integer_unit l) i) n
  unfolding integer_sum
  acts_sum u zero w i past = acts_nothing u w (λ j. past j (omega arith)) i
  acts_sum u (suc n) w i past =
      let less : Vector = minus_times w (w n) (integer_unit n) in
      let gone : (j : ℕ) → n ≤ j → less j ≡ pos 0 = λ j out.
      elim (cases_eq j n) [
        | inl e ↦
            let one : integer_unit n j ≡ pos 1 = ap (λ k. integer_unit n k) e ∙ unit_at n in
            let at : w j ≡ w n = ap w e in
            omega (arith, ints, ap (λ z. w n *ℤ z) one)
        | inr apart ↦
            let none : integer_unit n j ≡ pos 0 = unit_off n j apart in
            let zero_there : w j ≡ pos 0 = past j (omega arith) in
            omega (arith, ints, ap (λ z. w n *ℤ z) none)
      ] in
      let kept : (l : ℕ) → l < n → less l *ℤ acts m u (integer_unit l) i ≡ w l *ℤ acts m u (integer_unit l) i =
      λ l inside.
      let none : integer_unit n l ≡ pos 0 = unit_off n l (omega arith) in
      let same : less l ≡ w l = omega (arith, ints, ap (λ z. w n *ℤ z) none) in
      ap (λ z. z *ℤ acts m u (integer_unit l) i) same in
      let split : acts m u less i ≡ acts m u w i -ℤ w n *ℤ acts m u (integer_unit n) i =
      ap (λ v. v i) (acts-minus_times u w (integer_unit n) (w n)) in
      omega (
        arith,
        ints,
        split,
        acts_sum u n less i gone,
        integer_sum_same (λ l. less l *ℤ acts m u (integer_unit l) i) (λ l. w l *ℤ acts m u (integer_unit l) i) n
            kept,
      )

  pub acts_past : m.rank ≤ 6 → (u : List ℕ) → IsWord m u → (v : Vector) → ((j : ℕ) → 6 ≤ j → v j ≡ pos 0) →
      (j : ℕ) → 6 ≤ j → acts m u v j ≡ pos 0
  acts_past rank [] letters v past j out = past j out
  acts_past rank (k ∷ u) letters v past j out =
      let l : k < m.rank = All-head (λ k. k < m.rank) k u letters in
      let before : acts m u v j ≡ pos 0 = acts_past rank u (All-tail (λ k. k < m.rank) k u letters) v past j out in
      let none : integer_unit k j ≡ pos 0 = unit_off k j (omega arith) in
      omega (arith, ints, ap (λ z. pairing m (integer_unit k) (acts m u v) *ℤ z) none)

  pub acts_unit_past : (u : List ℕ) → IsWord m u → (j : ℕ) → m.rank ≤ j → acts m u (integer_unit j) ≡ integer_unit j
  acts_unit_past [] letters j out = refl
  acts_unit_past (k ∷ u) letters j out =
      ap (across m (simple_pair k)) (acts_unit_past u (All-tail (λ k. k < m.rank) k u letters) j out) ∙ fixed
    where
      fixed : across m (simple_pair k) (integer_unit j) ≡ integer_unit j
      fixed = fun_ext (λ i.
          let l : k < m.rank = All-head (λ k. k < m.rank) k u letters in
          let none : pairing m (integer_unit k) (integer_unit j) ≡ pos 0 =
          pairing-unit_left m k (integer_unit j) l ∙ integer_sum-zeros (λ h. entry m k h *ℤ integer_unit j h) m.rank
          (λ h inside. ap (λ z. entry m k h *ℤ z) (unit_off j h (omega arith)) ∙ mul-zero (entry m k h)) in
          omega (arith, ints, ap (λ z. z *ℤ integer_unit k i) none))

  pub columns_within : HasFiniteSystem m → (u : List ℕ) → IsWord m u → (i j : ℕ) → j < m.rank →
      IsWithin 32 (acts m u (integer_unit j) i)
  columns_within finite u letters i j l =
      let q : RootPair = walk m u (simple_pair j) in
      let is : IsRootPair m q = record { word = u; letters = letters; first = j; first_below = l; reached = refl } in
      subst (λ v. IsWithin 32 (v i)) (walk-root u (simple_pair j)) (finite.small q is i).0

  pub columns_small : HasFiniteSystem m → (u : List ℕ) → IsWord m u →
      (i j : ℕ) → IsWithin 32 (acts m u (integer_unit j) i)
  columns_small finite u letters i j =
      elim (below_or j m.rank) [
        | inl inside ↦ columns_within finite u letters i j inside
        | inr out ↦ subst (λ v. IsWithin 32 (v i)) (sym (acts_unit_past u letters j out)) (simple_small j i).0
      ]
    where
      below_or : (a b : ℕ) → (a < b) ⊎ (b ≤ a)
      below_or a b = grind arith

  -- vectors that are 0 below the rank stay as they are
  pub acts_outside : (u : List ℕ) → IsWord m u → (v : Vector) → ((j : ℕ) → j < m.rank → v j ≡ pos 0) → acts m u v ≡ v
  acts_outside [] letters v none = refl
  acts_outside (k ∷ u) letters v none =
      ap (across m (simple_pair k)) (acts_outside u (All-tail (λ k. k < m.rank) k u letters) v none) ∙ fixed
    where
      fixed : across m (simple_pair k) v ≡ v
      fixed = fun_ext (λ i.
          let l : k < m.rank = All-head (λ k. k < m.rank) k u letters in
          let nothing : pairing m (integer_unit k) v ≡ pos 0 =
          pairing-unit_left m k v l ∙ integer_sum-zeros (λ h. entry m k h *ℤ v h) m.rank
          (λ h inside. ap (λ z. entry m k h *ℤ z) (none h inside) ∙ mul-zero (entry m k h)) in
          omega (arith, ints, ap (λ z. z *ℤ integer_unit k i) nothing))

  module _ (form : HasCartanForm m) where
    pub simple_two : (k : ℕ) → k < m.rank → pairing m (integer_unit k) (integer_unit k) ≡ pos 2
    simple_two k l = pairing-units m k k l l ∙ form.diagonal k l

    -- a letter twice is nothing
    pub acts_twice : (k : ℕ) → k < m.rank → (v : Vector) → acts m (k ∷ k ∷ []) v ≡ v
    acts_twice k l v = across-across m (simple_pair k) v (simple_two k l)

    -- a word, and then before it the word backwards, is nothing
    pub acts-reverse : (u : List ℕ) → IsWord m u → (v : Vector) → acts m (u ++ reverse u) v ≡ v
    acts-reverse [] letters v = refl
    acts-reverse (k ∷ u) letters v =
        let backwards : reverse (k ∷ u) ≡ reverse u ++ k ∷ [] = reverse-append (k ∷ []) u in
        let inner : acts m u (acts m (reverse (k ∷ u)) v) ≡ across m (simple_pair k) v =
        ap (λ (w : List ℕ). acts m u (acts m w v)) backwards ∙ ap (acts m u) (acts-append (reverse u) (k ∷ []) v)
        ∙ sym (acts-append u (reverse u) (across m (simple_pair k) v))
        ∙ acts-reverse u (All-tail (λ k. k < m.rank) k u letters) (across m (simple_pair k) v) in
        ap (across m (simple_pair k)) (acts-append u (reverse (k ∷ u)) v ∙ inner)
        ∙ across-across m (simple_pair k) v (simple_two k (All-head (λ k. k < m.rank) k u letters))

  pub word-reverse : (u : List ℕ) → IsWord m u → IsWord m (reverse u)
  word-reverse u letters = All-reverse (λ k. k < m.rank) u letters
