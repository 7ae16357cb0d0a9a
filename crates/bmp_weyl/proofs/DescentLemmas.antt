-- Right descents, and the word of least right descents.
use Rattle.std.proofs.Common.{◌≡◌, ℕ, zero, suc, ◌+◌, ◌-◌, ◌<◌, ◌≤◌, arith, refl, sym, ap, ◌∙◌, subst, inl, inr, ℤ, pos, negsuc, ◌*ℤ◌, ◌≤ℤ◌, List, [], ◌∷◌, ◌++◌, length, length-append, take, drop, reverse, get_or, append_assoc, Bool, true, false, count_by, cond}
use Rattle.std.proofs.Math.Path.{fun_ext}
use Rattle.std.proofs.lemmas.Bool.{cases_eq}
use Rattle.std.proofs.lemmas.Int.{ints}
use Rattle.std.proofs.lemmas.List.{append-nil, reverse-append, length-reverse, length-drop, take-append-drop, take-append-le, take_at, get_or_append_left, get_or_at, get_or-reverse}
use Rattle.std.proofs.lemmas.List.Sums.{sum_by-cons}
use Rattle.std.proofs.lemmas.List.Elements.{All-append, All-drop}
use Rattle.bmp_math.specs.IntegerSums.{integer_sum, integer_unit}
use Rattle.bmp_math.specs.Lists.{Member}
use Rattle.bmp_roots.specs.RootPairs.{CartanMatrix, Vector, RootPair, IsRootPair, IsPositive}
use Rattle.bmp_roots.specs.PositiveRoots.{has_negative}
use Rattle.bmp_roots.proofs.SignLemmas.{not_negative, all_not_negative}
use Rattle.bmp_roots.proofs.PositiveLemmas.{root_past}
use Rattle.bmp_weyl.specs.Words.{IsWord, acts, IsRootSystem, length_of, IsReduced, IsRightDescent, IsLeastDescent, IsDescentWord}
use Rattle.bmp_weyl.proofs.ActionLemmas.{acts-append, acts_sum, acts-reverse}
use Rattle.bmp_weyl.proofs.LengthLemmas.{length_by_one, length_same, length_identity}
use Rattle.bmp_weyl.proofs.ExchangeLemmas.{descent_negative, negative_descent, length_zero}

product_least : (a b : ℤ) → pos 0 ≤ℤ a → pos 0 ≤ℤ b → pos 0 ≤ℤ (a *ℤ b)
product_least (pos a) (pos b) h k = omega (arith, ints)
product_least (pos a) (negsuc b) h k = absurd (omega (arith, ints))
product_least (negsuc a) b h k = absurd (omega (arith, ints))

sum_least : (f : ℕ → ℤ) (n : ℕ) → ((i : ℕ) → i < n → pos 0 ≤ℤ f i) → pos 0 ≤ℤ integer_sum f n
unfolding integer_sum
sum_least f zero h = omega (arith, ints)
sum_least f (suc n) h = omega (arith, ints, sum_least f n (λ i l. h i (omega arith)), h n (omega arith))

module _ (m : CartanMatrix) (roots : List Vector) (system : IsRootSystem m roots) where
  -- products that act alike have one length behind each letter
  same_behind : (u w : List ℕ) → acts m u ≡ acts m w → (k : ℕ) → acts m (u ++ k ∷ []) ≡ acts m (w ++ k ∷ [])
  same_behind u w e k =
      fun_ext (λ v. acts-append m u (k ∷ []) v ∙ ap (λ (f : Vector → Vector). f (acts m (k ∷ []) v)) e
      ∙ sym (acts-append m w (k ∷ []) v))

  descent_same : (u w : List ℕ) → acts m u ≡ acts m w → (k : ℕ) → IsRightDescent m roots u k →
      IsRightDescent m roots w k
  descent_same u w e k h =
      omega (
        arith,
        h,
        length_same m roots system u w e,
        length_same m roots system (u ++ k ∷ []) (w ++ k ∷ []) (same_behind u w e k),
      )

  pub least_same : (u w : List ℕ) → acts m u ≡ acts m w → (k : ℕ) → IsLeastDescent m roots u k →
      IsLeastDescent m roots w k
  least_same u w e k h = record {
    descent = descent_same u w e k h.descent;
    least = λ j l d. h.least j l (descent_same w u (sym e) j d);
  }

  -- a product without a right descent is the identity
  no_length : (u : List ℕ) → IsWord m u → ((k : ℕ) → k < m.rank → IsRightDescent m roots u k → ⊥) →
      length_of m roots u ≡ 0
  no_length u letters never = none roots (λ b h. system.positive.each b h)
    where
      columns : (k i : ℕ) → k < m.rank → i < m.rank → pos 0 ≤ℤ acts m u (integer_unit k) i
      columns k i l inside =
          not_negative m.rank (acts m u (integer_unit k))
          (decided (has_negative m.rank (acts m u (integer_unit k)))
          (λ h. never k l (negative_descent m roots system u letters k l h))) i inside
        where
          decided : (b : Bool) → (b ≡ true → ⊥) → b ≡ false
          decided true h = absurd (h refl)
          decided false h = refl

      stays : (b : Vector) → (q : RootPair) × IsRootPair m q × (q.root ≡ b) × IsPositive m b → (i : ℕ) → i < m.rank →
          pos 0 ≤ℤ acts m u b i
      stays b (q, is, same, positive) i inside =
          let past : (j : ℕ) → m.rank ≤ j → b j ≡ pos 0 = λ j out. sym (ap (λ v. v j) same) ∙ root_past m j out q is in
          subst (λ z. pos 0 ≤ℤ z) (sym (acts_sum m u m.rank b i past))
          (sum_least (λ l. b l *ℤ acts m u (integer_unit l) i) m.rank
          (λ l below. product_least (b l) (acts m u (integer_unit l) i) (positive l below)
          (columns l i below inside)))

      none : (bs : List Vector) →
          ((b : Vector) → Member b bs → (q : RootPair) × IsRootPair m q × (q.root ≡ b) × IsPositive m b) →
          count_by (λ b. has_negative m.rank (acts m u b)) bs ≡ 0
      none [] each = refl
      none (b ∷ bs) each =
          let here : has_negative m.rank (acts m u b) ≡ false =
          decided (has_negative m.rank (acts m u b))
          (all_not_negative m.rank (acts m u b) (stays b (each b (inl refl)))) in
          omega (
            arith,
            sum_by-cons (λ v. cond {A = ℕ} (has_negative m.rank (acts m u v)) 1 0) b bs,
            ap (λ (t : Bool). cond {A = ℕ} t 1 0) here,
            none bs (λ v h. each v (inr h)),
          )
        where
          decided : (t : Bool) → (t ≡ true → ⊥) → t ≡ false
          decided true h = absurd (h refl)
          decided false h = refl

  pub no_descent : (u : List ℕ) → IsWord m u → ((k : ℕ) → k < m.rank → IsRightDescent m roots u k → ⊥) →
      acts m u ≡ acts m []
  no_descent u letters never = length_zero m roots system u letters (no_length u letters never)

  -- ---- least right descents taken off from the right, one after another, as a loop does
  pub record HasTakenOff (u off : List ℕ) : Type 0 where
    pub shorter : length_of m roots (u ++ off) + length off ≡ length_of m roots u
    pub descents : (j : ℕ) → j < length off → IsLeastDescent m roots (u ++ take j off) (get_or off j 0)

  pub nothing_taken : (u : List ℕ) → HasTakenOff u []
  nothing_taken u =
      record { shorter = omega (arith, ap (length_of m roots) (append-nil u)); descents = λ j l. absurd (omega arith) }

  pub one_taken : (u off : List ℕ) (k : ℕ) → IsWord m u → IsWord m off → k < m.rank → HasTakenOff u off →
      IsLeastDescent m roots (u ++ off) k → HasTakenOff u (off ++ k ∷ [])
  one_taken u off k letters behind l h least = record {
    shorter =
        let joined : u ++ off ++ k ∷ [] ≡ u ++ (off ++ k ∷ []) = append_assoc u off (k ∷ []) in
        omega (
          arith,
          h.shorter,
          length-append off (k ∷ []),
          ap (length_of m roots) joined,
          (length_by_one m roots system (u ++ off) (All-append (λ k. k < m.rank) u off letters behind) k l).0
              (descent_negative m roots system (u ++ off) (All-append (λ k. k < m.rank) u off letters behind) k l
              least.descent),
        );
    descents = λ j inside.
        elim (cases_eq j (length off)) [
          | inl same ↦
              subst (λ i. IsLeastDescent m roots (u ++ take i (off ++ k ∷ [])) (get_or (off ++ k ∷ []) i 0)) (sym same)
              (subst (λ (w : List ℕ). IsLeastDescent m roots (u ++ w) (get_or (off ++ k ∷ []) (length off) 0))
              (sym (take_at off (k ∷ []) (length off) refl))
              (subst (λ i. IsLeastDescent m roots (u ++ off) i) (sym (get_or_at off k [] 0 (length off) refl)) least))
          | inr apart ↦
              let before : j < length off = omega (arith, length-append off (k ∷ [])) in
              subst (λ (w : List ℕ). IsLeastDescent m roots (u ++ w) (get_or (off ++ k ∷ []) j 0))
              (sym (take-append-le j off (k ∷ []) (omega arith)))
              (subst (λ i. IsLeastDescent m roots (u ++ take j off) i)
              (sym (get_or_append_left off (k ∷ []) 0 j before)) (h.descents j before))
        ];
  }

  -- what was taken off, backwards, acts like the word where the identity is left
  taken_acts : (u off : List ℕ) → IsWord m off → acts m (u ++ off) ≡ acts m [] → acts m (reverse off) ≡ acts m u
  taken_acts u off behind identity = fun_ext (λ v.
      sym (ap (acts m u) (sym (sym (acts-append m off (reverse off) v) ∙ acts-reverse m system.form off behind v))
      ∙ sym (acts-append m u off (acts m (reverse off) v))
      ∙ ap (λ (f : Vector → Vector). f (acts m (reverse off) v)) identity))

  pub all_taken : (u off : List ℕ) → IsWord m u → IsWord m off → HasTakenOff u off → acts m (u ++ off) ≡ acts m []
      → (acts m (reverse off) ≡ acts m u) × IsReduced m roots (reverse off) × IsDescentWord m roots (reverse off)
  all_taken u off letters behind h identity =
      let same : acts m (reverse off) ≡ acts m u = taken_acts u off behind identity in (
        same,
        omega (
          arith,
          h.shorter,
          length-reverse off,
          length_same m roots system (reverse off) u same,
          length_same m roots system (u ++ off) [] identity,
          length_identity m roots system,
        ),
        λ i inside.
            let n : ℕ = length off in
            let long : length (reverse off) ≡ n = length-reverse off in
            let j : ℕ = n - 1 - i in
            let below : j < n = omega (arith, long) in
            let split : reverse off ≡ reverse (drop j off) ++ reverse (take j off) =
            ap reverse (sym (take-append-drop j off)) ∙ reverse-append (take j off) (drop j off) in
            let size : length (reverse (drop j off)) ≡ i + 1 =
            omega (arith, length-reverse (drop j off), length-drop j off, long) in
            let front : take (i + 1) (reverse off) ≡ reverse (drop j off) =
            ap (take (i + 1)) split ∙ take_at (reverse (drop j off)) (reverse (take j off)) (i + 1) size in
            let joined : u ++ take j off ++ drop j off ≡ u ++ off = append_assoc u (take j off) (drop j off)
            ∙ ap (λ (w : List ℕ). u ++ w) (take-append-drop j off) in
            let alike : acts m (reverse (drop j off)) ≡ acts m (u ++ take j off) =
            taken_acts (u ++ take j off) (drop j off) (All-drop (λ k. k < m.rank) j off behind)
            (ap (acts m) joined ∙ identity) in
            let letter : get_or (reverse off) i 0 ≡ get_or off j 0 = get_or-reverse off i 0 (omega (arith, long)) in
            subst (λ (w : List ℕ). IsLeastDescent m roots w (get_or (reverse off) i 0)) (sym front)
            (subst (λ k. IsLeastDescent m roots (reverse (drop j off)) k) (sym letter)
            (least_same (u ++ take j off) (reverse (drop j off)) (sym alike) (get_or off j 0) (h.descents j below))),
      )
