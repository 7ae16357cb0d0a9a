-- The laws of finite systems that are stated for their own sake.
use Rattle.std.proofs.Common.{◌≡◌, ℕ, ◌<◌, ◌≤◌, arith, refl, sym, ap, ◌∙◌, subst, inl, inr, ◌⊎◌, ℤ, pos, negsuc, neg_ℤ, ◌≤ℤ◌, ◌<ℤ◌, List, [], ◌∷◌, ◌++◌, length, map, length-append}
use Rattle.std.proofs.Math.Path.{fun_ext}
use Rattle.std.proofs.lemmas.Int.{ints}
use Rattle.std.proofs.lemmas.List.{length-map}
use Rattle.bmp_math.specs.IntegerSums.{integer_unit}
use Rattle.bmp_math.specs.Lists.{Member, HasEachOnce}
use Rattle.bmp_math.proofs.ListLemmas.{length_within}
use Rattle.bmp_roots.specs.RootPairs.{CartanMatrix, Vector, RootPair, mirrored, simple_pair, IsRootPair, IsPositive, HasCartanForm, HasFiniteSystem}
use Rattle.bmp_roots.specs.PositiveRoots.{ArePositiveRoots}
use Rattle.bmp_roots.proofs.RootLemmas.{across-across, coacross-coacross}
use Rattle.bmp_roots.proofs.PairLemmas.{same_pair, simple_two, moved_is_pair, negative_is_pair}
use Rattle.bmp_roots.proofs.SignLemmas.{search_above}
use Rattle.bmp_roots.proofs.PositiveLemmas.{above_somewhere, moved_positive, root_member}

abbrev pub negated : Vector → Vector
negated v j = neg_ℤ (v j)

-- ---- a list of vectors and their negatives
negative_member : (v : Vector) (vs : List Vector) → Member v (map negated vs) → (w : Vector) × Member w vs ×
    (v ≡ negated w)
negative_member v [] h = absurd h
negative_member v (w ∷ vs) (inl e) = (w, inl refl, e)
negative_member v (w ∷ vs) (inr h) = let r : (x : Vector) × Member x vs × (v ≡ negated x) = negative_member v vs h in
    (r.0, inr r.1, r.2)

negated_twice : (v w : Vector) → negated v ≡ negated w → v ≡ w
negated_twice v w e =
    fun_ext (λ j. let at : neg_ℤ (v j) ≡ neg_ℤ (w j) = ap (λ (x : Vector). x j) e in omega (arith, ints))

negatives_once : (vs : List Vector) → HasEachOnce vs → HasEachOnce (map negated vs)
negatives_once [] once = tt
negatives_once (v ∷ vs) once = (
  (λ h. let r : (w : Vector) × Member w vs × (negated v ≡ negated w) = negative_member (negated v) vs h in
      once.0 (subst (λ (x : Vector). Member x vs) (sym (negated_twice v r.0 r.2)) r.1)),
  negatives_once vs once.1,
)

member_append : (v : Vector) (vs ws : List Vector) → Member v (vs ++ ws) → Member v vs ⊎ Member v ws
member_append v [] ws h = inr h
member_append v (w ∷ vs) ws (inl e) = inl (inl e)
member_append v (w ∷ vs) ws (inr h) = elim (member_append v vs ws h) [ inl k ↦ inl (inr k) | inr k ↦ inr k ]

once_append : (vs ws : List Vector) → HasEachOnce vs → HasEachOnce ws → ((v : Vector) → Member v vs → Member v ws → ⊥) →
    HasEachOnce (vs ++ ws)
once_append [] ws once others apart = others
once_append (v ∷ vs) ws once others apart = (
  (λ h. elim (member_append v vs ws h) [ inl k ↦ once.0 k | inr k ↦ apart v (inl refl) k ]),
  once_append vs ws once.1 others (λ w h k. apart w (inr h) k),
)

module _ (m : CartanMatrix) (form : HasCartanForm m) (finite : HasFiniteSystem m) where
  -- no root is positive and the negative of a positive vector
  not_both : (q : RootPair) → IsRootPair m q → IsPositive m q.root → IsPositive m (negated q.root) → ⊥
  not_both q h positive negative =
      let r : (j : ℕ) × (j < m.rank) × (pos 0 <ℤ q.root j) = above_somewhere m form finite q h positive in
      let above : pos 0 <ℤ q.root r.0 = r.2 in
      let below : pos 0 ≤ℤ neg_ℤ (q.root r.0) = negative r.0 r.1 in
      absurd (omega (arith, ints))

  pub one_of_two_signs : (q : RootPair) → IsRootPair m q → (IsPositive m q.root ⊎ IsPositive m (negated q.root)) ×
      (IsPositive m q.root → IsPositive m (negated q.root) → ⊥)
  one_of_two_signs q h = (
    elim (search_above m.rank m.rank q.root) [
      | inl r ↦ inl (λ i l. not_below i (λ below. finite.one_sign q h i r.0 below r.3))
      | inr flat ↦ inr (λ i l. let most : q.root i ≤ℤ pos 0 = flat i l (omega arith) in omega (arith, ints))
    ],
    not_both q h,
  )
    where
      not_below : (i : ℕ) → (q.root i <ℤ pos 0 → ⊥) → pos 0 ≤ℤ q.root i
      not_below i never = by_sign (q.root i) never
        where
          by_sign : (z : ℤ) → (z <ℤ pos 0 → ⊥) → pos 0 ≤ℤ z
          by_sign (pos n) k = omega (arith, ints)
          by_sign (negsuc n) k = absurd (k (omega (arith, ints)))

  pub at_most_36 : (roots : List Vector) → ArePositiveRoots m roots → length roots ≤ 36
  at_most_36 roots are =
      let both : List Vector = roots ++ map negated roots in
      let all : List Vector = map (λ q. q.root) finite.pairs in
      let once : HasEachOnce both =
      once_append roots (map negated roots) are.once (negatives_once roots are.once) (λ v h k.
      let r : (q : RootPair) × IsRootPair m q × (q.root ≡ v) × IsPositive m v = are.each v h in
      let n : (w : Vector) × Member w roots × (v ≡ negated w) = negative_member v roots k in
      let s : (q : RootPair) × IsRootPair m q × (q.root ≡ n.0) × IsPositive m n.0 = are.each n.0 n.1 in
      let turned : negated r.0.root ≡ n.0 =
      ap negated (r.2 ∙ n.2) ∙ fun_ext (λ j. let twice : neg_ℤ (neg_ℤ (n.0 j)) ≡ n.0 j = omega (arith, ints) in
      twice) in
      not_both r.0 r.1 (subst (λ (x : Vector). IsPositive m x) (sym r.2) r.3)
      (subst (λ (x : Vector). IsPositive m x) (sym turned) s.3)) in
      let inside : (v : Vector) → Member v both → Member v all =
      λ v h. elim (member_append v roots (map negated roots) h) [
        | inl k ↦
            let r : (q : RootPair) × IsRootPair m q × (q.root ≡ v) × IsPositive m v = are.each v k in
            subst (λ (x : Vector). Member x all) r.2 (root_member m r.0 finite.pairs (finite.each_pair r.0 r.1))
        | inr k ↦
            let n : (w : Vector) × Member w roots × (v ≡ negated w) = negative_member v roots k in
            let r : (q : RootPair) × IsRootPair m q × (q.root ≡ n.0) × IsPositive m n.0 = are.each n.0 n.1 in
            let minus : RootPair = record { root = negated r.0.root; coroot = negated r.0.coroot } in
            subst (λ (x : Vector). Member x all) (ap negated r.2 ∙ sym n.2)
            (root_member m minus finite.pairs (finite.each_pair minus (negative_is_pair m form r.0 r.1)))
      ] in
      omega (
        arith,
        length_within both all once inside,
        length-append roots (map negated roots),
        length-map roots negated,
        length-map finite.pairs (λ (q : RootPair). q.root),
        finite.at_most_72,
      )

  -- the simple reflection k permutes the positive pairs other than its own
  pub simple_permutes : (k : ℕ) → k < m.rank → (q : RootPair) → IsRootPair m q → IsPositive m q.root →
      (q.root ≡ integer_unit k → ⊥)
      → let p : RootPair = mirrored m (simple_pair k) q in
      IsRootPair m p × IsPositive m p.root × (p.root ≡ integer_unit k → ⊥) × (mirrored m (simple_pair k) p ≡ q)
  simple_permutes k l q h positive apart =
      let p : RootPair = mirrored m (simple_pair k) q in
      let moved : IsPositive m p.root × (p.root ≡ integer_unit k → ⊥) =
      moved_positive m form finite k l q h positive apart in (
        moved_is_pair m k q l h,
        moved.0,
        moved.1,
        same_pair (mirrored m (simple_pair k) p) q (across-across m (simple_pair k) q.root (simple_two m form k l))
            (coacross-coacross m (simple_pair k) q.coroot (simple_two m form k l)),
      )
