-- Length changes by one, is at most the number of letters, and has its parity.
use Rattle.std.proofs.Common.{◌≡◌, ℕ, ◌+◌, ◌%◌, ◌<◌, ◌≤◌, arith, refl, sym, ap, ◌∙◌, subst, inl, inr, ◌⊎◌, ℤ, pos, neg_ℤ, ◌-ℤ◌, ◌*ℤ◌, ◌≤ℤ◌, ◌<ℤ◌, List, [], ◌∷◌, ◌++◌, length, Bool, true, false, count_by, cond}
use Rattle.std.proofs.Math.Path.{fun_ext}
use Rattle.std.proofs.lemmas.Int.{ints}
use Rattle.std.proofs.lemmas.List.Sums.{sum_by-cons}
use Rattle.std.proofs.lemmas.List.Elements.{All-head, All-tail, All-append, All-nil, All-cons}
use Rattle.bmp_math.specs.IntegerSums.{integer_unit}
use Rattle.bmp_math.specs.Lists.{Member}
use Rattle.bmp_math.proofs.IntegerSumLemmas.{unit_at}
use Rattle.bmp_math.proofs.ListLemmas.{without, count_without, kept_without, inside_without, once_without, gone_without, count_under}
use Rattle.bmp_roots.specs.RootPairs.{CartanMatrix, Vector, pairing, RootPair, across, mirrored, simple_pair, walk, IsRootPair, IsPositive}
use Rattle.bmp_roots.specs.PositiveRoots.{has_negative}
use Rattle.bmp_roots.proofs.RootLemmas.{across-across}
use Rattle.bmp_roots.proofs.PairLemmas.{simple_is_pair, moved_is_pair}
use Rattle.bmp_roots.proofs.SignLemmas.{negative_place, place_negative, not_negative, all_not_negative}
use Rattle.bmp_roots.proofs.PositiveLemmas.{above_somewhere, positive_from, moved_positive}
use Rattle.bmp_roots.proofs.LawLemmas.{at_most_36}
use Rattle.bmp_weyl.specs.Words.{IsWord, acts, IsRootSystem, length_of}
use Rattle.bmp_weyl.proofs.ActionLemmas.{acts-append, acts-minus_times, walk-root, simple_two}

module _ (m : CartanMatrix) (roots : List Vector) (system : IsRootSystem m roots) where
  unit_in : (k : ℕ) → k < m.rank → Member (integer_unit k) roots
  unit_in k l = system.positive.all (simple_pair k) (simple_is_pair m k l)
      (positive_from m system.form system.finite (simple_pair k) (simple_is_pair m k l) k
      (let one : integer_unit k k ≡ pos 1 = unit_at k in omega (arith, ints)))

  kept_rest : (k : ℕ) (l : k < m.rank) (b : Vector) → Member b (without (integer_unit k) roots (unit_in k l)) →
      Member (across m (simple_pair k) b) (without (integer_unit k) roots (unit_in k l))
  kept_rest k l b h =
      let r : (q : RootPair) × IsRootPair m q × (q.root ≡ b) × IsPositive m b =
      system.positive.each b (inside_without (integer_unit k) b roots (unit_in k l) h) in
      let apart : r.0.root ≡ integer_unit k → ⊥ =
      λ e. gone_without (integer_unit k) roots (unit_in k l) system.positive.once
      (subst (λ v. Member v (without (integer_unit k) roots (unit_in k l))) (sym r.2 ∙ e) h) in
      let moved : IsPositive m (across m (simple_pair k) r.0.root) ×
      (across m (simple_pair k) r.0.root ≡ integer_unit k → ⊥) =
      moved_positive m system.form system.finite k l r.0 r.1 (subst (λ v. IsPositive m v) (sym r.2) r.3) apart in
      subst (λ v. Member (across m (simple_pair k) v) (without (integer_unit k) roots (unit_in k l))) r.2
      (kept_without (integer_unit k) (across m (simple_pair k) r.0.root) roots (unit_in k l)
      (system.positive.all (mirrored m (simple_pair k) r.0) (moved_is_pair m k r.0 l r.1) moved.0) moved.1)

  opposite : (u : List ℕ) → IsWord m u → (k : ℕ) → k < m.rank
      → (has_negative m.rank (acts m u (integer_unit k)) ≡ true →
      has_negative m.rank (acts m u (across m (simple_pair k) (integer_unit k))) ≡ false)
      × (has_negative m.rank (acts m u (integer_unit k)) ≡ false →
      has_negative m.rank (acts m u (across m (simple_pair k) (integer_unit k))) ≡ true)
  opposite u letters k l =
      let q : RootPair = walk m u (simple_pair k) in
      let is : IsRootPair m q = record { word = u; letters = letters; first = k; first_below = l; reached = refl } in
      let x : Vector = acts m u (integer_unit k) in
      let same : q.root ≡ x = walk-root m u (simple_pair k) in
      let minus : (j : ℕ) → acts m u (across m (simple_pair k) (integer_unit k)) j ≡ neg_ℤ (x j) = λ j.
      let t : ℤ = pairing m (integer_unit k) (integer_unit k) in
      let e : acts m u (across m (simple_pair k) (integer_unit k)) j ≡ x j -ℤ t *ℤ x j =
      ap (λ v. v j) (acts-minus_times m u (integer_unit k) (integer_unit k) t) in
      omega (arith, ints, e, ap (λ z. z *ℤ x j) (simple_two m system.form k l)) in (
        (λ h. let r : (j : ℕ) × (j < m.rank) × (x j <ℤ pos 0) = negative_place m.rank x h in
            let below : q.root r.0 <ℤ pos 0 = subst (λ v. v r.0 <ℤ pos 0) (sym same) r.2 in
            decided (has_negative m.rank (acts m u (across m (simple_pair k) (integer_unit k)))) (λ p.
            let s : (j : ℕ) × (j < m.rank) × (acts m u (across m (simple_pair k) (integer_unit k)) j <ℤ pos 0) =
            negative_place m.rank (acts m u (across m (simple_pair k) (integer_unit k))) p in
            let flip : acts m u (across m (simple_pair k) (integer_unit k)) s.0 ≡ neg_ℤ (x s.0) = minus s.0 in
            let less : acts m u (across m (simple_pair k) (integer_unit k)) s.0 <ℤ pos 0 = s.2 in
            let above : pos 0 <ℤ x s.0 = omega (arith, ints) in
            system.finite.one_sign q is r.0 s.0 below (subst (λ v. pos 0 <ℤ v s.0) (sym same) above))),
        (λ h. let r : (j : ℕ) × (j < m.rank) × (pos 0 <ℤ q.root j) = above_somewhere m system.form system.finite q is
            (λ j i. subst (λ v. pos 0 ≤ℤ v j) (sym same) (not_negative m.rank x h j i)) in
            let above : pos 0 <ℤ x r.0 = subst (λ v. pos 0 <ℤ v r.0) same r.2 in
            let flip : acts m u (across m (simple_pair k) (integer_unit k)) r.0 ≡ neg_ℤ (x r.0) = minus r.0 in
            place_negative m.rank (acts m u (across m (simple_pair k) (integer_unit k))) r.0 r.1 (omega (arith, ints))),
      )
    where
      decided : (b : Bool) → (b ≡ true → ⊥) → b ≡ false
      decided true h = absurd (h refl)
      decided false h = refl

  -- one more letter makes the length one more or one less
  pub length_by_one : (u : List ℕ) → IsWord m u → (k : ℕ) → k < m.rank
      → (has_negative m.rank (acts m u (integer_unit k)) ≡ true →
      length_of m roots (u ++ k ∷ []) + 1 ≡ length_of m roots u)
      × (has_negative m.rank (acts m u (integer_unit k)) ≡ false →
      length_of m roots (u ++ k ∷ []) ≡ length_of m roots u + 1)
  length_by_one u letters k l =
      let p : Vector → Bool = λ v. has_negative m.rank (acts m u v) in
      let f : Vector → Vector = λ v. across m (simple_pair k) v in
      let here : Member (integer_unit k) roots = unit_in k l in
      let rest : List Vector = without (integer_unit k) roots here in
      let opened : length_of m roots (u ++ k ∷ []) ≡ count_by (λ b. p (f b)) roots =
      ap (λ (q : Vector → Bool). count_by q roots)
      (fun_ext (λ b. ap (λ v. has_negative m.rank v) (acts-append m u (k ∷ []) b))) in
      let new : count_by (λ b. p (f b)) roots ≡ cond {A = ℕ} (p (f (integer_unit k))) 1 0 + count_by (λ b. p (f b))
      rest = count_without (λ b. p (f b)) (integer_unit k) roots here in
      let old : count_by p roots ≡ cond {A = ℕ} (p (integer_unit k)) 1 0 + count_by p rest =
      count_without p (integer_unit k) roots here in
      let same : count_by (λ b. p (f b)) rest ≡ count_by p rest =
      count_under f (λ v. across-across m (simple_pair k) v (simple_two m system.form k l)) rest
      (once_without (integer_unit k) roots here system.positive.once) (kept_rest k l) p in
      let turn : (p (integer_unit k) ≡ true → p (f (integer_unit k)) ≡ false) ×
      (p (integer_unit k) ≡ false → p (f (integer_unit k)) ≡ true) = opposite u letters k l in (
        (λ h. let a : cond {A = ℕ} (p (integer_unit k)) 1 0 ≡ 1 = ap (λ (b : Bool). cond {A = ℕ} b 1 0) h in
            let b : cond {A = ℕ} (p (f (integer_unit k))) 1 0 ≡ 0 = ap (λ (b : Bool). cond {A = ℕ} b 1 0) (turn.0 h) in
            omega (arith, opened, new, old, same, a, b)),
        (λ h. let a : cond {A = ℕ} (p (integer_unit k)) 1 0 ≡ 0 = ap (λ (b : Bool). cond {A = ℕ} b 1 0) h in
            let b : cond {A = ℕ} (p (f (integer_unit k))) 1 0 ≡ 1 = ap (λ (b : Bool). cond {A = ℕ} b 1 0) (turn.1 h) in
            omega (arith, opened, new, old, same, a, b)),
      )

  -- products that act alike are equally long
  pub length_same : (u w : List ℕ) → acts m u ≡ acts m w → length_of m roots u ≡ length_of m roots w
  length_same u w e = ap (λ (f : Vector → Vector). count_by (λ b. has_negative m.rank (f b)) roots) e

  pub length_identity : length_of m roots [] ≡ 0
  length_identity = none roots (λ b h. all_not_negative m.rank b (system.positive.each b h).3)
    where
      none : (bs : List Vector) → ((b : Vector) → Member b bs → has_negative m.rank b ≡ true → ⊥) →
          count_by (λ b. has_negative m.rank b) bs ≡ 0
      none [] never = refl
      none (b ∷ bs) never =
          let here : has_negative m.rank b ≡ false = decided (has_negative m.rank b) (never b (inl refl)) in
          omega (
            arith,
            sum_by-cons (λ v. cond {A = ℕ} (has_negative m.rank v) 1 0) b bs,
            ap (λ (t : Bool). cond {A = ℕ} t 1 0) here,
            none bs (λ v h. never v (inr h)),
          )
        where
          decided : (t : Bool) → (t ≡ true → ⊥) → t ≡ false
          decided true h = absurd (h refl)
          decided false h = refl

  -- the two cases of one letter more
  pub length_step : (u : List ℕ) → IsWord m u → (k : ℕ) → k < m.rank
      → (length_of m roots (u ++ k ∷ []) ≡ length_of m roots u + 1) ⊎
      (length_of m roots (u ++ k ∷ []) + 1 ≡ length_of m roots u)
  length_step u letters k l =
      elim (test (has_negative m.rank (acts m u (integer_unit k)))) [
        | inl negative ↦ inr ((length_by_one u letters k l).0 negative)
        | inr positive ↦ inl ((length_by_one u letters k l).1 positive)
      ]
    where
      test : (b : Bool) → (b ≡ true) ⊎ (b ≡ false)
      test true = inl refl
      test false = inr refl

  -- a word behind another changes the length by at most its letters, and the parity by them
  pub length_behind : (u w : List ℕ) → IsWord m u → IsWord m w
      → (length_of m roots (u ++ w) ≤ length_of m roots u + length w)
      × (length_of m roots (u ++ w) % 2 ≡ (length_of m roots u + length w) % 2)
  length_behind u [] letters behind =
      let same : length_of m roots (u ++ []) ≡ length_of m roots u =
      length_same (u ++ []) u (fun_ext (λ v. acts-append m u [] v)) in (
        omega (arith, same),
        ap (λ n. n % 2) (let e : length_of m roots (u ++ []) ≡ length_of m roots u + 0 = omega (arith, same) in e),
      )
  length_behind u (k ∷ w) letters behind =
      let here : k < m.rank = All-head (λ k. k < m.rank) k w behind in
      let rest : IsWord m w = All-tail (λ k. k < m.rank) k w behind in
      let single : IsWord m (k ∷ []) = All-cons (λ k. k < m.rank) k [] here (All-nil (λ k. k < m.rank)) in
      let one : IsWord m (u ++ k ∷ []) = All-append (λ k. k < m.rank) u (k ∷ []) letters single in
      let more : (length_of m roots (u ++ k ∷ [] ++ w) ≤ length_of m roots (u ++ k ∷ []) + length w)
      × (length_of m roots (u ++ k ∷ [] ++ w) % 2 ≡ (length_of m roots (u ++ k ∷ []) + length w) % 2) =
      length_behind (u ++ k ∷ []) w one rest in
      let same : length_of m roots (u ++ k ∷ [] ++ w) ≡ length_of m roots (u ++ k ∷ w) =
      length_same (u ++ k ∷ [] ++ w) (u ++ k ∷ w)
      (fun_ext (λ v. acts-append m (u ++ k ∷ []) w v ∙ acts-append m u (k ∷ []) (acts m w v)
      ∙ sym (acts-append m u (k ∷ w) v))) in
      elim (length_step u letters k here) [
        | inl up ↦ (omega (arith, more.0, same, up), omega (arith, more.1, same, up))
        | inr down ↦ (omega (arith, more.0, same, down), omega (arith, more.1, same, down))
      ]

  pub length_at_most : (u : List ℕ) → IsWord m u → length_of m roots u ≤ length u
  length_at_most u letters = omega (arith, (length_behind [] u (All-nil (λ k. k < m.rank)) letters).0, length_identity)

  pub length_parity : (u : List ℕ) → IsWord m u → length_of m roots u % 2 ≡ length u % 2
  length_parity u letters = (length_behind [] u (All-nil (λ k. k < m.rank)) letters).1
      ∙ ap (λ n. (n + length u) % 2) length_identity
      ∙ ap (λ n. n % 2) (let e : 0 + length u ≡ length u = omega arith in e)

  pub length_at_most_36 : (u : List ℕ) → length_of m roots u ≤ 36
  length_at_most_36 u = omega (arith, counted roots, at_most_36 m system.form system.finite roots system.positive)
    where
      counted : (bs : List Vector) → count_by (λ b. has_negative m.rank (acts m u b)) bs ≤ length bs
      counted [] = omega arith
      counted (b ∷ bs) =
          omega (
            arith,
            sum_by-cons (λ v. cond {A = ℕ} (has_negative m.rank (acts m u v)) 1 0) b bs,
            at_most_one (has_negative m.rank (acts m u b)),
            counted bs,
          )
        where
          at_most_one : (t : Bool) → cond {A = ℕ} t 1 0 ≤ 1
          at_most_one true = omega arith
          at_most_one false = omega arith
