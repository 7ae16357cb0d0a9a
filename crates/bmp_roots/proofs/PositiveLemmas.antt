-- Positive roots: their signs, and what a simple reflection makes of them.
use Rattle.std.proofs.Common.{◌≡◌, ◌≢◌, ℕ, zero, suc, ◌<◌, ◌≤◌, arith, refl, sym, ap, ◌∙◌, subst, inl, inr, ◌⊎◌, ℤ, pos, negsuc, ◌*ℤ◌, ◌≤ℤ◌, ◌<ℤ◌, List, [], ◌∷◌, Bool, true, false, cond, not, map}
use Rattle.std.proofs.Math.Path.{fun_ext}
use Rattle.std.proofs.lemmas.Bool.{cases_eq}
use Rattle.std.proofs.lemmas.Int.{ints}
use Rattle.bmp_math.specs.Integers.{Divides}
use Rattle.bmp_math.specs.IntegerSums.{integer_unit}
use Rattle.bmp_math.specs.Lists.{Member, HasEachOnce}
use Rattle.bmp_math.proofs.IntegerSumLemmas.{unit_at, unit_off}
use Rattle.bmp_roots.specs.RootPairs.{CartanMatrix, Vector, pairing, RootPair, across, mirrored, simple_pair, IsRootPair, IsZeroPast, IsPositive, AreRootPairs, HasCartanForm, HasFiniteSystem}
use Rattle.bmp_roots.specs.PositiveRoots.{has_negative, positive_pairs, positive_roots, ArePositiveRoots}
use Rattle.bmp_roots.proofs.SignLemmas.{not_negative, all_not_negative, search_above}
use Rattle.bmp_roots.proofs.PairLemmas.{least, moved_is_pair, primitive_root, one_coroot, same_pair}

module _ (m : CartanMatrix) where
  -- a root pair is 0 past the rank
  pub root_past : (j : ℕ) → m.rank ≤ j → (q : RootPair) → IsRootPair m q → q.root j ≡ pos 0
  root_past j out = least m (λ q. q.root j ≡ pos 0)
      (λ k l. unit_off k j (omega arith))
      (λ k q l h.
      let none : integer_unit k j ≡ pos 0 = unit_off k j (omega arith) in
      omega (arith, ints, ap (λ z. pairing m (integer_unit k) q.root *ℤ z) none, h))

  pub coroot_past : (j : ℕ) → m.rank ≤ j → (q : RootPair) → IsRootPair m q → q.coroot j ≡ pos 0
  coroot_past j out = least m (λ q. q.coroot j ≡ pos 0)
      (λ k l. unit_off k j (omega arith))
      (λ k q l h.
      let none : integer_unit k j ≡ pos 0 = unit_off k j (omega arith) in
      omega (arith, ints, ap (λ z. pairing m q.coroot (integer_unit k) *ℤ z) none, h))

  pub pair_is_zero_past : (q : RootPair) → IsRootPair m q → IsZeroPast m.rank q
  pair_is_zero_past q h j out = (root_past j out q h, coroot_past j out q h)

  module _ (form : HasCartanForm m) (finite : HasFiniteSystem m) where
    -- a root that is not negative has a coordinate above 0
    pub above_somewhere : (q : RootPair) → IsRootPair m q → IsPositive m q.root → (j : ℕ) × (j < m.rank) ×
        (pos 0 <ℤ q.root j)
    above_somewhere q h positive =
        elim (search_above m.rank m.rank q.root) [
          | inl r ↦ (r.0, r.1, r.3)
          | inr none ↦ absurd (primitive_root m form 2 (omega arith) q h (λ j l.
              let flat : q.root j ≤ℤ pos 0 = none j l (omega arith) in
              let least : pos 0 ≤ℤ q.root j = positive j l in
              (pos 0, omega (arith, ints))))
        ]

    -- a positive root other than the simple root k has a coordinate above 0 away from k
    above_away : (k : ℕ) → k < m.rank → (q : RootPair) → IsRootPair m q → IsPositive m q.root →
        (q.root ≡ integer_unit k → ⊥)
        → ((j : ℕ) → m.rank ≤ j → q.root j ≡ pos 0) → (j : ℕ) × (j < m.rank) × (j ≢ k) × (pos 0 <ℤ q.root j)
    above_away k l q h positive apart past =
        elim (search_above m.rank k q.root) [
          | inl r ↦ r
          | inr none ↦
              let flat : (j : ℕ) → j ≢ k → q.root j ≡ pos 0 = λ j away. at_place j away none in
              absurd (by_value (q.root k) refl flat)
        ]
      where
        at_place : (j : ℕ) → j ≢ k → ((j : ℕ) → j < m.rank → j ≢ k → q.root j ≤ℤ pos 0) → q.root j ≡ pos 0
        at_place j away none =
            elim (below_or j m.rank) [
              | inl inside ↦
                  let a : q.root j ≤ℤ pos 0 = none j inside away in
                  let b : pos 0 ≤ℤ q.root j = positive j inside in
                  omega (arith, ints)
              | inr out ↦ past j out
            ]
          where
            below_or : (i n : ℕ) → (i < n) ⊎ (n ≤ i)
            below_or i n = grind arith

        divided : (n : ℕ) (t : ℤ) → q.root k ≡ pos n *ℤ t → ((j : ℕ) → j ≢ k → q.root j ≡ pos 0) →
            (j : ℕ) → j < m.rank → Divides n (q.root j)
        divided n t e flat j inside =
            elim (cases_eq j k) [
              | inl same ↦ (t, ap q.root same ∙ e)
              | inr away ↦ (pos 0, flat j away ∙ (let z : pos 0 ≡ pos n *ℤ pos 0 = omega (arith, ints) in z))
            ]

        by_value : (z : ℤ) → q.root k ≡ z → ((j : ℕ) → j ≢ k → q.root j ≡ pos 0) → ⊥
        by_value (pos zero) e flat =
            primitive_root m form 2 (omega arith) q h
            (divided 2 (pos 0) (e ∙ (let z : pos 0 ≡ pos 2 *ℤ pos 0 = omega (arith, ints) in z)) flat)
        by_value (pos (suc zero)) e flat = apart (fun_ext (λ j.
            elim (cases_eq j k) [
              | inl same ↦ ap q.root same ∙ e ∙ sym (ap (λ i. integer_unit k i) same ∙ unit_at k)
              | inr away ↦ flat j away ∙ sym (unit_off k j away)
            ]))
        by_value (pos (suc (suc n))) e flat =
            primitive_root m form (suc (suc n)) (omega arith) q h
            (divided (suc (suc n)) (pos 1)
            (e ∙ (let z : pos (suc (suc n)) ≡ pos (suc (suc n)) *ℤ pos 1 = omega (arith, ints) in z)) flat)
        by_value (negsuc n) e flat =
            let b : pos 0 ≤ℤ q.root k = positive k l in
            absurd (omega (arith, ints))

    pub positive_from : (q : RootPair) → IsRootPair m q → (j : ℕ) → pos 0 <ℤ q.root j → IsPositive m q.root
    positive_from q h j above i l = by_sign (q.root i) refl
      where
        by_sign : (z : ℤ) → q.root i ≡ z → pos 0 ≤ℤ q.root i
        by_sign (pos n) e = omega (arith, ints)
        by_sign (negsuc n) e = absurd (finite.one_sign q h i j (omega (arith, ints)) above)

    -- the simple reflection k permutes the positive roots other than its own
    pub moved_positive : (k : ℕ) → k < m.rank → (q : RootPair) → IsRootPair m q → IsPositive m q.root →
        (q.root ≡ integer_unit k → ⊥)
        → IsPositive m (across m (simple_pair k) q.root) × (across m (simple_pair k) q.root ≡ integer_unit k → ⊥)
    moved_positive k l q h positive apart =
        let r : (j : ℕ) × (j < m.rank) × (j ≢ k) × (pos 0 <ℤ q.root j) =
        above_away k l q h positive apart (λ j out. root_past j out q h) in
        let none : integer_unit k r.0 ≡ pos 0 = unit_off k r.0 r.2 in
        let kept : across m (simple_pair k) q.root r.0 ≡ q.root r.0 =
        omega (arith, ints, ap (λ z. pairing m (integer_unit k) q.root *ℤ z) none) in
        let above : pos 0 <ℤ q.root r.0 = r.3 in (
          positive_from (mirrored m (simple_pair k) q) (moved_is_pair m k q l h) r.0 (omega (arith, ints)),
          λ e. let at : across m (simple_pair k) q.root r.0 ≡ integer_unit k r.0 = ap (λ v. v r.0) e in
              absurd (omega (arith, ints)),
        )

  -- ---- the positive pairs of a list
  pub positive_member : (q : RootPair) (qs : List RootPair) → Member q (positive_pairs m qs) → Member q qs ×
      (has_negative m.rank q.root ≡ false)
  positive_member q [] h = absurd h
  positive_member q (p ∷ qs) h = by (has_negative m.rank p.root) refl h (λ k. positive_member q qs k)
    where
      by : (b : Bool) → has_negative m.rank p.root ≡ b →
          Member q (cond (not b) (p ∷ positive_pairs m qs) (positive_pairs m qs))
          → (Member q (positive_pairs m qs) → Member q qs × (has_negative m.rank q.root ≡ false))
          → Member q (p ∷ qs) × (has_negative m.rank q.root ≡ false)
      by true e k again = (inr (again k).0, (again k).1)
      by false e (inl s) again = (inl s, ap (λ (r : RootPair). has_negative m.rank r.root) s ∙ e)
      by false e (inr k) again = (inr (again k).0, (again k).1)

  pub member_positive : (q : RootPair) (qs : List RootPair) → Member q qs → has_negative m.rank q.root ≡ false →
      Member q (positive_pairs m qs)
  member_positive q [] h e = absurd h
  member_positive q (p ∷ qs) h e = by (has_negative m.rank p.root) refl h (λ k. member_positive q qs k e)
    where
      both : (b : Bool) → b ≡ true → b ≡ false → ⊥
      both b x y = cc

      by : (b : Bool) → has_negative m.rank p.root ≡ b → Member q (p ∷ qs) →
          (Member q qs → Member q (positive_pairs m qs)) →
          Member q (cond (not b) (p ∷ positive_pairs m qs) (positive_pairs m qs))
      by true f (inl s) again =
          absurd (both (has_negative m.rank p.root) f (sym (ap (λ (r : RootPair). has_negative m.rank r.root) s) ∙ e))
      by true f (inr k) again = again k
      by false f (inl s) again = inl s
      by false f (inr k) again = inr (again k)

  pub positive_once : (qs : List RootPair) → HasEachOnce qs → HasEachOnce (positive_pairs m qs)
  positive_once [] once = tt
  positive_once (q ∷ qs) once = by (has_negative m.rank q.root) (positive_once qs once.1)
    where
      by : (b : Bool) → HasEachOnce (positive_pairs m qs) →
          HasEachOnce (cond (not b) (q ∷ positive_pairs m qs) (positive_pairs m qs))
      by true rest = rest
      by false rest = ((λ h. once.0 (positive_member q qs h).0), rest)

  -- ---- the roots of a list of pairs
  pub member_root : (v : Vector) (qs : List RootPair) → Member v (map (λ q. q.root) qs) → (q : RootPair) × Member q qs ×
      (q.root ≡ v)
  member_root v [] h = absurd h
  member_root v (q ∷ qs) (inl e) = (q, inl refl, sym e)
  member_root v (q ∷ qs) (inr h) = let r : (p : RootPair) × Member p qs × (p.root ≡ v) = member_root v qs h in
      (r.0, inr r.1, r.2)

  pub root_member : (q : RootPair) (qs : List RootPair) → Member q qs → Member q.root (map (λ p. p.root) qs)
  root_member q [] h = absurd h
  root_member q (p ∷ qs) (inl e) = inl (ap (λ (r : RootPair). r.root) e)
  root_member q (p ∷ qs) (inr h) = inr (root_member q qs h)

  roots_once : (qs : List RootPair) → ((q p : RootPair) → Member q qs → Member p qs → q.root ≡ p.root → q ≡ p) →
      HasEachOnce qs → HasEachOnce (map (λ q. q.root) qs)
  roots_once [] apart once = tt
  roots_once (q ∷ qs) apart once = (
    (λ h. let r : (p : RootPair) × Member p qs × (p.root ≡ q.root) = member_root q.root qs h in
        once.0 (subst (λ (x : RootPair). Member x qs) (apart r.0 q (inr r.1) (inl refl) r.2) r.1)),
    roots_once qs (λ a b h k e. apart a b (inr h) (inr k) e) once.1,
  )

  decided : (b : Bool) → (b ≡ true → ⊥) → b ≡ false
  decided true h = absurd (h refl)
  decided false h = refl

  -- the positive roots of a list of the root pairs
  pub positive_roots_are : HasCartanForm m → HasFiniteSystem m → (list : List RootPair) → AreRootPairs m list →
      ArePositiveRoots m (positive_roots m list)
  positive_roots_are form finite list are =
      let is_pair : (q : RootPair) → Member q (positive_pairs m list) → IsRootPair m q =
      λ q h. are.each q (positive_member q list h).0 in
      record {
        once = roots_once (positive_pairs m list)
            (λ q p h k e. same_pair q p e (one_coroot m form finite q p (is_pair q h) (is_pair p k) e))
            (positive_once list are.once);
        each = λ b h.
            let r : (q : RootPair) × Member q (positive_pairs m list) × (q.root ≡ b) =
            member_root b (positive_pairs m list) h in (
              r.0,
              is_pair r.0 r.1,
              r.2,
              subst (λ v. IsPositive m v) r.2 (not_negative m.rank r.0.root (positive_member r.0 list r.1).1),
            );
        all = λ q h positive.
            root_member q (positive_pairs m list)
            (member_positive q list (are.all q h)
            (decided (has_negative m.rank q.root) (all_not_negative m.rank q.root positive)));
      }
