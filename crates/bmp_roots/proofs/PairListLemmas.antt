-- Lists of pairs: what tells pairs apart, and one place more.
use Rattle.std.proofs.Common.{◌≡◌, ◌↔◌, ℕ, zero, suc, ◌+◌, ◌<◌, ◌≤◌, arith, refl, sym, ap, ap₂, ◌∙◌, subst, inl, inr, ℤ, pos, List, [], ◌∷◌, ◌++◌, length, get_or, take, filter, not, cond, ◌≤ℤ◌, Bool, true, false, rules, IsTrue, length-append}
use Rattle.std.proofs.lemmas.List.{ext_get_or, map-append, take_more, append-nil}
use Rattle.std.proofs.lemmas.List.Elements.{filter_more}
use Rattle.bmp_math.specs.Lists.{Member}
use Rattle.bmp_roots.specs.RootPairs.{Vector, RootPair}
use Rattle.bmp_roots.specs.PositiveRoots.{has_negative}
use Rattle.bmp_math.proofs.ListLemmas.{member-split}
use Rattle.bmp_roots.specs.Pairs.{coordinates, pair_of, pairs_of, positives_of}
use Rattle.bmp_roots.proofs.SignLemmas.{not_negative, all_not_negative}
use Rattle.bmp_roots.specs.declared.root_pair.Pair.{Pair}

same_coordinates : (xs ys : List ℤ) → length xs ≡ 6 → length ys ≡ 6 → coordinates xs ≡ coordinates ys → xs ≡ ys
same_coordinates xs ys h k e = ext_get_or (pos 0) xs ys (omega arith) (λ i l. ap (λ (v : ℕ → ℤ). v i) e)

pub same_pairs : (a b : Pair) (r : Bool) → length a.root ≡ 6 → length a.coroot ≡ 6 → length b.root ≡ 6 →
    length b.coroot ≡ 6
    → (IsTrue r ↔ ((a.root ≡ b.root) × (a.coroot ≡ b.coroot))) → IsTrue r ↔ (pair_of a ≡ pair_of b)
same_pairs a b r h k l n e = (
  (λ t. let s : (a.root ≡ b.root) × (a.coroot ≡ b.coroot) = e.0 t in
      ap₂ (λ x y. let q : RootPair = record { root = coordinates x; coroot = coordinates y } in q) s.0 s.1),
  (λ s. e.1 (
    same_coordinates a.root b.root h l (ap (λ (q : RootPair). q.root) s),
    same_coordinates a.coroot b.coroot k n (ap (λ (q : RootPair). q.coroot) s),
  )),
)

pub pairs_more : (ps : List Pair) (i : ℕ) (d : Pair) → i < length ps →
    pairs_of (take (i + 1) ps) ≡ pairs_of (take i ps) ++ pair_of (get_or ps i d) ∷ []
pairs_more ps i d l = ap pairs_of (take_more ps i d l) ∙ map-append pair_of (take i ps) (get_or ps i d ∷ [])

pub not_yet : (q : RootPair) (ps : List Pair) (i : ℕ) (d : Pair) → i < length ps →
    (Member q (pairs_of (take i ps)) → ⊥) → (q ≡ pair_of (get_or ps i d) → ⊥)
    → Member q (pairs_of (take (i + 1) ps)) → ⊥
not_yet q ps i d l before here h =
    elim (member-split q (pair_of (get_or ps i d)) (pairs_of (take i ps))
    (subst (λ (qs : List RootPair). Member q qs) (pairs_more ps i d l) h)) [
      | inl k ↦ before k
      | inr e ↦ here e
    ]

pair_at : (ps : List Pair) (i : ℕ) (d : Pair) → i < length ps → Member (pair_of (get_or ps i d)) (pairs_of ps)
pair_at [] i d l = absurd (omega arith)
pair_at (p ∷ ps) zero d l = inl refl
pair_at (p ∷ ps) (suc i) d l = inr (pair_at ps i d (omega arith))

pub found_at : (q : RootPair) (ps : List Pair) (i : ℕ) (d : Pair) → i < length ps → q ≡ pair_of (get_or ps i d) →
    Member q (pairs_of ps)
found_at q ps i d l e = subst (λ (x : RootPair). Member x (pairs_of ps)) (sym e) (pair_at ps i d l)

pub not_true : (r : Bool) → r ≡ false → IsTrue r → ⊥
not_true r e t = search rules

-- ---- the positive pairs, one place more
positive_test : (n : ℕ) (v : Vector) (r : Bool) → (IsTrue r ↔ ((j : ℕ) → j < n → pos 0 ≤ℤ v j)) →
    not (has_negative n v) ≡ r
positive_test n v r h = by (has_negative n v) refl r h
  where
    both : (b : Bool) → b ≡ true → b ≡ false → ⊥
    both b x y = cc

    by : (b : Bool) → has_negative n v ≡ b → (s : Bool) → (IsTrue s ↔ ((j : ℕ) → j < n → pos 0 ≤ℤ v j)) → not b ≡ s
    by true e true k = absurd (all_not_negative n v (k.0 refl) e)
    by true e false k = refl
    by false e true k = refl
    by false e false k = absurd (both false (k.1 (not_negative n v e)) refl)

positive_more : (rank : ℕ) (ps : List Pair) (i : ℕ) (d : Pair) (r : Bool) → i < length ps
    → (IsTrue r ↔ ((j : ℕ) → j < rank → pos 0 ≤ℤ coordinates (get_or ps i d).root j))
    → positives_of rank (take (i + 1) ps) ≡ positives_of rank (take i ps) ++ cond r (get_or ps i d ∷ []) []
positive_more rank ps i d r l test =
    let keep : Pair → Bool = λ q. not (has_negative rank (coordinates q.root)) in
    filter_more keep ps i d l
    ∙ ap (λ b. filter keep (take i ps) ++ cond b (get_or ps i d ∷ []) [])
    (positive_test rank (coordinates (get_or ps i d).root) r test)

pub positive_pushed : (rank : ℕ) (ps : List Pair) (i : ℕ) (d : Pair) (r : Bool) (old new : List Pair) → i < length ps
    → (IsTrue r ↔ ((j : ℕ) → j < rank → pos 0 ≤ℤ coordinates (get_or ps i d).root j)) → r ≡ true
    → (old ≡ positives_of rank (take i ps)) × (length old ≤ i) → new ≡ old ++ get_or ps i d ∷ []
    → (new ≡ positives_of rank (take (i + 1) ps)) × (length new ≤ i + 1)
positive_pushed rank ps i d r old new l test holds before e = (
  e ∙ ap (λ qs. qs ++ get_or ps i d ∷ []) before.0
      ∙ ap (λ (b : Bool). positives_of rank (take i ps) ++ cond b (get_or ps i d ∷ []) []) (sym holds)
      ∙ sym (positive_more rank ps i d r l test),
  omega (arith, ap (λ (qs : List Pair). length qs) e, length-append old (get_or ps i d ∷ []), before.1),
)

pub positive_skipped : (rank : ℕ) (ps : List Pair) (i : ℕ) (d : Pair) (r : Bool) (old new : List Pair) → i < length ps
    → (IsTrue r ↔ ((j : ℕ) → j < rank → pos 0 ≤ℤ coordinates (get_or ps i d).root j)) → r ≡ false
    → (old ≡ positives_of rank (take i ps)) × (length old ≤ i) → new ≡ old
    → (new ≡ positives_of rank (take (i + 1) ps)) × (length new ≤ i + 1)
positive_skipped rank ps i d r old new l test fails before e = (
  e ∙ before.0 ∙ sym (append-nil (positives_of rank (take i ps)))
      ∙ ap (λ (b : Bool). positives_of rank (take i ps) ++ cond b (get_or ps i d ∷ []) []) (sym fails)
      ∙ sym (positive_more rank ps i d r l test),
  omega (arith, ap (λ (qs : List Pair). length qs) e, before.1),
)
