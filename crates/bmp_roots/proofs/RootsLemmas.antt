-- What a `Roots` holds: its list has the root pairs, its system is finite, and its positive roots are the positive
-- roots.
use Rattle.std.proofs.Common.{◌≡◌, ℕ, ◌<◌, ◌≤◌, refl, sym, ap, ◌∙◌, subst, inl, inr, List, [], ◌∷◌, length, get_or, map, not, cond, Bool, true, false}
use Rattle.std.proofs.lemmas.Grind.{not_there}
use Rattle.std.proofs.lemmas.List.{length-map}
use Rattle.bmp_math.specs.Lists.{Member}
use Rattle.bmp_math.proofs.ListLemmas.{member_at}
use Rattle.bmp_roots.specs.RootPairs.{CartanMatrix, Vector, RootPair, IsRootPair, IsPositive, AreRootPairs, HasCartanForm, HasFiniteSystem}
use Rattle.bmp_roots.specs.PositiveRoots.{has_negative, positive_pairs, ArePositiveRoots}
use Rattle.bmp_roots.specs.Closing.{IsClosed}
use Rattle.bmp_roots.specs.Pairs.{coordinates, pair_of, pairs_of, positives_of}
use Rattle.bmp_roots.specs.RootSystems.{matrix_of, list_of, positives, positive_roots_of}
use Rattle.bmp_roots.specs.declared.root_pair.Pair.{Pair}
use Rattle.bmp_roots.specs.declared.root_system.Roots.{Roots}
use Rattle.bmp_roots.proofs.SignLemmas.{not_negative}
use Rattle.bmp_roots.proofs.SystemLemmas.{root_pairs_are, system_is_finite}
use Rattle.bmp_roots.proofs.PositiveLemmas.{positive_member, positive_roots_are}
use Rattle.bmp_roots.proofs.LawLemmas.{at_most_36}

positives_are_pairs : (m : CartanMatrix) (ps : List Pair) →
    pairs_of (positives_of m.rank ps) ≡ positive_pairs m (pairs_of ps)
positives_are_pairs m [] = refl
positives_are_pairs m (p ∷ ps) = by (not (has_negative m.rank (coordinates p.root))) (positives_are_pairs m ps)
  where
    by : (b : Bool) → pairs_of (positives_of m.rank ps) ≡ positive_pairs m (pairs_of ps) →
        map pair_of (cond b (p ∷ positives_of m.rank ps) (positives_of m.rank ps))
        ≡ cond b (pair_of p ∷ positive_pairs m (pairs_of ps)) (positive_pairs m (pairs_of ps))
    by true rest = ap (λ qs. pair_of p ∷ qs) rest
    by false rest = rest

roots_of_pairs : (ps : List Pair) → map (λ p. coordinates p.root) ps ≡ map (λ q. q.root) (pairs_of ps)
roots_of_pairs [] = refl
roots_of_pairs (p ∷ ps) = ap (λ vs. coordinates p.root ∷ vs) (roots_of_pairs ps)

-- the roots of the positive pairs of the machine
pub positive_roots_of_pairs : (m : CartanMatrix) → HasCartanForm m → (pairs positive : List Pair) →
    ((IsClosed m (pairs_of pairs) → ⊥) → ⊥)
    → positive ≡ positives_of m.rank pairs → ArePositiveRoots m (map (λ p. coordinates p.root) positive)
positive_roots_of_pairs m form pairs positive closed is =
    subst (λ (vs : List Vector). ArePositiveRoots m vs)
    (sym (roots_of_pairs positive
    ∙ ap (λ (qs : List RootPair). map (λ q. q.root) qs) (ap pairs_of is ∙ positives_are_pairs m pairs)))
    (positive_roots_are m form (system_is_finite m form (pairs_of pairs) closed) (pairs_of pairs)
    (root_pairs_are m form (pairs_of pairs) closed))

module _ (roots : Roots) where
  pub list_has_pairs : AreRootPairs (matrix_of roots) (list_of roots)
  list_has_pairs = root_pairs_are (matrix_of roots) roots.form (list_of roots) (not_there roots.closed)

  pub has_finite_system : HasFiniteSystem (matrix_of roots)
  has_finite_system = system_is_finite (matrix_of roots) roots.form (list_of roots) (not_there roots.closed)

  positive_list_is : pairs_of (positives roots) ≡ positive_pairs (matrix_of roots) (list_of roots)
  positive_list_is = ap pairs_of roots.positives ∙ positives_are_pairs (matrix_of roots) roots.pairs

  pub has_positive_roots : ArePositiveRoots (matrix_of roots) (positive_roots_of roots)
  has_positive_roots =
      positive_roots_of_pairs (matrix_of roots) roots.form roots.pairs (positives roots) (not_there roots.closed)
      roots.positives

  pub has_few_positives : length (positives roots) ≤ 36
  has_few_positives =
      subst (λ n. n ≤ 36) (length-map (positives roots) (λ p. coordinates p.root))
      (at_most_36 (matrix_of roots) roots.form has_finite_system (positive_roots_of roots) has_positive_roots)

  -- the pair at a place of the positive list is a root pair, and its root is positive
  pub positive_at : (i : ℕ) (d : Pair) → i < length (positives roots)
      → IsRootPair (matrix_of roots) (pair_of (get_or (positives roots) i d)) ×
      IsPositive (matrix_of roots) (coordinates (get_or (positives roots) i d).root)
  positive_at i d l =
      let p : Pair = get_or (positives roots) i d in
      let here : Member (pair_of p) (positive_pairs (matrix_of roots) (list_of roots)) =
      subst (λ (qs : List RootPair). Member (pair_of p) qs) positive_list_is
      (pair_member (positives roots) p (member_at (positives roots) i d l)) in
      let r : Member (pair_of p) (list_of roots) × (has_negative (matrix_of roots).rank (pair_of p).root ≡ false) =
      positive_member (matrix_of roots) (pair_of p) (list_of roots) here in
      (list_has_pairs.each (pair_of p) r.0, not_negative (matrix_of roots).rank (coordinates p.root) r.1)
    where
      pair_member : (ps : List Pair) (p : Pair) → Member p ps → Member (pair_of p) (pairs_of ps)
      pair_member [] p h = absurd h
      pair_member (a ∷ ps) p (inl e) = inl (ap pair_of e)
      pair_member (a ∷ ps) p (inr h) = inr (pair_member ps p h)
