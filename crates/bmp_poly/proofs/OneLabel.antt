-- A label is known by its prime, its rank and its coordinates.
use Rattle.std.proofs.Common.{◌≡◌, ℕ, ◌<◌, List, length, inl, inr, ◌⊎◌, ap₂, subst, arith}
use native.Mathlib.Nat.{ℕ_set}
use native.Mathlib.Bridge.{le_prop}
use Rattle.bmp_poly.specs.Coordinates.{IsFirstNonzero, IsLeading}
use Rattle.bmp_poly.specs.Labels.{prime_of, rank_of, coordinates_of}
use Rattle.bmp_poly.specs.declared.label.Label.{Label}

-- the first place that is not 0 is one
one_first : (coords : List ℕ) (k l : ℕ) → IsFirstNonzero coords k → IsFirstNonzero coords l → k ≡ l
one_first coords k l at other = by (either k l)
  where
    either : (a b : ℕ) → (a < b) ⊎ ((b < a) ⊎ (a ≡ b))
    either a b = grind arith

    by : (k < l) ⊎ ((l < k) ⊎ (k ≡ l)) → k ≡ l
    by (inl less) = absurd (at.not_zero (other.before k less))
    by (inr (inl more)) = absurd (other.not_zero (at.before l more))
    by (inr (inr same)) = same

-- that coordinates are those of a label is a proposition
pub IsLeading-prop : (p r l : ℕ) (coords : List ℕ) → IsProp (IsLeading p r l coords)
IsLeading-prop p r l coords = hlevel (le_prop, ℕ_set)

pub one_label : (x y : Label) → prime_of x ≡ prime_of y → rank_of x ≡ rank_of y → coordinates_of x ≡ coordinates_of y →
    x ≡ y
one_label x y prime rank coordinates =
    subst (λ p. Same p y.rank y.leading y.coords) prime
    (subst (λ r. Same x.prime r y.leading y.coords) rank
    (subst (λ l. Same x.prime x.rank l y.coords) leading
    (subst (λ (cs : List ℕ). Same x.prime x.rank x.leading cs) coordinates
    (λ h k. ap₂ (made x.prime x.rank x.leading x.coords) (IsLeading-prop x.prime x.rank x.leading x.coords x.leads h)
    (ℕ_set _ _ x.six k))))) y.leads y.six
  where
    made : (p r l : ℕ) (coords : List ℕ) → IsLeading p r l coords → length coords ≡ 6 → Label
    made p r l coords leads six = record { prime = p; rank = r; leading = l; coords = coords; leads = leads; six = six }

    Same : ℕ → ℕ → ℕ → List ℕ → Type 0
    Same p r l coords = (h : IsLeading p r l coords) (k : length coords ≡ 6) → x ≡ made p r l coords h k

    leading : x.leading ≡ y.leading
    leading = one_first y.coords x.leading y.leading
        (subst (λ (cs : List ℕ). IsFirstNonzero cs x.leading) coordinates x.leads.first) y.leads.first
