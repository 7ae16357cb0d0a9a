-- Coordinates of elements in an edge module: they are edge coordinates, decide what is congruent by the label, and are
-- linear.
use Rattle.std.proofs.Common.{◌≡◌, ℕ, ◌+◌, ◌-◌, ◌*◌, ◌%◌, ◌<◌, ◌≤◌, List, length, refl, sym, ap, ap₂, ◌∙◌, arith}
use Rattle.std.specs.Prelude.{slice_index, remove}
use Rattle.bmp_math.specs.Sums.{sum_below}
use Rattle.bmp_math.specs.Congruences.{SameMod}
use Rattle.bmp_math.specs.Vectors.{SameVector}
use Rattle.bmp_math.proofs.SumLemmas.{sum_of_steps}
use Rattle.bmp_math.proofs.CongruenceLemmas.{same_add, same_below}
use Rattle.bmp_math.proofs.BlockLemmas.{joined_at, joined_each, within_blocks}
use Rattle.bmp_poly.specs.Exponents.{count, place}
use Rattle.bmp_poly.specs.Coordinates.{IsLeading}
use Rattle.bmp_graded.specs.NormalForms.{HasInverses, normal_by}
use Rattle.bmp_graded.proofs.NormalLaws.{normal_is}
use Rattle.bmp_sheaf.specs.Elements.{Element, HasComponent, SameElement, CongruentElement, zero_element}
use Rattle.bmp_sheaf.specs.Coordinates.{component_count, stalk_start, stalk_count, AreEdgeCoordinates}
use Rattle.bmp_module.specs.Tables.{normal_number}
use Rattle.bmp_sheaf.specs.Numbers.{edge_number}
use Rattle.bmp_sheaf.proofs.ElementLaws.{same_congruent}
use Rattle.bmp_sheaf.proofs.NormalNumbers.{normal_number_below, normal_number_at, normal_numbers_same, same_normal_numbers, normal_number-plus, normal_number-times, pure_place_below}
use Rattle.bmp_sheaf.proofs.Components.{each_component, inside_size}

module _ (p r l : ℕ) (coords : List ℕ) (two : 2 ≤ p) (inverses : HasInverses p) (leads : IsLeading p r l coords)
    (degrees : List ℕ) (d : ℕ) where
  abbrev pub numbers : Element → ℕ → ℕ
  numbers a = edge_number p r (slice_index coords) l degrees d a

  abbrev pub size : ℕ
  size = stalk_count (r - 1) degrees d

  -- the numbers of one generator
  pub edge_number_at : (a : Element) (g s i : ℕ) → HasComponent degrees d g s → i < count (r - 1) s →
      numbers a (stalk_start (r - 1) degrees d g + i) ≡ normal_number p r (slice_index coords) l s (a g) i
  edge_number_at a g s i has inside =
      let degree : d - slice_index degrees g ≡ s = omega (arith, has.1) in
      joined_at (λ h. component_count (r - 1) d (slice_index degrees h))
      (λ h. normal_number p r (slice_index coords) l (d - slice_index degrees h) (a h)) (length degrees) g i has.0
      (inside_size (r - 1) d degrees g s i has inside)
      ∙ ap (λ z. normal_number p r (slice_index coords) l z (a g) i) degree

  pub edge_number_below : (a : Element) (k : ℕ) → numbers a k < p
  edge_number_below a k =
      joined_each (λ h. component_count (r - 1) d (slice_index degrees h))
      (λ h. normal_number p r (slice_index coords) l (d - slice_index degrees h) (a h)) (λ z. z < p)
      (length degrees) (omega (arith, two))
      (λ g i below. normal_number_below p r l coords two inverses leads (d - slice_index degrees g) (a g) i) k

  pub are_edge_coordinates : (a : Element) → AreEdgeCoordinates p r (slice_index coords) l degrees d a (numbers a)
  are_edge_coordinates a g s has = (
    normal_by p r l (slice_index coords) s (a g),
    normal_is p r l coords two inverses leads s (a g),
    (λ m is pure.
        edge_number_at a g s (place (r - 1) (remove m l)) has (pure_place_below l s m r leads.here leads.rank is pure)
        ∙ normal_number_at p r l coords two inverses leads s (a g) m is pure),
  )

  -- they decide
  pub edge_numbers_same : (a b : Element) → CongruentElement p r degrees (slice_index coords) d a b →
      (k : ℕ) → k < size → numbers a k ≡ numbers b k
  edge_numbers_same a b h =
      each_component (r - 1) d degrees (λ k. numbers a k ≡ numbers b k)
      (λ g s i has inside. edge_number_at a g s i has inside
      ∙ normal_numbers_same p r l coords two inverses leads s (a g) (b g) (h g s has) i inside
      ∙ sym (edge_number_at b g s i has inside))

  pub same_edge_numbers : (a b : Element) → ((k : ℕ) → k < size → numbers a k ≡ numbers b k) →
      CongruentElement p r degrees (slice_index coords) d a b
  same_edge_numbers a b same g s has =
      same_normal_numbers p r l coords two inverses leads s (a g) (b g)
      (λ i inside.
      sym (edge_number_at a g s i has inside)
      ∙ same (stalk_start (r - 1) degrees d g + i)
      (within_blocks (λ h. component_count (r - 1) d (slice_index degrees h)) (length degrees) g i has.0
      (inside_size (r - 1) d degrees g s i has inside))
      ∙ edge_number_at b g s i has inside)

  -- they are those of the element
  pub edge_number_respects : (a b : Element) → SameElement p r degrees d a b → (k : ℕ) → k < size →
      numbers a k ≡ numbers b k
  edge_number_respects a b same = edge_numbers_same a b (same_congruent p r degrees (slice_index coords) d a b same)

  -- they are linear
  pub edge_number-plus :
      (a b : Element) → SameVector p size (numbers (λ g m. a g m + b g m)) (λ k. numbers a k + numbers b k)
  edge_number-plus a b =
      each_component (r - 1) d degrees (λ k. SameMod p (numbers (λ g m. a g m + b g m) k) (numbers a k + numbers b k))
      (λ g s i has inside.
      ap (λ z. z % p) (edge_number_at (λ g m. a g m + b g m) g s i has inside)
      ∙ normal_number-plus p r l coords two inverses leads s (a g) (b g) i inside
      ∙ ap (λ z. z % p)
      (sym (ap₂ (λ y z. y + z) (edge_number_at a g s i has inside) (edge_number_at b g s i has inside))))

  pub edge_number-times : (x : ℕ) (a : Element) → SameVector p size (numbers (λ g m. x * a g m)) (λ k. x * numbers a k)
  edge_number-times x a =
      each_component (r - 1) d degrees (λ k. SameMod p (numbers (λ g m. x * a g m) k) (x * numbers a k))
      (λ g s i has inside.
      ap (λ z. z % p) (edge_number_at (λ g m. x * a g m) g s i has inside)
      ∙ normal_number-times p r l coords two inverses leads s x (a g) i inside
      ∙ ap (λ z. (x * z) % p) (sym (edge_number_at a g s i has inside)))

  pub edge_number-zero : (k : ℕ) → k < size → numbers zero_element k ≡ 0
  edge_number-zero k below =
      same_below p (numbers zero_element k) 0 (edge_number_below zero_element k) (omega (arith, two))
      (edge_number-times 0 zero_element k below ∙ ap (λ z. z % p) (nothing (numbers zero_element k)))
    where
      nothing : (x : ℕ) → 0 * x ≡ 0
      nothing x = omega arith

  pub edge_number-combination : (c : ℕ → ℕ) (a : ℕ → Element) (n : ℕ) →
      SameVector p size (numbers (λ g m. sum_below (λ j. c j * a j g m) n))
      (λ k. sum_below (λ j. c j * numbers (a j) k) n)
  unfolding sum_below
  edge_number-combination c a n k below =
      sum_of_steps p (λ j. numbers (λ g m. sum_below (λ i. c i * a i g m) j) k) (λ j. c j * numbers (a j) k) n
      (ap (λ z. z % p) (edge_number-zero k below))
      (λ j inside.
      edge_number-plus (λ g m. sum_below (λ i. c i * a i g m) j) (λ g m. c j * a j g m) k below
      ∙ same_add p (numbers (λ g m. sum_below (λ i. c i * a i g m) j) k)
      (numbers (λ g m. sum_below (λ i. c i * a i g m) j) k) (numbers (λ g m. c j * a j g m) k)
      (c j * numbers (a j) k) refl (edge_number-times (c j) (a j) k below))
