-- Edge coordinates decide what is congruent by the label.
use Rattle.std.proofs.Common.{◌≡◌, ◌↔◌, ℕ, suc, ◌≤◌, List, sym, ◌∙◌, inl, inr, arith}
use Rattle.std.specs.Prelude.{slice_index}
use Rattle.std.proofs.lemmas.Bool.{cases_eq}
use Rattle.bmp_poly.specs.Exponents.{IsMonomial}
use Rattle.bmp_poly.specs.Forms.{SameForm, IsLabel}
use Rattle.bmp_poly.proofs.NormalForms.{same_normal_forms}
use Rattle.bmp_sheaf.specs.Elements.{Element, HasComponent, CongruentElement}
use Rattle.bmp_sheaf.specs.Coordinates.{AreEdgeCoordinates, edge_place}
use Rattle.bmp_sheaf.specs.Statements.{EdgeCoordinatesDecide}

module _ (q r l d : ℕ) (c : ℕ → ℕ) (degrees : List ℕ) (a b : Element) (m n : ℕ → ℕ) (label : IsLabel (suc q) r c l)
    (wide : r ≤ 6) (has_a : AreEdgeCoordinates (suc q) r c l degrees d a m)
    (has_b : AreEdgeCoordinates (suc q) r c l degrees d b n) where
  abbrev SamePlaces : Type 0
  SamePlaces = (g s : ℕ) (e : List ℕ) → HasComponent degrees d g s → IsMonomial 6 r s e → slice_index e l ≡ 0 →
      m (edge_place r l degrees d g e) ≡ n (edge_place r l degrees d g e)

  same_places : CongruentElement (suc q) r degrees c d a b → SamePlaces
  same_places congruent g s e has mono pure =
      let x = has_a g s has in
      let y = has_b g s has in
      let same : SameForm (suc q) 6 r s x.0 y.0 =
      (same_normal_forms q 6 r s l c label wide (a g) x.0 (b g) y.0 x.1 y.1).1 (congruent g s has) in
      x.2 e mono pure ∙ same e mono ∙ sym (y.2 e mono pure)

  same_forms : SamePlaces → (g s : ℕ) (has : HasComponent degrees d g s) →
      SameForm (suc q) 6 r s (has_a g s has).0 (has_b g s has).0
  same_forms places g s has e mono =
      let x = has_a g s has in
      let y = has_b g s has in
      elim (cases_eq (slice_index e l) 0) [
        | inl pure ↦ sym (x.2 e mono pure) ∙ places g s e has mono pure ∙ y.2 e mono pure
        | inr held ↦ x.1.pure e mono (omega arith) ∙ sym (y.1.pure e mono (omega arith))
      ]

  congruent_elements : SamePlaces → CongruentElement (suc q) r degrees c d a b
  congruent_elements places g s has =
      let x = has_a g s has in
      let y = has_b g s has in
      (same_normal_forms q 6 r s l c label wide (a g) x.0 (b g) y.0 x.1 y.1).0 (same_forms places g s has)

  both_ways : CongruentElement (suc q) r degrees c d a b ↔ SamePlaces
  both_ways = (same_places, congruent_elements)

pub edge_coordinates_decide : EdgeCoordinatesDecide
edge_coordinates_decide = both_ways
