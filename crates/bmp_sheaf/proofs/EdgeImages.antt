-- Images of generators in an edge's module, one after another, and their numbers.
use Rattle.std.proofs.Common.{◌≡◌, ℕ, suc, ◌+◌, ◌-◌, ◌%◌, ◌<◌, ◌≤◌, true, false, cond, eqb, List, [], ◌∷◌, ◌++◌, length, get_or, sym, ap, subst, ◌∙◌, inl, inr, arith}
use Rattle.std.specs.Prelude.{slice_index, slice_index_or}
use Rattle.std.specs.List.{All}
use Rattle.std.proofs.lemmas.Bool.{cases_eq}
use Rattle.std.proofs.lemmas.List.{get_or_push, get_or_append_left, get_or_default}
use Rattle.std.proofs.lemmas.List.Elements.{All-push}
use Rattle.bmp_linear.specs.declared.vector.Entry.{Entry}
use Rattle.bmp_linear.specs.SparseVectors.{ValuesBelow, number_at}
use Rattle.bmp_poly.specs.Coordinates.{IsLeading}
use Rattle.bmp_graded.specs.NormalForms.{HasInverses}
use Rattle.bmp_graded.specs.Quotients.{quotient}
use Rattle.bmp_graded.specs.Maps.{projection}
use Rattle.bmp_graded.proofs.CoordinateLemmas.{length_more}
use Rattle.bmp_graded.specs.Components.{IsGenerator}
use Rattle.bmp_module.specs.Images.{image_coordinates}
use Rattle.bmp_module.proofs.Extending.{image_read}
use Rattle.bmp_sheaf.specs.Elements.{Element, SameElement}
use Rattle.bmp_sheaf.specs.Units.{unit_element}
use Rattle.bmp_sheaf.specs.Coordinates.{stalk_count, element_of}
use Rattle.bmp_sheaf.specs.Numbers.{edge_number}
use Rattle.bmp_sheaf.specs.EdgeModules.{AreImagesOf}
use Rattle.bmp_sheaf.proofs.EdgeNumbers.{edge_number_respects}
use Rattle.bmp_sheaf.proofs.EdgeMaps.{element_respects}
use Rattle.bmp_sheaf.proofs.ModuleLemmas.{generator_same, edge_number_is, quotient_count}

-- the numbers of a vector are below p where its values are
pub number_at_below : (v : List Entry) (j p : ℕ) → 0 < p → ValuesBelow v p → number_at v j < p
number_at_below [] j p some small = some
number_at_below (e ∷ v) j p some small =
    let first : 0 < suc (length v) = omega arith in
    let rest : number_at v j < p =
    number_at_below v j p some (λ k d below. let next : suc k < suc (length v) = omega arith in
    small (suc k) d next) in
    elim (eqb e.place j) as (λ b. cond b e.value (number_at v j) < p) [ true ↦ small 0 e first | false ↦ rest ]

-- the first n of the images
pub record AreImagesBelow {E : Type 0} (is_element : E → Type 0) (degree : E → ℕ) (coordinate : E → ℕ → ℕ)
    (numbers : ℕ → Element → ℕ → ℕ) (rows : ℕ → ℕ) (gs : List ℕ) (u : ℕ → Element) (n : ℕ) (es : List E) : Type 0 where
  pub counted : length es ≡ n
  pub elements : All is_element es
  pub degrees : (h : ℕ) (e : E) → h < n → degree (slice_index_or es h e) ≡ slice_index gs h
  pub each : (h i : ℕ) → h < n → i < rows (slice_index gs h) →
      image_coordinates coordinate es h i ≡ numbers (slice_index gs h) (u h) i

module _ {E : Type 0} (is_element : E → Type 0) (degree : E → ℕ) (coordinate : E → ℕ → ℕ)
    (numbers : ℕ → Element → ℕ → ℕ) (rows : ℕ → ℕ) (gs : List ℕ) (u : ℕ → Element) where
  pub images_more : (n : ℕ) (es : List E) (e : E) → AreImagesBelow is_element degree coordinate numbers rows gs u n es →
      is_element e → degree e ≡ slice_index gs n
      → ((i : ℕ) → i < rows (slice_index gs n) → coordinate e i ≡ numbers (slice_index gs n) (u n) i) →
      AreImagesBelow is_element degree coordinate numbers rows gs u (n + 1) (es ++ e ∷ [])
  images_more n es e h element degree_is each =
      let sized : length es ≡ n = h.counted in
      let longer : length (es ++ e ∷ []) ≡ n + 1 = length_more es e ∙ ap (λ z. z + 1) sized in
      record {
        counted = longer;
        elements = All-push is_element es e h.elements element;
        degrees = λ k d below. elim (cases_eq k n) [
          | inl here ↦ ap degree (get_or_push es e d k (sized ∙ sym here)) ∙ degree_is ∙ ap (slice_index gs) (sym here)
          | inr other ↦ let before : k < n = omega arith in
              ap degree (get_or_append_left es (e ∷ []) d k (omega (arith, sized, before))) ∙ h.degrees k d before
        ];
        each = λ k i below inside. elim (cases_eq k n) [
          | inl here ↦
              ap (λ (w : ℕ → ℕ). w i)
              (image_read coordinate (es ++ e ∷ []) k e (omega (arith, longer, below))
              (sym (get_or_push es e e k (sized ∙ sym here))))
              ∙ each i (subst (λ z. i < rows (slice_index gs z)) here inside)
              ∙ ap (λ z. numbers (slice_index gs z) (u z) i) (sym here)
          | inr other ↦
              let before : k < n = omega arith in
              let within : k < length es = omega (arith, sized, before) in
              let x : E = get_or es k e in
              let own : get_or es k e ≡ get_or es k (get_or es k e) = get_or_default es k e (get_or es k e) within in
              ap (λ (w : ℕ → ℕ). w i)
              (image_read coordinate (es ++ e ∷ []) k (get_or es k e) (omega (arith, longer, below))
              (own ∙ sym (get_or_append_left es (e ∷ []) (get_or es k e) k within)))
              ∙ ap (λ (w : ℕ → ℕ). w i) (sym (image_read coordinate es k (get_or es k e) within own))
              ∙ h.each k i before inside
        ];
      }

  pub images_all : (n : ℕ) (es : List E) → n ≤ length gs → length gs ≤ n →
      AreImagesBelow is_element degree coordinate numbers rows gs u n es →
      AreImagesOf is_element degree coordinate numbers rows gs u es
  images_all n es within past h =
      let all : n ≡ length gs = omega arith in
      record {
        images = record {
          counted = h.counted ∙ all;
          elements = h.elements;
          degrees = λ k e below. h.degrees k e (omega (arith, below, h.counted));
        };
        each = λ k i below inside. h.each k i (omega (arith, below, past)) inside;
      }

module _ (p r l : ℕ) (coords : List ℕ) (two : 2 ≤ p) (inverses : HasInverses p) (leads : IsLeading p r l coords)
    (into : List ℕ) where
  -- the projection of an element with the coordinates v
  projected_number : (a i : ℕ) (v : ℕ → ℕ) (u : Element) (x : ℕ → ℕ) → SameElement p r into a (element_of r into a v) u
      → ((i : ℕ) → i < (quotient p (r - 1) l (slice_index coords) into).dim a →
      x i ≡ projection p (r - 1) l (slice_index coords) into a v i % p)
      → i < stalk_count (r - 1) into a → x i ≡ edge_number p r (slice_index coords) l into a u i
  projected_number a i v u x same x_is below =
      x_is i (omega (arith, below, quotient_count p (r - 1) l a (slice_index coords) into))
      ∙ sym (edge_number_is p r l a i (slice_index coords) into v (omega (arith, leads.here)) below)
      ∙ edge_number_respects p r l coords two inverses leads into a (element_of r into a v) u same i below

  pub generator_number : (a g i : ℕ) (v x : ℕ → ℕ) → a ≡ slice_index into g → IsGenerator r into g v
      → ((i : ℕ) → i < (quotient p (r - 1) l (slice_index coords) into).dim a →
      x i ≡ projection p (r - 1) l (slice_index coords) into a v i % p)
      → i < stalk_count (r - 1) into (slice_index into g) →
      x i ≡ edge_number p r (slice_index coords) l into (slice_index into g) (unit_element g) i
  generator_number a g i v x a_is is x_is below =
      projected_number (slice_index into g) i v (unit_element g) x (generator_same p r g into v is)
      (subst (λ z. (i : ℕ) → i < (quotient p (r - 1) l (slice_index coords) into).dim z →
      x i ≡ projection p (r - 1) l (slice_index coords) into z v i % p) a_is x_is) below

  pub lift_number : (b a i : ℕ) (v u x : ℕ → ℕ) → b ≡ a → ((j : ℕ) → j < stalk_count r into a → v j ≡ u j)
      → ((i : ℕ) → i < (quotient p (r - 1) l (slice_index coords) into).dim b →
      x i ≡ projection p (r - 1) l (slice_index coords) into b v i % p)
      → i < stalk_count (r - 1) into a → x i ≡ edge_number p r (slice_index coords) l into a (element_of r into a u) i
  lift_number b a i v u x b_is same x_is below =
      projected_number a i v (element_of r into a u) x
      (element_respects p r into a v u leads.rank (λ j inside. ap (λ z. z % p) (same j inside)))
      (subst (λ z. (i : ℕ) → i < (quotient p (r - 1) l (slice_index coords) into).dim z →
      x i ≡ projection p (r - 1) l (slice_index coords) into z v i % p) b_is x_is) below
