-- Elements of a free module to the quotient, one component after another.
use Rattle.std.proofs.Common.{◌≡◌, ℕ, suc, ◌+◌, ◌-◌, ◌%◌, ◌<◌, ◌≤◌, List, [], length, get_or, sym, ap, ◌∙◌, arith, ◌↔◌, subst}
use Rattle.std.specs.List.{All, slice_range}
use Rattle.std.proofs.Math.Nat.{mod-mod}
use Rattle.bmp_poly.specs.Coefficients.{coefficient}
use Rattle.bmp_poly.specs.Coordinates.{IsLeading}
use Rattle.bmp_graded.specs.Graded.{Graded}
use Rattle.bmp_graded.specs.NormalForms.{HasInverses, normal_by}
use Rattle.bmp_graded.specs.Modules.{polynomials, moved, copies, free}
use Rattle.bmp_graded.specs.Quotients.{reduced, quotient}
use Rattle.bmp_graded.specs.Maps.{project_one, projection}
use Rattle.bmp_graded.proofs.CoordinateLemmas.{coefficient_range}
use Rattle.bmp_graded.proofs.CopiesLemmas.{block_dim, copies_dim}
use Rattle.bmp_graded.proofs.ModuleMaps.{moved_map}
use Rattle.bmp_graded.proofs.ProjectionMaps.{project_over}
use Rattle.bmp_module.specs.Appended.{IsAppended}
use Rattle.bmp_module.specs.Elements.{IsElement}
use Rattle.bmp_graded.specs.Components.{IsSameModulo}
use Rattle.bmp_graded.proofs.Congruences.{same_modulo}
use Rattle.bmp_module.proofs.Walking.{Walked, walked_start, walked_inside, walked_more, walked_end}

abbrev pub onto : ℕ → ℕ → ℕ → List ℕ → Graded
onto s r l coords = reduced (r - 1) l (normal_by s (suc (r - 1)) l (λ k. get_or coords k 0))

-- the element of degree d with these numbers modulo the label, as far as the first k generators go
abbrev pub Projected : {E : Type 0} → (E → Type 0) → (E → ℕ) → ℕ → ℕ → ℕ → ℕ → List ℕ → ℕ → List ℕ → List E → ℕ → ℕ →
    List E → Type 0
Projected is_value num p s r l coords d gs numbers k start out =
    Walked is_value num p (block_dim (polynomials (suc (r - 1))) d) (block_dim (onto s r l coords) d)
    (λ g. project_one s (r - 1) l (λ k. get_or coords k 0) (d - g)) gs (coefficient num numbers) k start out

module _ {E : Type 0} (is_value : E → Type 0) (num : E → ℕ) (p s r l : ℕ) (coords : List ℕ) (d : ℕ) (gs : List ℕ)
    (numbers : List E) where
  pub projected_start : (out : List E) → out ≡ [] → All is_value out →
      Projected is_value num p s r l coords d gs numbers 0 0 out
  projected_start =
      walked_start is_value num p (block_dim (polynomials (suc (r - 1))) d) (block_dim (onto s r l coords) d)
      (λ g. project_one s (r - 1) l (λ k. get_or coords k 0) (d - g)) gs (coefficient num numbers)

  pub projected_inside : (r' : ℕ) (xs : List ℕ) (k start : ℕ) (out : List E) → r' ≡ r → l < r → xs ≡ gs →
      k < length xs → length numbers ≡ (free r' gs).dim d →
      Projected is_value num p s r l coords d gs numbers k start out →
      start + (moved (get_or xs k 0) (polynomials r')).dim d ≤ length numbers
  projected_inside r' xs k start out ranks some same inside sized h =
      let here : k < length gs = rw (← same) inside in
      let whole : suc (r - 1) ≡ r' = omega arith in
      let step : start + (moved (get_or gs k 0) (polynomials (suc (r - 1)))).dim d ≤ (free (suc (r - 1)) gs).dim d =
      omega (
        arith,
        walked_inside is_value num p (block_dim (polynomials (suc (r - 1))) d)
            (block_dim (onto s r l coords) d) (λ g. project_one s (r - 1) l (λ k. get_or coords k 0) (d - g)) gs
            (coefficient num numbers) k start out here h,
        copies_dim (polynomials (suc (r - 1))) d gs,
      ) in
      rw (same, sized) (rw whole at step)

  pub projected_more : (r' : ℕ) (xs : List ℕ) (k start end : ℕ) (ys out new : List E) → r' ≡ r → p ≡ s → 2 ≤ p →
      HasInverses p → IsLeading s r l coords → ((a : E) → is_value a → num a < p) → xs ≡ gs → ys ≡ numbers →
      k < length xs → end ≡ start + (moved (get_or xs k 0) (polynomials r')).dim d →
      IsAppended is_value num out new ((moved (get_or xs k 0) (onto s r l coords)).dim d)
      (λ i. project_one s (r - 1) l (λ k. get_or coords k 0) (d - get_or xs k 0)
      (coefficient num (slice_range ys start end)) i % p) →
      Projected is_value num p s r l coords d gs numbers k start out →
      Projected is_value num p s r l coords d gs numbers (k + 1) end new
  projected_more r' xs k start end ys out new ranks same_p two inverses leads small same same_numbers inside end_is
      block so_far =
      let here : k < length gs = rw (← same) inside in
      let some : l < r = leads.here in
      let whole : r' ≡ suc (r - 1) = omega arith in
      let end_at : end ≡ start + (moved (get_or xs k 0) (polynomials (suc (r - 1)))).dim d = rw whole at end_is in
      walked_more is_value num p (block_dim (polynomials (suc (r - 1))) d) (block_dim (onto s r l coords) d)
      (λ g. project_one s (r - 1) l (λ k. get_or coords k 0) (d - g)) gs (coefficient num numbers) k start end
      (get_or xs k 0) out new
      (λ i. project_one s (r - 1) l (λ k. get_or coords k 0) (d - get_or xs k 0)
      (coefficient num (slice_range ys start end)) i % p)
      here (ap (λ z. get_or z k 0) same) end_at small block
      (λ i below. mod-mod
      (project_one s (r - 1) l (λ k. get_or coords k 0) (d - get_or xs k 0)
      (coefficient num (slice_range ys start end)) i) p
      ∙ ((moved_map p r (get_or xs k 0) (polynomials (suc (r - 1))) (onto s r l coords)
      (project_one s (r - 1) l (λ k. get_or coords k 0))
      (project_over p s r l coords same_p two inverses leads)).linear d).respects
      (coefficient num (slice_range ys start end)) (λ i. coefficient num numbers (start + i))
      (λ j below. ap (λ z. z % p) (coefficient_range num ys start end j (omega arith)
      ∙ ap (λ z. coefficient num z (start + j)) same_numbers)) i below)
      so_far

  pub projected_element : (xs : List ℕ) (k start : ℕ) (out : List E) → xs ≡ gs → length xs ≤ k → d ≤ 6 →
      Projected is_value num p s r l coords d gs numbers k start out →
      IsElement is_value (copies (onto s r l coords) gs) d out
  projected_element xs k start out same past small h = record {
    small = small;
    sized = walked_end is_value num p (block_dim (polynomials (suc (r - 1))) d) (block_dim (onto s r l coords) d)
        (λ g. project_one s (r - 1) l (λ k. get_or coords k 0) (d - g)) gs (coefficient num numbers) k start out
        (rw (← same) past) h ∙ sym (copies_dim (onto s r l coords) d gs);
    values = h.values;
  }

  pub projected_numbers : (xs : List ℕ) (k start : ℕ) (out : List E) → xs ≡ gs → length xs ≤ k →
      Projected is_value num p s r l coords d gs numbers k start out →
      (i : ℕ) → i < (copies (onto s r l coords) gs).dim d →
      coefficient num out i ≡ projection s (r - 1) l (λ k. get_or coords k 0) gs d (coefficient num numbers) i % p
  projected_numbers xs k start out same past h i below =
      let all = walked_end is_value num p (block_dim (polynomials (suc (r - 1))) d) (block_dim (onto s r l coords) d)
      (λ g. project_one s (r - 1) l (λ k. get_or coords k 0) (d - g)) gs (coefficient num numbers) k start out
      (rw (← same) past) h in
      h.done i (omega (arith, all, copies_dim (onto s r l coords) d gs))

-- elements have the same image exactly where the label divides their difference
pub same_images : {B : Type 0} (p s r l : ℕ) (coords gs : List ℕ) (d e t : ℕ) (u v x y : ℕ → ℕ) → p ≡ s → 2 ≤ p →
    HasInverses p → IsLeading s r l coords → e ≡ d → t ≡ d
    → ((i : ℕ) → i < (quotient s (r - 1) l (λ k. get_or coords k 0) gs).dim d →
    x i ≡ projection s (r - 1) l (λ k. get_or coords k 0) gs d u i % p)
    → ((i : ℕ) → i < (quotient s (r - 1) l (λ k. get_or coords k 0) gs).dim e →
    y i ≡ projection s (r - 1) l (λ k. get_or coords k 0) gs e v i % p)
    → B ↔ ((i : ℕ) → i < (quotient s (r - 1) l (λ k. get_or coords k 0) gs).dim t → x i ≡ y i) → B ↔
    IsSameModulo s r (λ k. get_or coords k 0) gs d u v
same_images {B} p s r l coords gs d e t u v x y same two inverses leads e_is t_is x_is y_is decides =
    let law = same_modulo s r l coords gs d u v (subst (λ z. 2 ≤ z) same two) (subst HasInverses same inverses) leads in
    let second = subst (λ z. (i : ℕ) → i < (quotient s (r - 1) l (λ k. get_or coords k 0) gs).dim z →
    y i ≡ projection s (r - 1) l (λ k. get_or coords k 0) gs z v i % p) e_is y_is in
    let here = subst (λ z. B ↔ ((i : ℕ) → i < (quotient s (r - 1) l (λ k. get_or coords k 0) gs).dim z → x i ≡ y i))
    t_is decides in
    let read = λ (w : ℕ → ℕ) (i : ℕ). ap (λ z. projection s (r - 1) l (λ k. get_or coords k 0) gs d w i % z) same in (
      (λ holds. law.0 (λ i below. sym (x_is i below ∙ read u i) ∙ here.0 holds i below ∙ (second i below ∙ read v i))),
      (λ modulo. here.1 (λ i below. (x_is i below ∙ read u i) ∙ law.1 modulo i below
          ∙ sym (second i below ∙ read v i))),
    )
