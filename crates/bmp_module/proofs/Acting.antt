-- A monomial acts on copies of a module, one copy after another.
use Rattle.std.proofs.Common.{◌≡◌, ℕ, ◌+◌, ◌%◌, ◌<◌, ◌≤◌, List, [], length, get_or, refl, sym, ap, ◌∙◌, arith}
use Rattle.std.specs.List.{All, sum, slice_range}
use Rattle.bmp_math.specs.Vectors.{SameVector}
use Rattle.bmp_poly.specs.Exponents.{IsMonomial}
use Rattle.bmp_poly.specs.Coefficients.{coefficient}
use Rattle.bmp_graded.specs.Graded.{Graded, IsModule}
use Rattle.bmp_graded.specs.Modules.{moved, copies}
use Rattle.bmp_graded.proofs.CoordinateLemmas.{coefficient_range}
use Rattle.bmp_graded.proofs.CopiesLemmas.{block_dim, block_act, copies_dim, copies_act}
use Rattle.bmp_graded.proofs.GradedLemmas.{moved_is_module}
use Rattle.bmp_module.specs.Appended.{IsAppended}
use Rattle.bmp_module.specs.Elements.{IsElement}
use Rattle.bmp_module.proofs.Walking.{Walked, walked_start, walked_inside, walked_more, walked_end}

-- m times the element of degree d with these numbers, as far as the first k copies go
abbrev pub Acted : {E : Type 0} → (E → Type 0) → (E → ℕ) → ℕ → Graded → List ℕ → ℕ → List ℕ → List E → ℕ → ℕ → List E →
    Type 0
Acted is_value num p X m d gs numbers k start out =
    Walked is_value num p (block_dim X d) (block_dim X (d + sum m)) (block_act X m d (d + sum m)) gs
    (coefficient num numbers) k start out

module _ {E : Type 0} (is_value : E → Type 0) (num : E → ℕ) (p : ℕ) (X : Graded) (m : List ℕ) (d : ℕ) (gs : List ℕ)
    (numbers : List E) where
  pub acted_start : (out : List E) → out ≡ [] → All is_value out → Acted is_value num p X m d gs numbers 0 0 out
  acted_start = walked_start is_value num p (block_dim X d) (block_dim X (d + sum m)) (block_act X m d (d + sum m)) gs
      (coefficient num numbers)

  pub acted_inside : (xs : List ℕ) (k start : ℕ) (out : List E) → xs ≡ gs → k < length xs →
      length numbers ≡ (copies X gs).dim d → Acted is_value num p X m d gs numbers k start out →
      start + (moved (get_or xs k 0) X).dim d ≤ length numbers
  acted_inside xs k start out same inside sized h =
      let here : k < length gs = rw (← same) inside in
      rw same (omega (
        arith,
        walked_inside is_value num p (block_dim X d) (block_dim X (d + sum m)) (block_act X m d (d + sum m)) gs
            (coefficient num numbers) k start out here h,
        sized,
        copies_dim X d gs,
      ))

  pub acted_more : (r : ℕ) (xs : List ℕ) (k start end : ℕ) (ys out new : List E) (h : ℕ → ℕ) → IsModule p r X →
      IsMonomial 6 r (sum m) m → ((a : E) → is_value a → num a < p) → xs ≡ gs → ys ≡ numbers → k < length xs →
      end ≡ start + (moved (get_or xs k 0) X).dim d →
      IsAppended is_value num out new ((moved (get_or xs k 0) X).dim (d + sum m)) h →
      SameVector p ((moved (get_or xs k 0) X).dim (d + sum m)) h
      ((moved (get_or xs k 0) X).act m d (d + sum m) (coefficient num (slice_range ys start end))) →
      Acted is_value num p X m d gs numbers k start out → Acted is_value num p X m d gs numbers (k + 1) end new
  acted_more r xs k start end ys out new h laws is_m small same same_numbers inside end_is block agree so_far =
      let here : k < length gs = rw (← same) inside in
      walked_more is_value num p (block_dim X d) (block_dim X (d + sum m)) (block_act X m d (d + sum m)) gs
      (coefficient num numbers) k start end (get_or xs k 0) out new h
      here (ap (λ z. get_or z k 0) same) end_is small block
      (λ i below. agree i below
      ∙ ((moved_is_module p r (get_or xs k 0) X laws).linear m (sum m) d (d + sum m) is_m refl).respects
      (coefficient num (slice_range ys start end)) (λ i. coefficient num numbers (start + i))
      (λ j below. ap (λ z. z % p) (coefficient_range num ys start end j (omega arith)
      ∙ ap (λ z. coefficient num z (start + j)) same_numbers)) i below)
      so_far

  pub acted_element : (xs : List ℕ) (k start : ℕ) (out : List E) → xs ≡ gs → length xs ≤ k → d + sum m ≤ 6 →
      Acted is_value num p X m d gs numbers k start out → IsElement is_value (copies X gs) (d + sum m) out
  acted_element xs k start out same past small h = record {
    small = small;
    sized = walked_end is_value num p (block_dim X d) (block_dim X (d + sum m)) (block_act X m d (d + sum m)) gs
        (coefficient num numbers) k start out (rw (← same) past) h ∙ sym (copies_dim X (d + sum m) gs);
    values = h.values;
  }

  pub acted_numbers : (xs : List ℕ) (k start : ℕ) (out : List E) → xs ≡ gs → length xs ≤ k →
      Acted is_value num p X m d gs numbers k start out → (i : ℕ) → i < (copies X gs).dim (d + sum m) →
      coefficient num out i ≡ (copies X gs).act m d (d + sum m) (coefficient num numbers) i % p
  acted_numbers xs k start out same past h i below =
      let all = walked_end is_value num p (block_dim X d) (block_dim X (d + sum m)) (block_act X m d (d + sum m)) gs
      (coefficient num numbers) k start out (rw (← same) past) h in
      h.done i (omega (arith, all, copies_dim X (d + sum m) gs))
      ∙ ap (λ z. z % p) (sym (copies_act X m d (d + sum m) gs (coefficient num numbers) i))
