-- What passed evidence about the kernel of a boundary map says of elements.
use Rattle.std.proofs.Common.{◌≡◌, ℕ, ◌%◌, ◌<◌, ◌≤◌, List, length, refl, sym, ap, ◌∙◌, inl, arith}
use Rattle.std.specs.Prelude.{slice_index}
use Rattle.std.proofs.Math.Nat.{mod-eq_of_lt}
use Rattle.bmp_math.specs.Congruences.{SameMod}
use Rattle.bmp_math.specs.Vectors.{unit}
use Rattle.bmp_math.specs.Matrices.{combination, IsInKernel}
use Rattle.bmp_graph.specs.Graph.{Graph}
use Rattle.bmp_linear.specs.declared.evidence.KernelEvidence.{KernelEvidence}
use Rattle.bmp_linear.specs.FreePlaces.{free_places}
use Rattle.bmp_linear.specs.Evidence.{vector_at}
use Rattle.bmp_linear.proofs.FreeLemmas.{length-free_places, free_place_below}
use Rattle.bmp_linear.proofs.KernelSpans.{basis_in_kernel, kernel_spans}
use Rattle.bmp_poly.specs.Exponents.{IsMonomial}
use Rattle.bmp_sheaf.specs.Fields.{IsOverField}
use Rattle.bmp_sheaf.specs.Elements.{Element, HasComponent, zero_element}
use Rattle.bmp_sheaf.specs.Sheaves.{SheafData, boundary_of_element}
use Rattle.bmp_sheaf.specs.Coordinates.{stalk_count, stalk_place, element_of}
use Rattle.bmp_sheaf.specs.Numbers.{boundary_matrix}
use Rattle.bmp_sheaf.proofs.StalkPlaces.{stalk_place_below}
use Rattle.bmp_sheaf.proofs.StalkNumbers.{stalk_number, stalk_number_at, element_of_numbers}
use Rattle.bmp_sheaf.proofs.BoundaryNumbers.{boundary_numbers_same, same_boundary_numbers, boundary_number-zero}
use Rattle.bmp_sheaf.proofs.BoundaryMaps.{boundary_image}
use Rattle.bmp_sections.proofs.BoundaryLaws.{HasBoundary, has_boundary_same}
use Rattle.bmp_levels.specs.Evidence.{KernelPasses}

module _ {G : Graph} {F : SheafData} {x d : ℕ} {e : KernelEvidence} (over : IsOverField G) (wide : G.rank ≤ 6)
    (h : KernelPasses G F x d e) where
  abbrev pub free_place : ℕ → ℕ
  free_place u = slice_index (free_places e.pivots (stalk_count G.rank (F.degrees x) d)) u

  zero_is : 0 % G.prime ≡ 0
  zero_is = mod-eq_of_lt (omega (arith, over.two))

  pub free_within : (u : ℕ) → u < length e.basis → free_place u < stalk_count G.rank (F.degrees x) d
  free_within u below =
      let n = stalk_count G.rank (F.degrees x) d in
      free_place_below e.pivots n u
      (omega (arith, below, h.fits.in_all, length-free_places e.pivots n h.fits.pivots_rise h.fits.pivots_below))

  pub basis_unit : (t u : ℕ) → t < length e.basis → u < length e.basis → vector_at e.basis t (free_place u) ≡ unit u t
  basis_unit t u basis free =
      h.passes (record { index = t; place = u; left = vector_at e.basis t (free_place u); right = unit u t })
      (inl (record { basis = basis; free = free; left_is = refl; right_is = refl }))

  pub basis_boundary :
      (t : ℕ) → t < length e.basis → HasBoundary G F x d (element_of G.rank (F.degrees x) d (vector_at e.basis t))
      (λ f. zero_element)
  basis_boundary t basis =
      let v = vector_at e.basis t in
      same_boundary_numbers G F x d over (boundary_of_element G F d (element_of G.rank (F.degrees x) d v))
      (λ f. zero_element)
      (λ k below.
      sym (boundary_image G over F x d v k below) ∙ basis_in_kernel G.prime
      (boundary_matrix G F x d) e h.passes t basis k below ∙ zero_is
      ∙ sym (boundary_number-zero G F x d over k below))

  -- the numbers of an element without boundary
  in_kernel :
      (u : Element) → HasBoundary G F x d u (λ f. zero_element) →
      IsInKernel G.prime (boundary_matrix G F x d) (stalk_number G.rank (F.degrees x) d u)
  in_kernel u none k below =
      let v = stalk_number G.rank (F.degrees x) d u in
      let w = element_of G.rank (F.degrees x) d v in
      boundary_image G over F x d v k below
      ∙ boundary_numbers_same G F x d over (boundary_of_element G F d w) (λ f. zero_element)
      (has_boundary_same G F x d w u (λ f. zero_element) wide
      (element_of_numbers G.rank (F.degrees x) d G.prime u wide) none) k below
      ∙ boundary_number-zero G F x d over k below
      ∙ sym zero_is

  -- such an element is the combination of the basis with its numbers at the free places
  pub basis_spans :
      (u : Element) → HasBoundary G F x d u (λ f. zero_element) → (g s : ℕ) (m : List ℕ) →
      HasComponent (F.degrees x) d g s → IsMonomial 6 G.rank s m →
      SameMod G.prime (u g m)
      (combination (λ i. stalk_number G.rank (F.degrees x) d u (free_place i)) (vector_at e.basis) (length e.basis)
      (stalk_place G.rank (F.degrees x) d g m))
  basis_spans u none g s m has is =
      let v = stalk_number G.rank (F.degrees x) d u in
      ap (λ z. z % G.prime) (sym (stalk_number_at G.rank (F.degrees x) d u g s m wide has is))
      ∙ kernel_spans G.prime (boundary_matrix G F x d) e over.two h.fits h.passes v (in_kernel u none)
      (stalk_place G.rank (F.degrees x) d g m)
      (stalk_place_below 6 G.rank d g s (F.degrees x) m wide has is)
