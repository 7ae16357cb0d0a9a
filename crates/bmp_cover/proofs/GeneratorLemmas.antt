-- Where the coordinates of generators start, and the generators of one degree counted.
use Rattle.std.proofs.Common.{◌≡◌, ◌≢◌, ℕ, zero, suc, ◌+◌, ◌<◌, ◌≤◌, eqb, cond, List, length, refl, sym, ap, arith, eq-eqb, ne_eqb}
use Rattle.std.specs.Prelude.{slice_index}
use Rattle.std.proofs.lemmas.List.Sums.{count_by_more_yes, count_by_more_no, sum_by-take-le}
use Rattle.bmp_math.specs.Sums.{sum_below}
use Rattle.bmp_math.proofs.SumLemmas.{sum_below-zero, sum_below_more, sum_below_rises}
use Rattle.bmp_poly.specs.Exponents.{count, place, zeros}
use Rattle.bmp_poly.proofs.PlaceLemmas.{sum-zeros}
use Rattle.bmp_graded.specs.Modules.{polynomials, moved}
use Rattle.bmp_graph.specs.Graph.{Graph}
use Rattle.bmp_sheaf.specs.Sheaves.{SheafData}
use Rattle.bmp_sheaf.specs.Coordinates.{component_count, stalk_start, stalk_count}
use Rattle.bmp_sheaf.proofs.ModuleLemmas.{free_block}
use Rattle.bmp_cover.specs.Counts.{generators_in}
use Rattle.bmp_cover.specs.Evidence.{generator_place}
use Rattle.bmp_cover.specs.CoverChecks.{source_place}

module _ (r : ℕ) (degrees : List ℕ) (d g : ℕ) where
  next_start : stalk_start r degrees d (g + 1) ≡ stalk_start r degrees d g + component_count r d (slice_index degrees g)
  next_start = sum_below_more (λ h. component_count r d (slice_index degrees h)) g

  pub next_is : (start own : ℕ) → start ≡ stalk_start r degrees d g →
      own ≡ (moved (slice_index degrees g) (polynomials r)).dim d → start + own ≡ stalk_start r degrees d (g + 1)
  next_is start own is own_is = omega (arith, is, own_is, free_block r d (slice_index degrees g), next_start)

  pub next_within : g < length degrees → stalk_start r degrees d (g + 1) ≤ stalk_count r degrees d
  next_within below =
      sum_below_rises (λ h. component_count r d (slice_index degrees h)) (g + 1) (length degrees) (omega arith)

pub start_none : (r : ℕ) (degrees : List ℕ) (d : ℕ) → 0 ≡ stalk_start r degrees d 0
start_none r degrees d = sym (sum_below-zero (λ h. component_count r d (slice_index degrees h)))

-- the constant comes first
place_zeros : (w r : ℕ) → place r (zeros w) ≡ 0
unfolding place zeros
place_zeros w zero = refl
place_zeros zero (suc r) = refl
place_zeros (suc w) (suc r) =
    omega (arith, ap (sum_below (count r)) (sum-zeros w), sum_below-zero (count r), place_zeros w r)

pub own_place : (G : Graph) (F : SheafData) (x d g own : ℕ) → own ≡ stalk_start G.rank (F.degrees x) d g →
    own ≡ generator_place G F x d g
own_place G F x d g own is = omega (arith, is, place_zeros 6 G.rank)

module _ (F : SheafData) (x d g : ℕ) (within : g < length (F.degrees x)) where
  pub place_after_new : slice_index (F.degrees x) g ≡ d → source_place F x d (g + 1) ≡ source_place F x d g + 1
  place_after_new is_new =
      count_by_more_yes (λ e. eqb e d) (F.degrees x) g 0 within (eq-eqb (slice_index (F.degrees x) g) d is_new)

  pub place_after_other : slice_index (F.degrees x) g ≢ d → source_place F x d (g + 1) ≡ source_place F x d g
  place_after_other other =
      count_by_more_no (λ e. eqb e d) (F.degrees x) g 0 within (ne_eqb (slice_index (F.degrees x) g) d other)

  -- a generator of degree d is one of those that are counted
  pub place_within : slice_index (F.degrees x) g ≡ d → source_place F x d g < generators_in F x d
  place_within is_new =
      omega (arith, place_after_new is_new, sum_by-take-le (λ e. cond (eqb e d) 1 0) (F.degrees x) (g + 1))
