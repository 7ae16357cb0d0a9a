-- Places of coordinates lie below their number.
use Rattle.std.proofs.Common.{◌≡◌, ℕ, zero, suc, ◌+◌, ◌-◌, ◌<◌, ◌≤◌, leb, List, length, sym, ap, subst, ◌∙◌, arith}
use Rattle.std.specs.Prelude.{slice_index, remove}
use Rattle.std.proofs.lemmas.Bool.{cond-true, le-leb}
use Rattle.bmp_math.proofs.SumLemmas.{sum_below-suc, sum_below_rises}
use Rattle.bmp_poly.specs.Exponents.{IsMonomial, count, place}
use Rattle.bmp_poly.proofs.PlaceLemmas.{place_below}
use Rattle.bmp_graded.specs.Quotients
use Rattle.bmp_graded.proofs.PureLemmas.{remove_parts}
use Rattle.bmp_graded.proofs.QuotientLemmas.{remove_monomial}
use Rattle.bmp_sheaf.specs.Elements.{HasComponent}
use Rattle.bmp_sheaf.specs.Coordinates.{component_count, stalk_start, stalk_count, stalk_place, edge_place}

-- the two ways to say that the variable l is taken out
pub removed_same : (m : List ℕ) (l : ℕ) → remove m l ≡ Quotients.remove l m
removed_same m l = sym (remove_parts l m)

-- a monomial without the variable l is one in a variable fewer
pub removed_monomial : (w r s l : ℕ) (e : List ℕ) → l < suc r → suc r ≤ suc w → IsMonomial (suc w) (suc r) s e →
    slice_index e l ≡ 0 → IsMonomial w r s (remove e l)
removed_monomial w r s l e below wide is pure =
    subst (IsMonomial w r s) (sym (removed_same e l)) (remove_monomial w r s l e (omega arith) (omega arith) pure is)

-- the polynomial at the generator has as many coefficients as there are monomials of its degree
pub component_is_count : (r s d e : ℕ) → e + s ≡ d → component_count r d e ≡ count r s
component_is_count r s d e h =
    let least : e ≤ d = omega arith in
    let whole : d - e ≡ s = omega arith in
    cond-true {A = ℕ} (leb e d) (count r (d - e)) 0 (le-leb e d least) ∙ ap (count r) whole

pub stalk_place_below : (w r d g s : ℕ) (degrees : List ℕ) (m : List ℕ) → r ≤ w → HasComponent degrees d g s →
    IsMonomial w r s m → stalk_place r degrees d g m < stalk_count r degrees d
stalk_place_below w r d g s degrees m wide has is =
    let here : place r m < count r s = place_below w r s m wide is in
    let size : component_count r d (slice_index degrees g) ≡ count r s =
    component_is_count r s d (slice_index degrees g) has.1 in
    let next : stalk_start r degrees d (suc g) ≡ stalk_start r degrees d g + component_count r d
    (slice_index degrees g) = sum_below-suc (λ h. component_count r d (slice_index degrees h)) g in
    let rises : stalk_start r degrees d (suc g) ≤ stalk_count r degrees d =
    sum_below_rises (λ h. component_count r d (slice_index degrees h)) (suc g) (length degrees)
    (omega (arith, has.0)) in
    omega (arith, here, size, next, rises)

-- the same on an edge, for monomials without the variable l
pub edge_place_below : (r l d g s : ℕ) (degrees : List ℕ) (m : List ℕ) → l < r → r ≤ 6 → HasComponent degrees d g s →
    IsMonomial 6 r s m → slice_index m l ≡ 0 → edge_place r l degrees d g m < stalk_count (r - 1) degrees d
edge_place_below zero l d g s degrees m below wide has is pure = absurd (omega arith)
edge_place_below (suc r) l d g s degrees m below wide has is pure =
    let one_fewer : suc r - 1 ≡ r = omega arith in
    rw one_fewer (stalk_place_below 5 r d g s degrees (remove m l) (omega arith) has
    (removed_monomial 5 r s l m below (omega arith) is pure))
