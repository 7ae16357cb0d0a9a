-- Where the polynomials of an element stand among its coordinates.
use Rattle.std.proofs.Common.{◌≡◌, ℕ, zero, suc, ◌+◌, ◌-◌, ◌<◌, ◌≤◌, ◌==◌, if◌then◌else◌, List, [], ◌∷◌, length, get_or, take, refl, sym, ap, ◌∙◌, inl, inr, arith, eqb, eq-eqb, ne_eqb}
use Rattle.std.proofs.lemmas.Bool.{cases_eq, cases_lt, cond-true, cond-false}
use Rattle.bmp_math.specs.Sums.{sum_below}
use Rattle.bmp_poly.specs.Exponents.{IsMonomial, count, place}
use Rattle.bmp_poly.proofs.PlaceLemmas.{place_below}
use Rattle.bmp_graded.specs.Modules.{polynomials, moved, free}
use Rattle.bmp_graded.specs.Components.{component}
use Rattle.bmp_graded.proofs.Totals.{total, total_taken, total_apart, total_front}
use Rattle.bmp_graded.proofs.CopiesLemmas.{block_dim, moved_dim, polynomials_dim, copies_dim}

-- where the block of the h-th generator begins
abbrev pub start_of : ℕ → List ℕ → ℕ → ℕ → ℕ
start_of r gs d h = total (block_dim (polynomials r) d) (take h gs)

pub component_at : (r d h : ℕ) (gs : List ℕ) (v : ℕ → ℕ) (m : List ℕ) → h < length gs →
    component r gs h d v m ≡ v (start_of r gs d h + place r m)
unfolding component total
component_at r d h [] v m inside = absurd (let none : h < 0 = inside in omega arith)
component_at r d zero (g ∷ gs) v m inside = let same : 0 + place r m ≡ place r m = omega arith in ap v (sym same)
component_at r d (suc h) (g ∷ gs) v m inside =
    let below : suc h < suc (length gs) = inside in
    let same : (moved g (polynomials r)).dim d + (start_of r gs d h + place r m)
    ≡ ((moved g (polynomials r)).dim d + start_of r gs d h) + place r m = omega arith in
    component_at r d h gs (λ i. v ((moved g (polynomials r)).dim d + i)) m (omega arith) ∙ ap v same

pub count_none : (r : ℕ) → count r 0 ≡ 1
unfolding count sum_below
count_none zero = refl
count_none (suc r) = let same : 0 + count r 0 ≡ count r 0 = omega arith in same ∙ count_none r

-- the element that is 1 where the block of g begins, in the degree of g, and 0 elsewhere
pub generator_is : (r g : ℕ) (gs : List ℕ) (v : ℕ → ℕ) → r ≤ 6 → g < length gs →
    v (start_of r gs (get_or gs g 0) g) ≡ 1 → ((i : ℕ) → (i ≡ start_of r gs (get_or gs g 0) g → ⊥) → v i ≡ 0) →
    (h : ℕ) (m : List ℕ) → h < length gs → get_or gs h 0 ≤ get_or gs g 0 →
    IsMonomial 6 r (get_or gs g 0 - get_or gs h 0) m → component r gs h (get_or gs g 0) v m ≡ (if h == g then 1 else 0)
generator_is r g gs v wide inside one others h m here le is =
    let n = block_dim (polynomials r) (get_or gs g 0) in
    let block : (moved (get_or gs h 0) (polynomials r)).dim (get_or gs g 0) ≡ count r (get_or gs g 0 - get_or gs h 0) =
    moved_dim (polynomials r) (get_or gs h 0) (get_or gs g 0) le
    ∙ polynomials_dim r (get_or gs g 0 - get_or gs h 0) in
    let below : place r m < count r (get_or gs g 0 - get_or gs h 0) =
    place_below 6 r (get_or gs g 0 - get_or gs h 0) m wide is in
    component_at r (get_or gs g 0) h gs v m here
    ∙ elim (cases_eq h g) [
      | inl same ↦
          let none : get_or gs g 0 - get_or gs h 0 ≡ 0 = let at : get_or gs h 0 ≡ get_or gs g 0 =
          ap (λ z. get_or gs z 0) same in omega arith in
          let first : place r m ≡ 0 = let few : count r (get_or gs g 0 - get_or gs h 0) ≡ 1 =
          ap (count r) none ∙ count_none r in omega arith in
          let there : start_of r gs (get_or gs g 0) h + place r m ≡ start_of r gs (get_or gs g 0) g =
          let at : start_of r gs (get_or gs g 0) h ≡ start_of r gs (get_or gs g 0) g =
          ap (start_of r gs (get_or gs g 0)) same in omega arith in
          ap v there ∙ one ∙ sym (cond-true {A = ℕ} (eqb h g) 1 0 (eq-eqb h g same))
      | inr other ↦
          others (start_of r gs (get_or gs g 0) h + place r m)
          (elim (cases_lt h g) [
            | inl before ↦ λ e. let apart : total n (take h gs) + n (get_or gs h 0) ≤ total n (take g gs) =
                total_apart n gs h g 0 before (omega arith) in absurd (omega arith)
            | inr after ↦ λ e.
                let apart : total n (take g gs) + n (get_or gs g 0) ≤ total n (take h gs) =
                total_apart n gs g h 0 (omega arith) (omega arith) in
                let none : get_or gs g 0 - get_or gs g 0 ≡ 0 = omega arith in
                let own : n (get_or gs g 0) ≡ 1 =
                moved_dim (polynomials r) (get_or gs g 0) (get_or gs g 0) (omega arith)
                ∙ polynomials_dim r (get_or gs g 0 - get_or gs g 0) ∙ ap (count r) none ∙ count_none r in
                absurd (omega arith)
          ])
          ∙ sym (cond-false {A = ℕ} (eqb h g) 1 0 (ne_eqb h g other))
    ]

pub start_more : (r d h : ℕ) (gs : List ℕ) → h < length gs →
    start_of r gs d (h + 1) ≡ start_of r gs d h + (moved (get_or gs h 0) (polynomials r)).dim d
start_more r d h gs inside = total_taken (block_dim (polynomials r) d) gs h 0 inside

pub start_inside : (r d g : ℕ) (gs : List ℕ) → g < length gs →
    start_of r gs d g + (moved (get_or gs g 0) (polynomials r)).dim d ≤ (free r gs).dim d
start_inside r d g gs inside =
    omega (
      arith,
      total_apart (block_dim (polynomials r) d) gs g (length gs) 0 inside (omega arith),
      total_front (block_dim (polynomials r) d) gs,
      copies_dim (polynomials r) d gs,
    )

-- a generator has one coordinate in its own degree
pub own_block : (r g : ℕ) → (moved g (polynomials r)).dim g ≡ 1
own_block r g = let none : g - g ≡ 0 = omega arith in moved_dim (polynomials r) g g (omega arith)
    ∙ polynomials_dim r (g - g) ∙ ap (count r) none ∙ count_none r

pub start_none : (r d : ℕ) (gs : List ℕ) → start_of r gs d 0 ≡ 0
unfolding total
start_none r d gs = refl
