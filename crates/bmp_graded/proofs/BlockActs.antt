-- What is done block by block, at a place of one block; and linear extensions of the elements that are 1 at one place.
use Rattle.std.proofs.Common.{◌≡◌, ℕ, zero, suc, ◌+◌, ◌-◌, ◌*◌, ◌<◌, ◌≤◌, cond, leb, ltb, List, [], ◌∷◌, length, get_or, take, refl, sym, ap, ap₂, ◌∙◌, inl, inr, arith}
use Rattle.std.proofs.lemmas.Bool.{cases_eq, cases_lt, cond-true, cond-false, lt-leb, le-leb, lt-ltb, le-ltb}
use Rattle.std.proofs.Math.Path.{fun_ext}
use Rattle.bmp_math.specs.Sums.{sum_below}
use Rattle.bmp_math.specs.Vectors.{unit}
use Rattle.bmp_math.proofs.UnitLemmas.{unit_same, unit_other}
use Rattle.bmp_math.proofs.SumLemmas.{sum_below_same, sum_below_only, sum_below-zeros}
use Rattle.bmp_poly.specs.Exponents.{count, exponents}
use Rattle.bmp_graded.specs.Graded.{Graded}
use Rattle.bmp_graded.specs.Modules.{polynomials, moved}
use Rattle.bmp_graded.specs.Maps.{blockwise, multiples, extension}
use Rattle.bmp_graded.proofs.Totals.{none_times, one_times, total}
use Rattle.bmp_graded.proofs.CopiesLemmas.{block_dim, moved_dim, polynomials_dim}
use Rattle.bmp_graded.proofs.ComponentLemmas.{start_of}

-- the block of the h-th member
pub blockwise_at : (n m : ℕ → ℕ) (f : ℕ → (ℕ → ℕ) → ℕ → ℕ) (gs : List ℕ) (u : ℕ → ℕ) (h j : ℕ) → h < length gs →
    j < m (get_or gs h 0) → blockwise n m f gs u (total m (take h gs) + j)
    ≡ f (get_or gs h 0) (λ i. u (total n (take h gs) + i)) j
unfolding blockwise total
blockwise_at n m f [] u h j inside below = absurd (let none : h < 0 = inside in omega arith)
blockwise_at n m f (g ∷ gs) u zero j inside below =
    let start : 0 + j ≡ j = omega arith in
    let whole : u ≡ (λ i. u (0 + i)) = fun_ext (λ i. let at : i ≡ 0 + i = omega arith in ap u at) in
    ap (λ z. cond (ltb z (m g)) (f g u z) (blockwise n m f gs (λ i. u (n g + i)) (z - m g))) start
    ∙ cond-true {A = ℕ} (ltb j (m g)) (f g u j) (blockwise n m f gs (λ i. u (n g + i)) (j - m g)) (lt-ltb j (m g) below)
    ∙ ap (λ w. f g w j) whole
blockwise_at n m f (g ∷ gs) u (suc h) j inside below =
    let rest : suc h < suc (length gs) = inside in
    let past : m g ≤ (m g + total m (take h gs)) + j = omega arith in
    let back : ((m g + total m (take h gs)) + j) - m g ≡ total m (take h gs) + j = omega arith in
    let onward : (λ i. u (n g + (total n (take h gs) + i))) ≡ (λ i. u ((n g + total n (take h gs)) + i)) =
    fun_ext (λ i. let at : n g + (total n (take h gs) + i) ≡ (n g + total n (take h gs)) + i = omega arith in
    ap u at) in
    cond-false {A = ℕ} (ltb ((m g + total m (take h gs)) + j) (m g)) (f g u ((m g + total m (take h gs)) + j))
    (blockwise n m f gs (λ i. u (n g + i)) (((m g + total m (take h gs)) + j) - m g))
    (le-ltb ((m g + total m (take h gs)) + j) (m g) past)
    ∙ ap (blockwise n m f gs (λ i. u (n g + i))) back
    ∙ blockwise_at n m f gs (λ i. u (n g + i)) h j (omega arith) below
    ∙ ap (λ w. f (get_or gs h 0) w j) onward

pub unit_moved : (a k i : ℕ) → unit (a + k) (a + i) ≡ unit k i
unit_moved a k i = elim (cases_eq k i) [
  | inl same ↦ ap (λ z. unit (a + k) (a + z)) (sym same) ∙ unit_same (a + k) ∙ sym (unit_same k) ∙ ap (unit k) same
  | inr other ↦ unit_other (a + k) (a + i) (λ e. other (omega arith)) ∙ sym (unit_other k i other)
]

module _ (r : ℕ) (M : Graded) (d : ℕ) where
  -- the first n coordinates alone are read
  multiples_none : (g : ℕ) (w u : ℕ → ℕ) (j : ℕ) → ((i : ℕ) → i < (moved g (polynomials r)).dim d → u i ≡ 0) →
      multiples r M g w d u j ≡ 0
  unfolding multiples
  multiples_none g w u j none = elim (cases_lt d g) [
    | inl before ↦ cond-false {A = ℕ} (leb g d)
        (sum_below (λ i. u i * M.act (exponents 6 r (d - g) i) g d w j) (count r (d - g))) 0 (lt-leb g d before)
    | inr from ↦
        let size : (moved g (polynomials r)).dim d ≡ count r (d - g) =
        moved_dim (polynomials r) g d from ∙ polynomials_dim r (d - g) in
        cond-true {A = ℕ} (leb g d) (sum_below (λ i. u i * M.act (exponents 6 r (d - g) i) g d w j) (count r (d - g))) 0
        (le-leb g d from)
        ∙ sum_below_same (λ i. u i * M.act (exponents 6 r (d - g) i) g d w j) (λ i. 0) (count r (d - g))
        (λ i b. ap (λ z. z * M.act (exponents 6 r (d - g) i) g d w j) (none i (omega (arith, size, b)))
        ∙ none_times (M.act (exponents 6 r (d - g) i) g d w j))
        ∙ sum_below-zeros (count r (d - g))
  ]

  extension_none : (gs : List ℕ) (ws : ℕ → ℕ → ℕ) (u : ℕ → ℕ) (j : ℕ) → ((i : ℕ) → u i ≡ 0) →
      extension r M gs ws d u j ≡ 0
  unfolding extension
  extension_none [] ws u j none = refl
  extension_none (g ∷ gs) ws u j none =
      ap₂ (λ x y. x + y) (multiples_none g (ws 0) u j (λ i b. none i))
      (extension_none gs (λ h. ws (suc h)) (λ i. u ((moved g (polynomials r)).dim d + i)) j
      (λ i. none ((moved g (polynomials r)).dim d + i)))

  multiples_unit : (g k : ℕ) (w : ℕ → ℕ) (j : ℕ) → g ≤ d → k < count r (d - g) →
      multiples r M g w d (unit k) j ≡ M.act (exponents 6 r (d - g) k) g d w j
  unfolding multiples
  multiples_unit g k w j from below =
      cond-true {A = ℕ} (leb g d)
      (sum_below (λ i. unit k i * M.act (exponents 6 r (d - g) i) g d w j) (count r (d - g))) 0 (le-leb g d from)
      ∙ sum_below_only (λ i. unit k i * M.act (exponents 6 r (d - g) i) g d w j) (count r (d - g)) k below
      (λ i b other. ap (λ z. z * M.act (exponents 6 r (d - g) i) g d w j) (unit_other k i (λ e. other (sym e)))
      ∙ none_times (M.act (exponents 6 r (d - g) i) g d w j))
      ∙ ap (λ z. z * M.act (exponents 6 r (d - g) k) g d w j) (unit_same k)
      ∙ one_times (M.act (exponents 6 r (d - g) k) g d w j)

  -- the element that is 1 at the monomial number k of the h-th generator is sent to this monomial times the image
  pub extension_unit : (gs : List ℕ) (ws : ℕ → ℕ → ℕ) (h k j : ℕ) → h < length gs → get_or gs h 0 ≤ d →
      k < count r (d - get_or gs h 0) → extension r M gs ws d (unit (start_of r gs d h + k)) j
      ≡ M.act (exponents 6 r (d - get_or gs h 0) k) (get_or gs h 0) d (ws h) j
  unfolding extension total
  extension_unit [] ws h k j inside from below = absurd (let none : h < 0 = inside in omega arith)
  extension_unit (g ∷ gs) ws zero k j inside from below =
      let n : ℕ = (moved g (polynomials r)).dim d in
      let size : (moved g (polynomials r)).dim d ≡ count r (d - g) =
      moved_dim (polynomials r) g d from ∙ polynomials_dim r (d - g) in
      let start : 0 + k ≡ k = omega arith in
      let first : multiples r M g (ws 0) d (unit k) j ≡ M.act (exponents 6 r (d - g) k) g d (ws 0) j =
      multiples_unit g k (ws 0) j from below in
      let rest : extension r M gs (λ h. ws (suc h)) d (λ i. unit k ((moved g (polynomials r)).dim d + i)) j ≡ 0 =
      extension_none gs (λ h. ws (suc h)) (λ i. unit k ((moved g (polynomials r)).dim d + i)) j
      (λ i. unit_other k ((moved g (polynomials r)).dim d + i) (λ e. absurd (omega (arith, size, below, e)))) in
      ap (λ z. multiples r M g (ws 0) d (unit z) j + extension r M gs (λ h. ws (suc h)) d
      (λ i. unit z ((moved g (polynomials r)).dim d + i)) j) start
      ∙ ap₂ (λ x y. x + y) first rest ∙ plain (M.act (exponents 6 r (d - g) k) g d (ws 0) j)
    where
      plain : (x : ℕ) → x + 0 ≡ x
      plain x = omega arith
  extension_unit (g ∷ gs) ws (suc h) k j inside from below =
      let here : suc h < suc (length gs) = inside in
      let at : ((moved g (polynomials r)).dim d + total (block_dim (polynomials r) d) (take h gs)) + k
      ≡ (moved g (polynomials r)).dim d + (total (block_dim (polynomials r) d) (take h gs) + k) = omega arith in
      let first : multiples r M g (ws 0) d
      (unit ((moved g (polynomials r)).dim d + (total (block_dim (polynomials r) d) (take h gs) + k))) j ≡ 0 =
      multiples_none g (ws 0)
      (unit ((moved g (polynomials r)).dim d + (total (block_dim (polynomials r) d) (take h gs) + k))) j
      (λ i b. unit_other ((moved g (polynomials r)).dim d + (total (block_dim (polynomials r) d) (take h gs) + k)) i
      (λ e. absurd (omega (arith, b, e)))) in
      let onward : (λ i. unit ((moved g (polynomials r)).dim d + (total (block_dim (polynomials r) d) (take h gs) + k))
      ((moved g (polynomials r)).dim d + i)) ≡ unit (total (block_dim (polynomials r) d) (take h gs) + k) = fun_ext
      (λ i. unit_moved ((moved g (polynomials r)).dim d) (total (block_dim (polynomials r) d) (take h gs) + k) i) in
      ap (λ z. multiples r M g (ws 0) d (unit z) j + extension r M gs (λ h. ws (suc h)) d
      (λ i. unit z ((moved g (polynomials r)).dim d + i)) j) at
      ∙ ap₂ (λ x y. x + y) first (ap (λ w. extension r M gs (λ h. ws (suc h)) d w j) onward
      ∙ extension_unit gs (λ h. ws (suc h)) h k j (omega arith) from below)
      ∙ plain (M.act (exponents 6 r (d - get_or gs h 0) k) (get_or gs h 0) d (ws (suc h)) j)
    where
      plain : (x : ℕ) → 0 + x ≡ x
      plain x = omega arith
