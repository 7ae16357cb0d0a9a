-- Combinations of rows, what rows say of combinations, and the matrix of a linear map.
use Rattle.std.proofs.Common.{◌≡◌, ℕ, ◌+◌, ◌*◌, ◌%◌, ◌<◌, eqb, arith, refl, sym, ap, subst, ◌∙◌, eq-eqb, ne_eqb}
use Rattle.std.proofs.lemmas.Bool.{cond-true, cond-false}
use Rattle.bmp_math.specs.Sums.{sum_below}
use Rattle.bmp_math.specs.Congruences.{SameMod}
use Rattle.bmp_math.specs.Vectors.{SameVector, unit, dot, plus, scaled, IsLinear}
use Rattle.bmp_math.specs.Matrices.{Matrix, combination, image}
use Rattle.bmp_math.proofs.SumLemmas.{sum_below-add, sum_below-mul, sum_below-swap, sum_below_same, sum_same_mod, sum_below_only}
use Rattle.bmp_math.proofs.CongruenceLemmas.{same_mul}
use Rattle.bmp_math.proofs.VectorLemmas.{agree_on_all}

module _ (a : Matrix) where
  -- what the rows say of a sum
  pub image-plus : (v w : ℕ → ℕ) (i : ℕ) → image a (plus v w) i ≡ image a v i + image a w i
  image-plus v w i =
      sum_below_same (λ j. (v j + w j) * a.entry i j) (λ j. v j * a.entry i j + w j * a.entry i j) a.cols
      (λ j l. omega arith)
      ∙ sum_below-add (λ j. v j * a.entry i j) (λ j. w j * a.entry i j) a.cols

  pub image-scaled : (c : ℕ) (v : ℕ → ℕ) (i : ℕ) → image a (scaled c v) i ≡ c * image a v i
  image-scaled c v i =
      sum_below_same (λ j. (c * v j) * a.entry i j) (λ j. c * (v j * a.entry i j)) a.cols (λ j l. omega arith)
      ∙ sum_below-mul c (λ j. v j * a.entry i j) a.cols

  -- what a row says of a combination is the combination of what it says
  pub image-combination : (k : ℕ) (c : ℕ → ℕ) (b : ℕ → ℕ → ℕ) (i : ℕ) →
      image a (combination c b k) i ≡ sum_below (λ t. c t * image a (b t) i) k
  image-combination k c b i =
      sum_below_same (λ j. combination c b k j * a.entry i j) (λ j. sum_below (λ t. a.entry i j * (c t * b t j)) k)
      a.cols (λ j l. omega (arith, sum_below-mul (a.entry i j) (λ t. c t * b t j) k))
      ∙ sum_below-swap (λ j t. a.entry i j * (c t * b t j)) a.cols k
      ∙ sum_below_same (λ t. sum_below (λ j. a.entry i j * (c t * b t j)) a.cols) (λ t. c t * image a (b t) i) k
      (λ t l. sum_below_same (λ j. a.entry i j * (c t * b t j)) (λ j. (c t * b t j) * a.entry i j) a.cols
      (λ j k. omega arith) ∙ image-scaled (c t) (b t) i)

  -- a combination of the rows, taken at v, is the combination of what the rows say of v
  pub dot-combination : (c v : ℕ → ℕ) → dot a.cols (combination c a.entry a.rows) v ≡ dot a.rows c (image a v)
  dot-combination c v =
      sum_below_same (λ j. combination c a.entry a.rows j * v j)
      (λ j. sum_below (λ i. v j * (c i * a.entry i j)) a.rows) a.cols
      (λ j l. omega (arith, sum_below-mul (v j) (λ i. c i * a.entry i j) a.rows))
      ∙ sum_below-swap (λ j i. v j * (c i * a.entry i j)) a.cols a.rows
      ∙ sum_below_same (λ i. sum_below (λ j. v j * (c i * a.entry i j)) a.cols) (λ i. c i * image a v i) a.rows
      (λ i l. sum_below_same (λ j. v j * (c i * a.entry i j)) (λ j. c i * (v j * a.entry i j)) a.cols
      (λ j k. omega arith) ∙ sum_below-mul (c i) (λ j. v j * a.entry i j) a.cols)

-- a combination of combinations of vectors is a combination of the vectors
pub combination-combination : (c : ℕ → ℕ) (d vs : ℕ → ℕ → ℕ) (m n j : ℕ) →
    combination c (λ k. combination (d k) vs n) m j ≡ combination (combination c d m) vs n j
combination-combination c d vs m n j =
    sum_below_same (λ k. c k * sum_below (λ i. d k i * vs i j) n) (λ k. sum_below (λ i. c k * (d k i * vs i j)) n) m
    (λ k l. sym (sum_below-mul (c k) (λ i. d k i * vs i j) n))
    ∙ sum_below-swap (λ k i. c k * (d k i * vs i j)) m n
    ∙ sum_below_same (λ i. sum_below (λ k. c k * (d k i * vs i j)) m) (λ i. combination c d m i * vs i j) n
    (λ i l. gathered i)
  where
    gathered : (i : ℕ) → sum_below (λ k. c k * (d k i * vs i j)) m ≡ combination c d m i * vs i j
    gathered i =
        sum_below_same (λ k. c k * (d k i * vs i j)) (λ k. vs i j * (c k * d k i)) m (λ k l. omega arith)
        ∙ sum_below-mul (vs i j) (λ k. c k * d k i) m
        ∙ omega arith

-- the image is a linear map
pub image_is_linear : (p : ℕ) (a : Matrix) → IsLinear p a.cols a.rows (image a)
image_is_linear p a = record {
  respects = λ u v same i l. sum_same_mod p (λ j. u j * a.entry i j) (λ j. v j * a.entry i j) a.cols
      (λ j k. same_mul p (u j) (v j) (a.entry i j) (a.entry i j) (same j k) refl);
  sums = λ u v i l. ap (λ z. z % p) (image-plus a u v i);
  multiples = λ c v i l. ap (λ z. z % p) (image-scaled a c v i);
}

-- the rows say of a unit what stands in its column
pub image-unit : (a : Matrix) (j i : ℕ) → j < a.cols → image a (unit j) i ≡ a.entry i j
image-unit a j i below =
    sum_below_only (λ k. unit j k * a.entry i k) a.cols j below
    (λ k inside other. ap (λ z. z * a.entry i k)
    (cond-false {A = ℕ} (eqb j k) 1 0 (ne_eqb j k (λ e. other (sym e)))) ∙ nothing (a.entry i k))
    ∙ ap (λ z. z * a.entry i j) (cond-true {A = ℕ} (eqb j j) 1 0 (eq-eqb j j refl))
    ∙ once (a.entry i j)
  where
    nothing : (x : ℕ) → 0 * x ≡ 0
    nothing x = omega arith

    once : (x : ℕ) → 1 * x ≡ x
    once x = omega arith

-- a matrix with the images of the units as its columns is that of the map
pub matrix_of_linear : (p n m : ℕ) (a : Matrix) (map : (ℕ → ℕ) → ℕ → ℕ) → IsLinear p n m map → a.rows ≡ m → a.cols ≡ n →
    ((i j : ℕ) → i < m → j < n → SameMod p (a.entry i j) (map (unit j) i)) → (v : ℕ → ℕ) →
    SameVector p m (image a v) (map v)
matrix_of_linear p n m a map linear rows cols entries =
    agree_on_all p n m (image a) map
    (subst (λ z. IsLinear p z m (image a)) cols
    (subst (λ z. IsLinear p a.cols z (image a)) rows (image_is_linear p a))) linear
    (λ j below i inside. ap (λ z. z % p) (image-unit a j i (subst (λ z. j < z) (sym cols) below))
    ∙ entries i j inside below)
