-- The main laws, as statements.
--   SumsExchange              the order of two sums is free
--   SumsJoin                  a sum over m + n numbers is one over m and one over the n after them
--   ImagesAreLinear           what the rows of a matrix say of a vector is linear in it
--   FormsMove                 a combination of the rows, taken at v, is the combination of what the rows say of v
--   CombinationsCompose       a combination of combinations is a combination
--   AgreementOnUnits          linear maps that agree on the units agree
use Rattle.std.specs.Prelude.{◌≡◌, ℕ, ◌+◌, ◌<◌}
use Rattle.bmp_math.specs.Sums.{sum_below}
use Rattle.bmp_math.specs.Congruences.{SameMod}
use Rattle.bmp_math.specs.Vectors.{SameVector, unit, dot, IsLinear}
use Rattle.bmp_math.specs.Matrices.{Matrix, combination, image}

abbrev pub SumsExchange : Type 0
SumsExchange = (f : ℕ → ℕ → ℕ) (m n : ℕ) → sum_below (λ i. sum_below (λ j. f i j) n) m
    ≡ sum_below (λ j. sum_below (λ i. f i j) m) n

abbrev pub SumsJoin : Type 0
SumsJoin = (f : ℕ → ℕ) (m n : ℕ) → sum_below f (m + n) ≡ sum_below f m + sum_below (λ i. f (m + i)) n

abbrev pub ImagesAreLinear : Type 0
ImagesAreLinear = (p : ℕ) (a : Matrix) → IsLinear p a.cols a.rows (image a)

abbrev pub FormsMove : Type 0
FormsMove = (a : Matrix) (c v : ℕ → ℕ) → dot a.cols (combination c a.entry a.rows) v ≡ dot a.rows c (image a v)

abbrev pub CombinationsCompose : Type 0
CombinationsCompose =
    (c : ℕ → ℕ) (d vs : ℕ → ℕ → ℕ) (m n j : ℕ) →
    combination c (λ k. combination (d k) vs n) m j ≡ combination (combination c d m) vs n j

abbrev pub AgreementOnUnits : Type 0
AgreementOnUnits =
    (p n m : ℕ) (f g : (ℕ → ℕ) → ℕ → ℕ) → IsLinear p n m f → IsLinear p n m g →
    ((i : ℕ) → i < n → SameVector p m (f (unit i)) (g (unit i))) → (v : ℕ → ℕ) → SameVector p m (f v) (g v)
