-- Systems of equations modulo p, one for each row.
--   Solves p a b x              each row says of x what b has at its place
--   HasSolution p a b           some x solves them
--   Refuses p a b y             the combination y of the rows is 0, and that of the numbers b isn't
--   IsSolution p a b x          x is a vector of numbers that solves them
--   IsObstruction p a b y       y is a vector of numbers that refuses b
--   IsFound s                   a solution was found
--   IfFound P s, IfWithout P s  P holds of what was found, or of what shows that nothing can be
use Rattle.std.specs.Prelude.{ℕ, ◌<◌, List}
use Rattle.bmp_math.specs.Congruences.{SameMod}
use Rattle.bmp_math.specs.Vectors.{dot}
use Rattle.bmp_math.specs.Matrices.{Matrix, combination, image}
use Rattle.bmp_linear.specs.declared.vector.Entry.{Entry}
use Rattle.bmp_linear.specs.SparseVectors.{FitsBelow, ValuesBelow, number_at}
use Rattle.bmp_elim.specs.declared.systems.Solution.{Solution}
use Rattle.bmp_elim.specs.declared.systems.Solution.TheVariants.{Found, Without}

-- each row says of x what b has at its place
abbrev pub Solves : ℕ → Matrix → (ℕ → ℕ) → (ℕ → ℕ) → Type 0
Solves p a b x = (i : ℕ) → i < a.rows → SameMod p (image a x i) (b i)

pub record HasSolution (p : ℕ) (a : Matrix) (b : ℕ → ℕ) : Type 0 where
  pub solution : ℕ → ℕ
  pub solves : Solves p a b solution

-- the combination y of the rows is 0, and that of the numbers b isn't
pub record Refuses (p : ℕ) (a : Matrix) (b y : ℕ → ℕ) : Type 0 where
  pub zero : (j : ℕ) → j < a.cols → SameMod p (combination y a.entry a.rows j) 0
  pub not_zero : ¬ SameMod p (dot a.rows y b) 0

pub record IsSolution (p : ℕ) (a : Matrix) (b : ℕ → ℕ) (x : List Entry) : Type 0 where
  pub fits : FitsBelow x a.cols
  pub below : ValuesBelow x p
  pub solves : Solves p a b (number_at x)

pub record IsObstruction (p : ℕ) (a : Matrix) (b : ℕ → ℕ) (y : List Entry) : Type 0 where
  pub fits : FitsBelow y a.rows
  pub below : ValuesBelow y p
  pub refuses : Refuses p a b (number_at y)

abbrev pub IsFound : Solution → Type 0
IsFound (Found x) = Unit {0}
IsFound (Without y) = ⊥

abbrev pub IfFound : (List Entry → Type 0) → Solution → Type 0
IfFound P (Found x) = P x
IfFound P (Without y) = Unit {0}

abbrev pub IfWithout : (List Entry → Type 0) → Solution → Type 0
IfWithout P (Found x) = Unit {0}
IfWithout P (Without y) = P y
