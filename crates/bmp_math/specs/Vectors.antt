-- Vectors of numbers: functions that are read below a bound n, modulo p.
--   SameVector p n u v     u and v have the same numbers modulo p at the n places
--   unit i                 1 at place i, 0 elsewhere
--   plus u v, scaled c v   sum and multiple, place by place
--   dot n u v              u 0 * v 0 + .. + u (n - 1) * v (n - 1)
--   IsLinear p n m map     map respects sums and multiples, from vectors of n numbers to vectors of m numbers
use Rattle.std.specs.Prelude.{ℕ, ◌+◌, ◌*◌, ◌<◌, ◌==◌, if◌then◌else◌}
use Rattle.bmp_math.specs.Sums.{sum_below}
use Rattle.bmp_math.specs.Congruences.{SameMod}

-- equal at n places modulo p
abbrev pub SameVector : ℕ → ℕ → (ℕ → ℕ) → (ℕ → ℕ) → Type 0
SameVector p n u v = (j : ℕ) → j < n → SameMod p (u j) (v j)

-- 1 at its own place, 0 elsewhere
abbrev pub unit : ℕ → ℕ → ℕ
unit i j = if i == j then 1 else 0

abbrev pub plus : (ℕ → ℕ) → (ℕ → ℕ) → ℕ → ℕ
plus u v j = u j + v j

abbrev pub scaled : ℕ → (ℕ → ℕ) → ℕ → ℕ
scaled c v j = c * v j

-- the linear form u at the vector v, or the other way round
abbrev pub dot : ℕ → (ℕ → ℕ) → (ℕ → ℕ) → ℕ
dot n u v = sum_below (λ j. u j * v j) n

-- a map from vectors of n numbers to vectors of m numbers that respects sums and multiples
pub record IsLinear (p n m : ℕ) (map : (ℕ → ℕ) → ℕ → ℕ) : Type 0 where
  pub respects : (u v : ℕ → ℕ) → SameVector p n u v → SameVector p m (map u) (map v)
  pub sums : (u v : ℕ → ℕ) → SameVector p m (map (plus u v)) (plus (map u) (map v))
  pub multiples : (c : ℕ) (v : ℕ → ℕ) → SameVector p m (map (scaled c v)) (scaled c (map v))
