-- Vectors that are kept as the list of their numbers other than 0.
--   IsRising v             each place is below the later ones
--   IsSparse v             the places rise, and no value is 0
--   number_at v j          the number at place j, which is 0 where no entry stands
--   FitsBelow v n          each place is below n
--   ValuesBelow v p        each value is below p
--   IsSpread v n numbers   the first n of the numbers are those of v
use Rattle.std.specs.Prelude.{◌≡◌, ◌≢◌, ℕ, ◌<◌, ◌≤◌, ◌==◌, List, [], ◌∷◌, if◌then◌else◌, All, length, slice_index}
use Rattle.bmp_linear.specs.declared.vector.Entry.{Entry}

-- each place is below the later ones
abbrev pub IsRising : List Entry → Type 0
IsRising [] = Unit {0}
IsRising (e ∷ es) = All (λ d. e.place < d.place) es × IsRising es

-- the places rise, and no value is 0
pub record IsSparse (v : List Entry) : Type 0 where
  pub rising : IsRising v
  pub not_zero : All (λ e. e.value ≢ 0) v

-- the number at a place
abbrev pub number_at : List Entry → ℕ → ℕ
number_at [] j = 0
number_at (e ∷ es) j = if e.place == j then e.value else number_at es j

-- each entry's place is below n
abbrev pub FitsBelow : List Entry → ℕ → Type 0
FitsBelow v n = All (λ e. e.place < n) v

-- each entry's value is below p
abbrev pub ValuesBelow : List Entry → ℕ → Type 0
ValuesBelow v p = All (λ e. e.value < p) v

-- the first n of the numbers are those of v
pub record IsSpread (v : List Entry) (n : ℕ) (numbers : List ℕ) : Type 0 where
  pub room : n ≤ length numbers
  pub same : (j : ℕ) → j < n → slice_index numbers j ≡ number_at v j
