-- Entries that were multiplied, and sums of entries.
--   times_entry p c e                 the entry with c times its value
--   after v place                     the entries that are left once `place` is passed
--   StartsAt v place                  the first entry stands at the place
--   IsNextEntry p c u v e             the number at the lowest place of u plus c times v
--   IsEntrySum p c u v w              w is u plus c times v
use Rattle.std.specs.Prelude.{◌≡◌, ℕ, ◌+◌, ◌*◌, ◌%◌, ◌≤◌, ◌==◌, ◌⊎◌, List, [], ◌∷◌, if◌then◌else◌, All}
use Rattle.bmp_linear.specs.declared.vector.Entry.{Entry}
use Rattle.bmp_linear.specs.SparseVectors.{IsSparse, ValuesBelow, number_at}

-- the entry with c times its value, modulo p
abbrev pub times_entry : ℕ → ℕ → Entry → Entry
times_entry p c e = record { place = e.place; value = (c * e.value) % p }

-- the entries but the first one, if that stands at the place
abbrev pub after : List Entry → ℕ → List Entry
after [] place = []
after (e ∷ es) place = if e.place == place then es else e ∷ es

abbrev pub StartsAt : List Entry → ℕ → Type 0
StartsAt [] place = ⊥
StartsAt (e ∷ es) place = e.place ≡ place

-- neither has an entry before e, one has one at its place, and e has the sum's number there, maybe 0
pub record IsNextEntry (p c : ℕ) (u v : List Entry) (e : Entry) : Type 0 where
  pub reaches_first : All (λ d. e.place ≤ d.place) u
  pub reaches_second : All (λ d. e.place ≤ d.place) v
  pub starts : StartsAt u e.place ⊎ StartsAt v e.place
  pub value : e.value ≡ (number_at u e.place + c * number_at v e.place) % p

-- the sum of u and c times v, modulo p
pub record IsEntrySum (p c : ℕ) (u v w : List Entry) : Type 0 where
  pub sparse : IsSparse w
  pub values : ValuesBelow w p
  pub same : (j : ℕ) → number_at w j ≡ (number_at u j + c * number_at v j) % p
