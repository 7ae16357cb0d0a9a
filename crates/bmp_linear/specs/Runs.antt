-- Runs of equally many numbers within a list: `len` numbers from a place on.
--   IsOutside start len k                     the place k isn't in the run
--   AreApart i j len                          two runs share no place
--   HoldsRun p start len list                 the run is within the list, and its numbers are below p
--   IsRunAdded p c into from len old new      c times one run was added to another
--   IsRunMultiplied p c start len old new     a run was multiplied by c
--   AreRunsExchanged i j len old new          two runs changed places
--   IsListAdded p into list old new           the numbers of a list were added to a run
--   AreMultiples p n list table               the list times 0, 1 and so on below n, one after the other
use Rattle.std.specs.Prelude.{◌≡◌, ℕ, ◌+◌, ◌*◌, ◌%◌, ◌<◌, ◌≤◌, ◌⊎◌, List, length, slice_index}

abbrev pub IsOutside : ℕ → ℕ → ℕ → Type 0
IsOutside start len k = (k < start) ⊎ (start + len ≤ k)

abbrev pub AreApart : ℕ → ℕ → ℕ → Type 0
AreApart i j len = (i + len ≤ j) ⊎ (j + len ≤ i)

pub record HoldsRun (p start len : ℕ) (list : List ℕ) : Type 0 where
  pub within : start + len ≤ length list
  pub below : (j : ℕ) → j < len → slice_index list (start + j) < p

-- c times the run `from` was added to the run `into`, modulo p
pub record IsRunAdded (p c into from len : ℕ) (old new : List ℕ) : Type 0 where
  pub length_is : length new ≡ length old
  pub added : (j : ℕ) → j < len →
      slice_index new (into + j) ≡ (slice_index old (into + j) + c * slice_index old (from + j)) % p
  pub others : (k : ℕ) → IsOutside into len k → slice_index new k ≡ slice_index old k

-- the run was multiplied by c, modulo p
pub record IsRunMultiplied (p c start len : ℕ) (old new : List ℕ) : Type 0 where
  pub length_is : length new ≡ length old
  pub multiplied : (j : ℕ) → j < len → slice_index new (start + j) ≡ (c * slice_index old (start + j)) % p
  pub others : (k : ℕ) → IsOutside start len k → slice_index new k ≡ slice_index old k

-- the two runs changed places
pub record AreRunsExchanged (first second len : ℕ) (old new : List ℕ) : Type 0 where
  pub length_is : length new ≡ length old
  pub at_first : (j : ℕ) → j < len → slice_index new (first + j) ≡ slice_index old (second + j)
  pub at_second : (j : ℕ) → j < len → slice_index new (second + j) ≡ slice_index old (first + j)
  pub others : (k : ℕ) → IsOutside first len k → IsOutside second len k → slice_index new k ≡ slice_index old k

-- the numbers of the list were added to those from `into` on, modulo p
pub record IsListAdded (p into : ℕ) (list old new : List ℕ) : Type 0 where
  pub length_is : length new ≡ length old
  pub added : (j : ℕ) → j < length list →
      slice_index new (into + j) ≡ (slice_index old (into + j) + slice_index list j) % p
  pub others : (k : ℕ) → IsOutside into (length list) k → slice_index new k ≡ slice_index old k

-- c times the list stands from c * length list on, modulo p
abbrev pub AreMultiples : ℕ → ℕ → List ℕ → List ℕ → Type 0
AreMultiples p n list table = (c j : ℕ) → c < n → j < length list →
    slice_index table (c * length list + j) ≡ (c * slice_index list j) % p
