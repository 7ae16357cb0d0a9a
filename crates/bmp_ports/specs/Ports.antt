-- Bytes that come from a source or go to a sink. What a port holds may be told, Some bytes, or untold, None.
--   Rose before after            a count of faults rose
--   IsAtEnd left                 no byte is left, where that is told
--   Passes before after bytes    these bytes came from the source, and no others
--   PassesExactly before after n, PassesAtMost before after n
--                                n bytes came, or n at most
--   Takes before after bytes     the sink took these bytes, and no others
--   TakesPrefix before after bytes
--                                the sink took a prefix of these bytes
-- Each relation says also that a port which tells its bytes goes on telling them, and that one which doesn't never
-- will.
use Rattle.std.specs.Prelude.{◌≡◌, ◌⊎◌, ◌<◌, ◌≤◌, ◌^◌, ◌-◌, ℕ, List, [], ◌++◌, length, take, Option, Some, None}

-- it is greater than before, or stands at the last value of a 64 bit counter
abbrev pub Rose : ℕ → ℕ → Type 0
Rose before after = (before < after) ⊎ (after ≡ 2 ^ 64 - 1)

abbrev pub IsAtEnd : Option (List ℕ) → Type 0
IsAtEnd None = Unit {0}
IsAtEnd (Some left) = left ≡ []

-- what was left is these bytes and what is left now
abbrev pub Passes : Option (List ℕ) → Option (List ℕ) → List ℕ → Type 0
Passes None None bytes = Unit {0}
Passes (Some before) (Some after) bytes = before ≡ bytes ++ after
Passes None (Some after) bytes = ⊥
Passes (Some before) None bytes = ⊥

abbrev pub PassesExactly : Option (List ℕ) → Option (List ℕ) → ℕ → Type 0
PassesExactly before after n = (bytes : List ℕ) × (length bytes ≡ n) × Passes before after bytes

abbrev pub PassesAtMost : Option (List ℕ) → Option (List ℕ) → ℕ → Type 0
PassesAtMost before after n = (bytes : List ℕ) × (length bytes ≤ n) × Passes before after bytes

-- what is taken now is what was taken before and these bytes
abbrev pub Takes : Option (List ℕ) → Option (List ℕ) → List ℕ → Type 0
Takes None None bytes = Unit {0}
Takes (Some before) (Some after) bytes = after ≡ before ++ bytes
Takes None (Some after) bytes = ⊥
Takes (Some before) None bytes = ⊥

abbrev pub TakesPrefix : Option (List ℕ) → Option (List ℕ) → List ℕ → Type 0
TakesPrefix before after bytes = (n : ℕ) × (n ≤ length bytes) × Takes before after (take n bytes)
