-- Bits in words of 64, and runs of equally many words within a list.
--   width_of cols                           how many words the bits of so many columns take
--   bit_of words j                          the bit j of the words, counted through them all
--   HasRowBits row words                    the bits of the words are the numbers of a row
--   IsBitSet old k new                      the bit k of a word became 1
--   HasBits numbers word                    the lowest bits of a word are the numbers, and the others are 0
--   AreBitsAdded word old new               the lowest bits of a word were added to numbers
--   AreRowBitsAdded words old new           the bits of words were added to numbers
--   IsRowAppended row cols old new          the words of a row of so many columns are behind the old ones
--   AreWordsAdded from old new              words were added to others, bit by bit
--   IsWordRunAdded into from len old new    a run of words was added to another, bit by bit
use Rattle.std.specs.Prelude.{◌≡◌, ◌≢◌, ℕ, ◌+◌, ◌*◌, ◌/◌, ◌%◌, ◌<◌, ◌≤◌, List, ◌++◌, length, slice_index}
use Rattle.std.specs.Int.{bit_at}
use Rattle.bmp_linear.specs.Runs.{IsOutside}

abbrev pub width_of : ℕ → ℕ
width_of cols = (cols + 63) / 64

-- the bit j of the words, counted through them all
abbrev pub bit_of : List ℕ → ℕ → ℕ
bit_of words j = bit_at (slice_index words (j / 64)) (j % 64)

-- at each place that the words have
abbrev pub HasRowBits : (ℕ → ℕ) → List ℕ → Type 0
HasRowBits row words = (j : ℕ) → j < 64 * length words → bit_of words j ≡ row j

-- the bit k became 1, and no other changed
pub record IsBitSet (old k new : ℕ) : Type 0 where
  pub set : bit_at new k ≡ 1
  pub others : (i : ℕ) → i ≢ k → bit_at new i ≡ bit_at old i

-- the lowest bits are the numbers, and the others are 0
pub record HasBits (numbers : List ℕ) (word : ℕ) : Type 0 where
  pub same : (j : ℕ) → j < length numbers → bit_at word j ≡ slice_index numbers j
  pub past : (j : ℕ) → length numbers ≤ j → bit_at word j ≡ 0

-- the lowest bits of the word were added to the numbers, modulo 2
pub record AreBitsAdded (word : ℕ) (old new : List ℕ) : Type 0 where
  pub length_is : length new ≡ length old
  pub added : (j : ℕ) → j < length old → slice_index new j ≡ (slice_index old j + bit_at word j) % 2

-- the bits of the words were added to the numbers, modulo 2
pub record AreRowBitsAdded (words old new : List ℕ) : Type 0 where
  pub length_is : length new ≡ length old
  pub added : (j : ℕ) → j < length old → slice_index new j ≡ (slice_index old j + bit_of words j) % 2

-- the words of a row are behind the old ones, and past the columns its bits are 0
pub record IsRowAppended (row : ℕ → ℕ) (cols : ℕ) (old new : List ℕ) : Type 0 where
  pub words : List ℕ
  pub joined : new ≡ old ++ words
  pub width : length words ≡ width_of cols
  pub bits : HasRowBits row words
  pub past : (j : ℕ) → cols ≤ j → row j ≡ 0

-- words were added to others, modulo 2 at each bit
pub record AreWordsAdded (from old new : List ℕ) : Type 0 where
  pub length_is : length new ≡ length old
  pub added : (k j : ℕ) → k < length old →
      bit_at (slice_index new k) j ≡ (bit_at (slice_index old k) j + bit_at (slice_index from k) j) % 2

-- the run `from` was added to the run `into`, modulo 2 at each bit
pub record IsWordRunAdded (into from len : ℕ) (old new : List ℕ) : Type 0 where
  pub length_is : length new ≡ length old
  pub added : (k j : ℕ) → k < len → bit_at (slice_index new (into + k)) j ≡
      (bit_at (slice_index old (into + k)) j + bit_at (slice_index old (from + k)) j) % 2
  pub others : (k : ℕ) → IsOutside into len k → slice_index new k ≡ slice_index old k
