-- Bits of words, and loops over words and numbers, up to a place.
use Rattle.std.proofs.Common.{◌≡◌, ◌≢◌, ℕ, ◌+◌, ◌*◌, ◌/◌, ◌%◌, ◌<◌, ◌≤◌, ◌^◌, List, length, get_or, set, take, eqb, eq-eqb, ne_eqb, length-set, get_or-set_same, get_or-set_other, bit_or, bit_xor, w64, sym, ap, ◌∙◌, inl, inr, arith}
use Rattle.std.specs.Int.{bit_at}
use Rattle.std.proofs.lemmas.Bool.{cases_eq, cond-true, cond-false}
use Rattle.std.proofs.lemmas.Nat.Bits.{bit_at_set_same, bit_at_set_other, bit_at_xor}
use Rattle.bmp_linear.specs.declared.vector.Entry.{Entry}
use Rattle.bmp_linear.specs.SparseVectors.{IsRising, number_at}
use Rattle.bmp_linear.proofs.SparseLemmas.{number_at_more}
use Rattle.bmp_packed.specs.Words.{IsBitSet, AreWordsAdded, bit_of}

pub bit_set : (word k : ℕ) → k < 64 → IsBitSet word k (bit_or word (1 * 2 ^ k % 18446744073709551616))
bit_set word k within =
    record { set = bit_at_set_same w64 word k within; others = bit_at_set_other w64 word k within }

-- the numbers below n are the lowest bits, and the others are 0
pub record HasBitsBelow (numbers : List ℕ) (n word : ℕ) : Type 0 where
  pub same : (j : ℕ) → j < n → bit_at word j ≡ get_or numbers j 0
  pub past : (j : ℕ) → n ≤ j → bit_at word j ≡ 0

-- below n the new numbers are those of a function `sum`, and the rest is as before
pub record IsMadeBelow (sum : ℕ → ℕ) (n : ℕ) (old new : List ℕ) : Type 0 where
  pub length_is : length new ≡ length old
  pub made : (j : ℕ) → j < n → get_or new j 0 ≡ sum j
  pub rest : (j : ℕ) → n ≤ j → get_or new j 0 ≡ get_or old j 0

-- the word k of a sum
abbrev pub xored : List ℕ → List ℕ → ℕ → ℕ
xored old from k = bit_xor (get_or old k 0) (get_or from k 0)

pub words_added : (from old new : List ℕ) (n : ℕ) → length old ≤ n → IsMadeBelow (xored old from) n old new →
    AreWordsAdded from old new
words_added from old new n past h = record {
  length_is = h.length_is;
  added = λ k j l. ap (λ w. bit_at w j) (h.made k (omega arith)) ∙ bit_at_xor (get_or old k 0) (get_or from k 0) j;
}

-- the number j of a sum with bits
abbrev pub with_bits : List ℕ → ℕ → ℕ → ℕ
with_bits old word j = (get_or old j 0 + bit_at word j) % 2

-- the bits of the first n words are added to the numbers, and the other numbers are as before
pub record AreRowBitsAddedBelow (words : List ℕ) (n : ℕ) (old new : List ℕ) : Type 0 where
  pub length_is : length new ≡ length old
  pub added : (j : ℕ) → j < 64 * n → j < length old → get_or new j 0 ≡ (get_or old j 0 + bit_of words j) % 2
  pub rest : (j : ℕ) → 64 * n ≤ j → get_or new j 0 ≡ get_or old j 0

-- the bits of the first n words are the numbers
pub record HasRowBitsBelow (row : ℕ → ℕ) (n : ℕ) (old new : List ℕ) : Type 0 where
  pub length_is : length new ≡ length old
  pub same : (j : ℕ) → j < 64 * n → bit_of new j ≡ row j

-- one entry more, whose value is 1
module _ (v : List Entry) (i : ℕ) (d : Entry) (old new : List ℕ) (word : ℕ) (rising : IsRising v) (l : i < length v)
    (inside : (get_or v i d).place < 64 * length old) (below : (get_or v i d).value < 2)
    (some : (get_or v i d).value ≢ 0)
    (so_far : HasRowBitsBelow (number_at (take i v)) (length old) old new)
    (made : IsBitSet (get_or new ((get_or v i d).place / 64) 0) ((get_or v i d).place % 64) word)
  where
    abbrev place : ℕ
    place = (get_or v i d).place

    within : place / 64 < length new
    within = let sized : length new ≡ length old = so_far.length_is in omega (arith, inside)

    at_place : (j : ℕ) → place ≡ j → bit_of (set new (place / 64) word) j ≡ number_at (take (i + 1) v) j
    at_place j same =
        let one : 1 ≡ (get_or v i d).value = omega (arith, below, some) in
        ap (bit_of (set new (place / 64) word)) (sym same)
        ∙ ap (λ w. bit_at w (place % 64)) (get_or-set_same new (place / 64) word 0 within)
        ∙ made.set ∙ one
        ∙ sym (number_at_more v i j d rising l ∙ cond-true (eqb place j) (get_or v i d).value (number_at (take i v) j)
        (eq-eqb place j same))

    as_before : (j : ℕ) → bit_of (set new (place / 64) word) j ≡ bit_of new j → j < 64 * length old → place ≢ j →
        bit_of (set new (place / 64) word) j ≡ number_at (take (i + 1) v) j
    as_before j same k other =
        same ∙ so_far.same j k
        ∙ sym (number_at_more v i j d rising l ∙ cond-false (eqb place j) (get_or v i d).value (number_at (take i v) j)
        (ne_eqb place j other))

    elsewhere : (j : ℕ) → place ≢ j → bit_of (set new (place / 64) word) j ≡ bit_of new j
    elsewhere j other =
        elim (cases_eq (j / 64) (place / 64)) [
          | inl here ↦
              let apart : j % 64 ≢ place % 64 = λ e. other (omega arith) in
              ap (λ k. bit_at (get_or (set new (place / 64) word) k 0) (j % 64)) here
              ∙ ap (λ w. bit_at w (j % 64)) (get_or-set_same new (place / 64) word 0 within)
              ∙ made.others (j % 64) apart
              ∙ ap (λ k. bit_at (get_or new k 0) (j % 64)) (sym here)
          | inr away ↦ ap (λ w. bit_at w (j % 64)) (get_or-set_other new (place / 64) (j / 64) word 0 away)
        ]

    pub entry_written : HasRowBitsBelow (number_at (take (i + 1) v)) (length old) old (set new (place / 64) word)
    entry_written = record {
      length_is = length-set new (place / 64) word ∙ so_far.length_is;
      same = λ j k. elim (cases_eq place j) [
        | inl same ↦ at_place j same
        | inr other ↦ as_before j (elsewhere j other) k other
      ];
    }
