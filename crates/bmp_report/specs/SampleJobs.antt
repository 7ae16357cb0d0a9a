-- The jobs of `sample`, by number: six words, each cut to a front part that the number tells.
--   Sample              an entry of the table: a Cartan matrix row by row, a prime, a degree bound and a word
--   sample_at i         entry i of the table: D4, A3, B2, A4, G2 and B3, i from 0 to 5
--   letters_of n        how many letters the job of the number n has
--   sample_job n        its job
--   SampleJobsAreFormed each of them has a text
use Rattle.std.specs.Prelude.{ℕ, ℤ, pos, negsuc, ◌+◌, ◌-◌, ◌/◌, ◌%◌, ◌==◌, if◌then◌else◌, List, [], ◌∷◌, length, take}
use Rattle.bmp_cert.specs.declared.job.Job.{Job}
use Rattle.bmp_cert.specs.declared.lattice.Lattice.TheVariants.{Plain}
use Rattle.bmp_cert.specs.JobGrammar.{IsWellFormedJob}

pub record Sample : Type 0 where
  pub rank : ℕ
  pub rows : List ℤ
  pub prime : ℕ
  pub degree : ℕ
  pub word : List ℕ

abbrev pub two : ℤ
two = pos 2

abbrev pub none : ℤ
none = pos 0

abbrev pub less_1 : ℤ
less_1 = negsuc 0

abbrev pub less_2 : ℤ
less_2 = negsuc 1

abbrev pub less_3 : ℤ
less_3 = negsuc 2

abbrev pub sample_d4 : Sample
sample_d4 = record {
  rank = 4;
  rows = two ∷ less_1 ∷ none ∷ none ∷ less_1 ∷ two ∷ less_1 ∷ less_1 ∷ none ∷ less_1 ∷ two ∷ none ∷ none ∷ less_1 ∷ none
      ∷ two ∷ [];
  prime = 3;
  degree = 3;
  word = 1 ∷ 3 ∷ 4 ∷ 2 ∷ 1 ∷ 3 ∷ 4 ∷ 2 ∷ 1 ∷ 3 ∷ 4 ∷ 2 ∷ [];
}

abbrev pub sample_a3 : Sample
sample_a3 = record {
  rank = 3;
  rows = two ∷ less_1 ∷ none ∷ less_1 ∷ two ∷ less_1 ∷ none ∷ less_1 ∷ two ∷ [];
  prime = 3;
  degree = 2;
  word = 1 ∷ 2 ∷ 1 ∷ 3 ∷ 2 ∷ 1 ∷ [];
}

abbrev pub sample_b2 : Sample
sample_b2 = record {
  rank = 2;
  rows = two ∷ less_1 ∷ less_2 ∷ two ∷ [];
  prime = 3;
  degree = 3;
  word = 1 ∷ 2 ∷ 1 ∷ 2 ∷ [];
}

abbrev pub sample_a4 : Sample
sample_a4 = record {
  rank = 4;
  rows = two ∷ less_1 ∷ none ∷ none ∷ less_1 ∷ two ∷ less_1 ∷ none ∷ none ∷ less_1 ∷ two ∷ less_1 ∷ none ∷ none ∷ less_1
      ∷ two ∷ [];
  prime = 2;
  degree = 1;
  word = 1 ∷ 2 ∷ 1 ∷ 3 ∷ 2 ∷ 1 ∷ 4 ∷ 3 ∷ 2 ∷ 1 ∷ [];
}

abbrev pub sample_g2 : Sample
sample_g2 = record {
  rank = 2;
  rows = two ∷ less_1 ∷ less_3 ∷ two ∷ [];
  prime = 5;
  degree = 3;
  word = 1 ∷ 2 ∷ 1 ∷ 2 ∷ 1 ∷ 2 ∷ [];
}

abbrev pub sample_b3 : Sample
sample_b3 = record {
  rank = 3;
  rows = two ∷ less_1 ∷ none ∷ less_1 ∷ two ∷ less_1 ∷ none ∷ less_2 ∷ two ∷ [];
  prime = 3;
  degree = 2;
  word = 1 ∷ 3 ∷ 2 ∷ 1 ∷ 3 ∷ 2 ∷ 1 ∷ 3 ∷ 2 ∷ [];
}

unfoldable pub sample_at : ℕ → Sample
sample_at i =
    if i == 0 then sample_d4
    else (if i == 1 then sample_a3
    else (if i == 2 then sample_b2
    else (if i == 3 then sample_a4
    else (if i == 4 then sample_g2 else sample_b3))))

-- the number modulo 6 chooses the entry, and its sixth part says how many letters go
abbrev pub letters_of : ℕ → ℕ
letters_of n = length (sample_at (n % 6)).word - (n / 6) % (length (sample_at (n % 6)).word + 1)

abbrev pub sample_job : ℕ → Job
sample_job n = record {
  rank = (sample_at (n % 6)).rank;
  cartan = (sample_at (n % 6)).rows;
  prime = (sample_at (n % 6)).prime;
  word = take (letters_of n) (sample_at (n % 6)).word;
  degree = (sample_at (n % 6)).degree;
  lattice = Plain;
}

abbrev pub SampleJobsAreFormed : Type 0
SampleJobsAreFormed = (n : ℕ) → IsWellFormedJob (sample_job n)
