-- The jobs of `sample` are well formed.
use Rattle.std.proofs.Common.{◌≡◌, ℕ, ℤ, Bool, true, false, refl, negsuc, pos, ◌≤◌, ◌*◌, ◌==◌, ◌%◌, List, [], ◌∷◌, length, take, All, arith}
use Rattle.std.specs.Prelude.{◌&&◌, if◌then◌else◌, nat_le}
use Rattle.std.specs.List.{list_all}
use Rattle.std.proofs.lemmas.Bool.Decides.{nat_tests}
use Rattle.std.proofs.lemmas.List.{length-take}
use Rattle.std.proofs.lemmas.List.Elements.{All-nil, All-cons, All-take}
use Rattle.bmp_text.specs.Numerals.{within, fits_i64, InRange}
use Rattle.bmp_cert.specs.JobGrammar.{AreEntries}
use Rattle.bmp_report.specs.SampleJobs.{Sample, sample_at, sample_d4, sample_a3, sample_b2, sample_a4, sample_g2, sample_b3, letters_of, SampleJobsAreFormed}

both : (a b : Bool) → (a && b) ≡ true → (a ≡ true) × (b ≡ true)
both true b e = (refl, e)
both false b e = cc

-- ---- lists by a test

entry_fits : ℤ → Bool
entry_fits z = fits_i64 z && within (negsuc 999) (pos 1000) z

entries_fit : (zs : List ℤ) → list_all entry_fits zs ≡ true → All (InRange (negsuc 999) (pos 1000)) zs
unfolding entry_fits
entries_fit [] e = All-nil (InRange (negsuc 999) (pos 1000))
entries_fit (z ∷ zs) e =
    let here = both (entry_fits z) (list_all entry_fits zs) e in
    All-cons (InRange (negsuc 999) (pos 1000)) z zs (both (fits_i64 z) (within (negsuc 999) (pos 1000) z) here.0)
    (entries_fit zs here.1)

letters_fit : (ls : List ℕ) → list_all (λ n. nat_le n 255) ls ≡ true → All (λ n. n ≤ 255) ls
letters_fit [] e = All-nil (λ n. n ≤ 255)
letters_fit (l ∷ ls) e =
    let here = both (nat_le l 255) (list_all (λ n. nat_le n 255) ls) e in
    All-cons (λ n. n ≤ 255) l ls (grind (arith, nat_tests, here.0)) (letters_fit ls here.1)

-- ---- the entries of the table

record IsFormed (s : Sample) : Type 0 where
  pub rank : s.rank ≤ 16
  pub cartan : AreEntries s.rank s.rows
  pub prime : s.prime ≤ 255
  pub few : length s.word ≤ 255
  pub letters : All (λ n. n ≤ 255) s.word
  pub degree : s.degree ≤ 255

chosen : (b : Bool) (s t : Sample) → IsFormed s → IsFormed t → IsFormed (if b then s else t)
chosen true s t p q = p
chosen false s t p q = q

formed : (s : Sample) → s.rank ≤ 16 → length s.rows ≡ s.rank * s.rank → list_all entry_fits s.rows ≡ true →
    s.prime ≤ 255 → length s.word ≤ 255 → list_all (λ n. nat_le n 255) s.word ≡ true → s.degree ≤ 255 → IsFormed s
formed s rank places entries prime few letters degree = record {
  rank = rank;
  cartan = (places, entries_fit s.rows entries);
  prime = prime;
  few = few;
  letters = letters_fit s.word letters;
  degree = degree;
}

each_formed : (i : ℕ) → IsFormed (sample_at i)
unfolding sample_at entry_fits
each_formed i =
    chosen (i == 0) _ _ (formed sample_d4 (omega arith) refl refl (omega arith) (omega arith) refl (omega arith))
    (chosen (i == 1) _ _ (formed sample_a3 (omega arith) refl refl (omega arith) (omega arith) refl (omega arith))
    (chosen (i == 2) _ _ (formed sample_b2 (omega arith) refl refl (omega arith) (omega arith) refl (omega arith))
    (chosen (i == 3) _ _ (formed sample_a4 (omega arith) refl refl (omega arith) (omega arith) refl (omega arith))
    (chosen (i == 4) _ _ (formed sample_g2 (omega arith) refl refl (omega arith) (omega arith) refl (omega arith))
    (formed sample_b3 (omega arith) refl refl (omega arith) (omega arith) refl (omega arith))))))

pub all_formed : SampleJobsAreFormed
all_formed n =
    let of = each_formed (n % 6) in
    let word = (sample_at (n % 6)).word in record {
      rank = of.rank;
      cartan = of.cartan;
      prime = of.prime;
      word = (few (letters_of n) word of.few, All-take (λ k. k ≤ 255) (letters_of n) word of.letters);
      degree = of.degree;
    }
  where
    few : (k : ℕ) (ls : List ℕ) → length ls ≤ 255 → length (take k ls) ≤ 255
    few k ls h = grind (arith, length-take k ls, h)
