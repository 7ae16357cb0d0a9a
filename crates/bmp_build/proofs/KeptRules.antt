-- A job that keeps all rules has a text.
use Rattle.std.proofs.Common.{◌≡◌, ℕ, ℤ, pos, negsuc, ◌/◌, ◌%◌, ◌<◌, ◌≤◌, Bool, true, false, T, leb, ◌&&◌, length, get_or, refl, sym, ap, subst, ◌∙◌, inl, inr, arith, leb-true}
use Rattle.std.specs.Prelude.{◌≤ℤ◌}
use Rattle.std.proofs.lemmas.Bool.{cases_eq, le-leb, and_from}
use Rattle.std.proofs.lemmas.List.{get_or_default}
use Rattle.std.proofs.lemmas.List.Elements.{All-weaker}
use Rattle.std.proofs.lemmas.Nat.{div-add-mod', div_below, mod_below}
use Rattle.std.proofs.Math.Logic.{∥∥₁_elim}
use mathlib.Core.Bool.{Bool-set}
use native.Mathlib.Nat.{ℕ_set}
use native.Mathlib.Bridge.{le_prop}
use Rattle.bmp_text.specs.Numerals.{InRange}
use Rattle.bmp_field.specs.PrimeLaws.{listed_range}
use Rattle.bmp_roots.specs.RootPairs.{entry}
use Rattle.bmp_roots.specs.RootSystems.{matrix_of, positive_roots_of}
use Rattle.bmp_weyl.specs.Elements.{IsLetter, word_of}
use Rattle.bmp_weyl.proofs.CallLemmas.{root_system}
use Rattle.bmp_weyl.proofs.LengthLemmas.{length_at_most_36}
use Rattle.bmp_cert.specs.declared.job.Job.{Job}
use Rattle.bmp_cert.specs.JobGrammar.{AreEntries, AreLetters, IsWellFormedJob}
use Rattle.bmp_cert.specs.JobGraphs.{matrix_of_job}
use Rattle.bmp_cert.specs.JobRules.{HasMatrix, HasReducedWord, rules, KeepsAll}
use Rattle.bmp_cert.proofs.RuleLemmas.{keeps_prime, keeps_degree}

told : (b : Bool) → T b → b ≡ true
told true t = refl
told false t = absurd t

small_entry : (z : ℤ) → negsuc 31 ≤ℤ z → z ≤ℤ pos 0 → InRange (negsuc 999) (pos 1000) z
small_entry (pos n) low high =
    let small : n ≤ 0 = leb-true n 0 (told _ high.le) in
    (le-leb n 9223372036854775807 (omega (arith, small)), le-leb n 1000 (omega (arith, small)))
small_entry (negsuc n) low high =
    let small : n ≤ 31 = leb-true n 31 (told _ low.le) in
    (within_more n 9223372036854775807 small (omega arith), within_more n 999 small (omega arith))
  where
    within_more : (n most : ℕ) → n ≤ 31 → 31 ≤ most → (leb n most && true) ≡ true
    within_more n most small more = and_from (leb n most) true (le-leb n most (omega (arith, small, more))) refl

module _ (j : Job) (keeps : KeepsAll rules j) where
  matrix : HasMatrix j
  matrix = keeps.0

  entry_small : (a b : ℕ) → a < j.rank → b < j.rank →
      InRange (negsuc 999) (pos 1000) (entry (matrix_of_job j) a b)
  entry_small a b row column = elim (cases_eq a b) [
    | inl same ↦
        subst (InRange (negsuc 999) (pos 1000))
        (sym (ap (λ c. entry (matrix_of_job j) a c) (sym same) ∙ matrix.1.diagonal a row)) (refl, refl)
    | inr other ↦
        let h = matrix.1.others a b row column other in small_entry (entry (matrix_of_job j) a b) h.0 h.1
  ]

  entries : AreEntries j.rank j.cartan
  entries = (
    matrix.0.2,
    λ k d within.
        let rank = j.rank in
        let some : 0 < j.rank = omega (arith, matrix.0.0) in
        let row : k / j.rank < j.rank = div_below k rank rank some (omega (arith, within, matrix.0.2)) in
        let column : k % j.rank < j.rank = mod_below k rank some in
        subst (InRange (negsuc 999) (pos 1000))
        (ap (λ i. get_or j.cartan i (pos 0)) (div-add-mod' k rank) ∙ get_or_default j.cartan k (pos 0) d within)
        (entry_small (k / rank) (k % rank) row column),
  )

  short_word : length j.word ≤ 36
  short_word =
      let reduced : HasReducedWord j = keeps.1.1.1.1.0 in
      let roots = reduced.roots in
      subst (λ n. n ≤ 36) (sym reduced.length_is)
      (length_at_most_36 (matrix_of roots) (positive_roots_of roots) (root_system roots) (word_of j.word))

  letters : AreLetters j.word
  letters = (
    omega (arith, short_word),
    All-weaker (IsLetter j.rank) (λ n. n ≤ 255) (λ n h. omega (arith, h.1, matrix.0.1)) j.word keeps.1.1.1.0,
  )

  pub kept_is_formed : IsWellFormedJob j
  kept_is_formed =
      let prime = (listed_range j.prime (keeps_prime j keeps)).1 in
      let degree = keeps_degree j keeps in
      record {
        rank = omega (arith, matrix.0.1);
        cartan = entries;
        prime = omega (arith, prime);
        word = letters;
        degree = omega (arith, degree);
      }

job_prop : (j : Job) → IsProp (IsWellFormedJob j)
job_prop j = hlevel (le_prop, ℕ_set, Bool-set)

pub job_is_formed : (j : Job) → ∥ KeepsAll rules j ∥₁ → IsWellFormedJob j
job_is_formed j keeps = ∥∥₁_elim keeps (job_prop j) (kept_is_formed j)
