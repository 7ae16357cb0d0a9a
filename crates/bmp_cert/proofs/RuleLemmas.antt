-- Lists of rules: which are kept, and the first that fails.
--   behind front n    the place n of a list, seen from the start of a list in front of it
use Rattle.std.proofs.Common.{◌≡◌, ℕ, zero, suc, List, [], ◌∷◌, ◌++◌, refl, ap}
use Rattle.bmp_cert.specs.declared.job.Job.{Job}
use Rattle.bmp_cert.specs.JobRules.{Rule, HasPrime, HasLetters, HasDegree, HasGkmGraph, letter_rules, graph_rules, rules, KeepsAll, FailsAt}

abbrev pub behind : List Rule → ℕ → ℕ
behind [] n = n
behind (rule ∷ others) n = suc (behind others n)

module _ (j : Job) where
  pub keeps_both : (front back : List Rule) → KeepsAll front j → KeepsAll back j → KeepsAll (front ++ back) j
  keeps_both [] back a b = b
  keeps_both (rule ∷ others) back a b = (a.0, keeps_both others back a.1 b)

  pub keeps_front : (front back : List Rule) → KeepsAll (front ++ back) j → KeepsAll front j
  keeps_front [] back k = tt
  keeps_front (rule ∷ others) back k = (k.0, keeps_front others back k.1)

  pub keeps_back : (front back : List Rule) → KeepsAll (front ++ back) j → KeepsAll back j
  keeps_back [] back k = k
  keeps_back (rule ∷ others) back k = keeps_back others back k.1

  -- a rule that fails behind those that are kept
  pub fails_behind : (front back : List Rule) (n : ℕ) → KeepsAll front j → FailsAt back n j →
      FailsAt (front ++ back) (behind front n) j
  fails_behind [] back n kept fails = fails
  fails_behind (rule ∷ others) back n kept fails = (kept.0, fails_behind others back n kept.1 fails)

  -- where a rule fails behind others, those are kept, and it fails where it stands
  pub keeps_before : (front back : List Rule) (n : ℕ) → FailsAt (front ++ back) (behind front n) j → KeepsAll front j
  keeps_before [] back n fails = tt
  keeps_before (rule ∷ others) back n fails = (fails.0, keeps_before others back n fails.1)

  pub fails_there : (front back : List Rule) (n : ℕ) → FailsAt (front ++ back) (behind front n) j → FailsAt back n j
  fails_there [] back n fails = fails
  fails_there (rule ∷ others) back n fails = fails_there others back n fails.1

  -- where a rule of a list fails, the list isn't kept
  pub not_kept : (list : List Rule) (n : ℕ) → FailsAt list n j → KeepsAll list j → ⊥
  not_kept [] n fails kept = fails
  not_kept (rule ∷ others) zero fails kept = fails kept.0
  not_kept (rule ∷ others) (suc n) fails kept = not_kept others n fails.1 kept.1

  -- one rule is the first that fails
  pub one_place : (list : List Rule) (m n : ℕ) → FailsAt list m j → FailsAt list n j → m ≡ n
  one_place [] m n a b = absurd a
  one_place (rule ∷ others) zero zero a b = refl
  one_place (rule ∷ others) zero (suc n) a b = absurd (a b.0)
  one_place (rule ∷ others) (suc m) zero a b = absurd (b a.0)
  one_place (rule ∷ others) (suc m) (suc n) a b = ap suc (one_place others m n a.1 b.1)

  -- ---- rules that a job keeps with others

  pub keeps_letters : KeepsAll letter_rules j → HasLetters j
  keeps_letters kept = kept.1.1.1.0

  pub keeps_prime : KeepsAll rules j → HasPrime j
  keeps_prime kept = kept.1.1.0

  pub keeps_degree : KeepsAll rules j → HasDegree j
  keeps_degree kept = kept.1.1.1.1.1.1.0

  pub keeps_graph_rules : KeepsAll rules j → KeepsAll graph_rules j
  keeps_graph_rules kept = keeps_front graph_rules (HasGkmGraph ∷ []) kept
