-- The root systems of a job measure the same, and its intervals have the same vertices.
use Rattle.std.proofs.Common.{◌≡◌, ◌≢◌, ◌<◌, ◌≤◌, ◌*◌, ◌-◌, ℕ, List, [], ◌∷◌, length, sym, ap, ◌∙◌, subst, arith}
use Rattle.std.proofs.lemmas.List.{length-map}
use Rattle.bmp_math.proofs.ListLemmas.{length_within}
use Rattle.bmp_roots.specs.RootPairs.{CartanMatrix}
use Rattle.bmp_roots.specs.PositiveRoots.{ArePositiveRoots}
use Rattle.bmp_roots.specs.RootSystems.{matrix_of, positive_roots_of}
use Rattle.bmp_roots.specs.declared.root_system.Roots.{Roots}
use Rattle.bmp_roots.proofs.RootsLemmas.{has_positive_roots}
use Rattle.bmp_weyl.specs.Words.{IsWord, IsReduced, length_of}
use Rattle.bmp_weyl.specs.Elements.{word_of}
use Rattle.bmp_weyl.specs.declared.elem.Elem.{Elem}
use Rattle.bmp_interval.specs.Vertices.{HasVertices, HasMoreVertices}
use Rattle.bmp_interval.specs.Limits.{max_vertices}
use Rattle.bmp_interval.specs.Intervals.{IsIntervalOf, IsFault}
use Rattle.bmp_cert.specs.Limits.{max_size}
use Rattle.bmp_interval.specs.declared.fault.IntervalFault.TheVariants.{NotReduced, TooMany as Many}
use Rattle.bmp_interval.proofs.FactLemmas.{letters_word}
use Rattle.bmp_interval.proofs.IntervalLemmas.{vertex_member}
use Rattle.bmp_interval.proofs.OneInterval.{one_interval_of}
use Rattle.bmp_weyl.proofs.OneLength.{one_length as one_word_length}
use Rattle.bmp_poly.specs.Exponents.{count}
use Rattle.bmp_cert.specs.declared.job.Job.{Job}
use Rattle.bmp_cert.specs.JobGraphs.{matrix_of_job, IsSystemOf, IsJobInterval}
use Rattle.bmp_cert.specs.JobRules.{HasLetters, HasLength, HasReducedWord, HasInterval, HasSize, IsSmall, letter_rules, KeepsAll, IsFirstFault}
use Rattle.bmp_cert.proofs.RuleLemmas.{keeps_letters, fails_behind}
use Rattle.bmp_cert.specs.declared.job_fault.JobFault.TheVariants.{Reduced, TooMany}

-- ---- root systems

positive_roots : (j : Job) (roots : Roots) → IsSystemOf j roots →
    ArePositiveRoots (matrix_of_job j) (positive_roots_of roots)
positive_roots j roots s =
    subst (λ (m : CartanMatrix). ArePositiveRoots m (positive_roots_of roots)) s.matrix (has_positive_roots roots)

-- the root systems of a job measure the same length of a word
pub one_length : (j : Job) (a b : Roots) → IsSystemOf j a → IsSystemOf j b → (u : List ℕ) →
    length_of (matrix_of a) (positive_roots_of a) u ≡ length_of (matrix_of b) (positive_roots_of b) u
one_length j a b of_a of_b u =
    ap (λ (m : CartanMatrix). length_of m (positive_roots_of a) u) of_a.matrix
    ∙ (one_word_length (matrix_of_job j) (positive_roots_of a) (positive_roots_of b) (positive_roots j a of_a)
    (positive_roots j b of_b) u
    ∙ sym (ap (λ (m : CartanMatrix). length_of m (positive_roots_of b) u) of_b.matrix))

pub reduced_word : (j : Job) (roots : Roots) (word : List ℕ) → word ≡ j.word → IsSystemOf j roots
    → IsReduced (matrix_of roots) (positive_roots_of roots) (word_of word) → HasReducedWord j
reduced_word j roots word is system reduced = record {
  roots = roots;
  system = system;
  length_is = sym (ap (λ (w : List ℕ). length_of (matrix_of roots) (positive_roots_of roots) (word_of w)) (sym is)
      ∙ (reduced ∙ (length-map word (λ letter. letter - 1) ∙ ap (λ (w : List ℕ). length w) is)));
}

pub not_reduced : (j : Job) (n : ℕ) → HasLength j n → n ≢ length j.word → HasReducedWord j → ⊥
not_reduced j n short differ long =
    differ (short.length_is
    ∙ (one_length j short.roots long.roots short.system long.system (word_of j.word) ∙ sym long.length_is))

-- ---- intervals

has_vertices : (j : Job) (vertices : List Elem) → IsJobInterval j vertices →
    HasVertices (matrix_of_job j) (word_of j.word) vertices
has_vertices j vertices i =
    subst (λ (m : CartanMatrix). HasVertices m (word_of j.word) vertices) i.system.matrix i.interval.interval.vertices

is_word : (j : Job) → HasLetters j → IsWord (matrix_of_job j) (word_of j.word)
is_word j letters = letters_word j.rank j.word letters

pub interval_of_word : (j : Job) (roots : Roots) (word : List ℕ) (vertices : List Elem) → word ≡ j.word →
    IsSystemOf j roots → IsIntervalOf roots word vertices → HasInterval j
interval_of_word j roots word vertices is system interval = (
  vertices,
  record {
    roots = roots;
    system = system;
    interval = subst (λ (w : List ℕ). IsIntervalOf roots w vertices) is interval;
  },
)

pub one_interval : (j : Job) (a b : List Elem) → IsJobInterval j a → IsJobInterval j b → a ≡ b
one_interval j a b of_a of_b =
    one_interval_of of_a.roots of_b.roots (of_a.system.matrix ∙ sym of_b.system.matrix) j.word a b of_a.interval
    of_b.interval

pub no_interval : (j : Job) → HasLetters j → HasMoreVertices (matrix_of_job j) (word_of j.word) max_vertices →
    HasInterval j → ⊥
no_interval j letters more (vertices, i) =
    let up : length more.some ≤ length vertices =
    length_within more.some vertices more.once
    (λ e h. vertex_member (matrix_of_job j) (word_of j.word) (is_word j letters) vertices (has_vertices j vertices i) e
    (more.each e h)) in
    omega (arith, up, more.more, i.interval.interval.few)

one_size : (j : Job) (a b : ℕ) → HasSize j a → HasSize j b → a ≡ b
one_size j a b of_a of_b =
    of_a.size ∙ (ap (λ (vertices : List Elem). length vertices * count j.rank j.degree)
    (one_interval j of_a.vertices of_b.vertices of_a.interval of_b.interval) ∙ sym of_b.size)

pub not_small : (j : Job) (n : ℕ) → HasSize j n → max_size < n → IsSmall j → ⊥
not_small j n size large (other, other_size, small) =
    let same : n ≡ other = one_size j n other size other_size in
    omega (arith, same, large, small)

-- the number of vertices times that of the monomials
pub size_is : (j : Job) (roots : Roots) (vertices : List Elem) (n degree monomials : ℕ) → IsSystemOf j roots →
    IsIntervalOf roots j.word vertices
    → n ≡ length vertices → degree ≡ j.degree → monomials ≡ count j.rank degree → HasSize j (n * monomials)
size_is j roots vertices n degree monomials system interval number same counted = record {
  vertices = vertices;
  interval = record { roots = roots; system = system; interval = interval };
  size = ap (λ (v : ℕ). v * monomials) number
      ∙ ap (λ (k : ℕ). length vertices * k) (counted ∙ ap (λ (d : ℕ). count j.rank d) same);
}

-- ---- the faults of a word

-- a word that is longer than its product
pub reduced_fault : (j : Job) (roots : Roots) (word : List ℕ) (n : ℕ) → word ≡ j.word → KeepsAll letter_rules j →
    IsSystemOf j roots
    → IsFault (matrix_of roots) (positive_roots_of roots) (word_of word) (NotReduced n) → IsFirstFault j (Reduced n)
reduced_fault j roots word n is before system fault =
    let measured : HasLength j n = record {
      roots = roots;
      system = system;
      length_is = fault.0 ∙ ap (λ (w : List ℕ). length_of (matrix_of roots) (positive_roots_of roots) (word_of w)) is;
    } in
    record {
      fails = fails_behind j letter_rules (HasReducedWord ∷ []) 0 before
          (not_reduced j n measured
          (λ e. fault.1 (e ∙ (sym (ap (λ (w : List ℕ). length w) is)
          ∙ sym (length-map word (λ letter. letter - 1))))));
      values = measured;
    }

-- too many vertices
pub vertices_fault : (j : Job) (roots : Roots) (word : List ℕ) (n : ℕ) → word ≡ j.word → KeepsAll letter_rules j →
    IsSystemOf j roots
    → IsFault (matrix_of roots) (positive_roots_of roots) (word_of word) (Many n) → IsFirstFault j (TooMany n)
vertices_fault j roots word n is before system fault =
    let more : HasMoreVertices (matrix_of_job j) (word_of j.word) max_vertices =
    subst (λ (m : CartanMatrix). HasMoreVertices m (word_of j.word) max_vertices) system.matrix
    (subst (λ (w : List ℕ). HasMoreVertices (matrix_of roots) (word_of w) max_vertices) is fault.2) in
    record {
      fails = fails_behind j letter_rules (HasReducedWord ∷ HasInterval ∷ []) 1 before
          (reduced_word j roots word is system fault.0, no_interval j (keeps_letters j before) more);
      values = fault.1;
    }
