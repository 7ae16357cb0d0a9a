-- What any `Interval` holds.
use Rattle.std.proofs.Common.{◌≡◌, ℕ, ◌-◌, ◌<◌, ◌≤◌, arith, sym, subst, inl, inr, ◌∙◌, Some, slice_get, List, [], length, get_or, map}
use Rattle.std.specs.List.{All}
use Rattle.std.proofs.lemmas.Bool.{cases_eq}
use Rattle.std.proofs.lemmas.Grind.{not_there}
use Rattle.std.proofs.lemmas.List.{get_or-map, length-map}
use Rattle.std.proofs.lemmas.Option.{slice_get_within, get_or_from_slice_get}
use Rattle.std.proofs.lemmas.List.Elements.{All-nil}
use Rattle.bmp_roots.specs.RootPairs.{CartanMatrix, Vector}
use Rattle.bmp_roots.specs.RootSystems.{matrix_of, positive_roots_of}
use Rattle.bmp_roots.specs.declared.root_system.Roots.{Roots}
use Rattle.bmp_roots.proofs.DecisionLemmas.{Decided, stable, below_decided}
use Rattle.bmp_roots.proofs.RootsLemmas.{has_finite_system, has_positive_roots}
use Rattle.bmp_weyl.specs.Words.{IsWord, IsRootSystem, IsReduced, length_of}
use Rattle.bmp_weyl.specs.Elements.{IsLetter, word_of, element_length}
use Rattle.bmp_weyl.specs.declared.elem.Elem.{Elem}
use Rattle.bmp_interval.specs.Vertices.{HasVertices, number_of}
use Rattle.bmp_interval.specs.Limits.{max_vertices}
use Rattle.bmp_interval.specs.Intervals.{IsInterval, IsIntervalOf}
use Rattle.bmp_interval.specs.Numbering.{IsSortedList}
use Rattle.bmp_interval.specs.declared.interval.Interval.{Interval}
use Rattle.bmp_interval.proofs.CountLemmas.{once_apart}
use Rattle.bmp_interval.proofs.OrderLemmas.{sorted_number, sorted_rises}
use Rattle.bmp_interval.proofs.IntervalLemmas.{bottom_is, top_is, product_decided, stable_vertices, not_empty}

pub is_root_system : (roots : Roots) → IsRootSystem (matrix_of roots) (positive_roots_of roots)
is_root_system roots =
    record { form = roots.form; finite = has_finite_system roots; positive = has_positive_roots roots }

-- letters from 1 to the rank make a word
pub letters_word : (rank : ℕ) (word : List ℕ) → All (IsLetter rank) word → All (λ k. k < rank) (word_of word)
letters_word rank word letters i d l =
    let inside : i < length word = omega (arith, l, length-map word (λ (k : ℕ). k - 1)) in
    let letter : (1 ≤ get_or word i 0) × (get_or word i 0 ≤ rank) = letters i 0 inside in
    let at : get_or (word_of word) i d ≡ get_or word i 0 - 1 = get_or-map (λ k. k - 1) word i 0 d inside in
    omega (arith, at, letter.0, letter.1)

at_most_decided : (a b : ℕ) → Decided (a ≤ b)
at_most_decided a b =
    elim (below_decided b a) [ inl l ↦ inr (λ h. absurd (omega arith)) | inr never ↦ inl (at_least never) ]
  where
    at_least : (b < a → ⊥) → a ≤ b
    at_least never = omega (arith, never)

-- what is sorted makes an interval
pub interval_made : (roots : Roots) (word : List ℕ) (found list : List Elem) (lengths : List ℕ) →
    All (IsLetter (matrix_of roots).rank) word
    → IsReduced (matrix_of roots) (positive_roots_of roots) (word_of word) →
    HasVertices (matrix_of roots) (word_of word) found → length found ≤ max_vertices
    → IsSortedList (positive_roots_of roots) found list lengths →
    IsInterval (matrix_of roots) (positive_roots_of roots) (word_of word) list
interval_made roots word found list lengths letters reduced vertices few sorted =
    let is_word : IsWord (matrix_of roots) (word_of word) = letters_word (matrix_of roots).rank word letters in
    let all : HasVertices (matrix_of roots) (word_of word) list = record {
      once = sorted.once;
      each = λ e h. vertices.each e (sorted.inside e h);
      all = λ choices long. let r = vertices.all choices long in (r.0, sorted.all r.0 r.1, r.2);
    } in
    let rises : (x y : ℕ) (d : Elem) → x ≤ y → y < length list →
    element_length (positive_roots_of roots) (get_or list x d) ≤ element_length (positive_roots_of roots)
    (get_or list y d) =
    sorted_rises (positive_roots_of roots) list sorted.sorted in
    record {
      reduced = reduced;
      few = omega (arith, sorted.as_long, few);
      vertices = all;
      numbered = sorted_number (positive_roots_of roots) list (matrix_of roots).rank sorted.once
          (λ e h. (all.each e h).product.rank) sorted.sorted;
      rising = rises;
      bottom = bottom_is (matrix_of roots) (positive_roots_of roots) (is_root_system roots) (word_of word) is_word list
          all rises;
      top = top_is (matrix_of roots) (positive_roots_of roots) (is_root_system roots) (word_of word) is_word list all
          rises reduced;
    }

module _ (interval : Interval) where
  pub word_is : IsWord (matrix_of interval.roots) (word_of interval.word)
  word_is = letters_word (matrix_of interval.roots).rank interval.word interval.letters

  pub interval_is : IsInterval (matrix_of interval.roots) (positive_roots_of interval.roots) (word_of interval.word)
      interval.elements.keys
  interval_is =
      let m : CartanMatrix = matrix_of interval.roots in
      let roots : List Vector = positive_roots_of interval.roots in
      let word : List ℕ = word_of interval.word in
      let list : List Elem = interval.elements.keys in
      let holds : (IsInterval m roots word list → ⊥) → ⊥ = not_there interval.interval in
      record {
        reduced = stable (cases_eq (length_of m roots word) (length word)) (λ never. holds (λ h. never h.reduced));
        few = stable (at_most_decided (length list) max_vertices) (λ never. holds (λ h. never h.few));
        vertices = stable_vertices m word word_is list (λ never. holds (λ h. never h.vertices));
        numbered = λ x d l. stable (cases_eq (number_of roots list (get_or list x d)) x)
            (λ never. holds (λ h. never (h.numbered x d l)));
        rising = λ x y d k l.
            stable (at_most_decided (element_length roots (get_or list x d)) (element_length roots (get_or list y d)))
            (λ never. holds (λ h. never (h.rising x y d k l)));
        bottom = λ d.
            stable (product_decided m word word_is [] (All-nil (λ k. k < m.rank)) (get_or list 0 d))
            (λ never. holds (λ h. never (h.bottom d)));
        top = λ d. stable (product_decided m word word_is word word_is (get_or list (length list - 1) d))
            (λ never. holds (λ h. never (h.top d)));
      }

  pub interval_of_is : IsIntervalOf interval.roots interval.word interval.elements.keys
  interval_of_is = record { letters = interval.letters; interval = interval_is }

  -- a vertex stands at one place
  pub one_vertex_place : (i j : ℕ) (e : Elem) → slice_get interval.elements.keys i ≡ Some e →
      ((d : Elem) → get_or interval.elements.keys j d ≡ e)
      → j < length interval.elements.keys → j ≡ i
  one_vertex_place i j e at there within =
      once_apart interval.elements.keys interval_is.vertices.once j i e within
      (slice_get_within interval.elements.keys i e at)
      (there e ∙ sym (get_or_from_slice_get interval.elements.keys i e e at))

-- ---- the same values once more
pub interval_moved : (roots copy : Roots) (word letters : List ℕ) (list keys : List Elem) → copy ≡ roots →
    letters ≡ word → keys ≡ list
    → IsInterval (matrix_of roots) (positive_roots_of roots) (word_of word) list →
    IsInterval (matrix_of copy) (positive_roots_of copy) (word_of letters) keys
interval_moved roots copy word letters list keys same_roots same_word same_list h =
    subst (λ (es : List Elem). IsInterval (matrix_of copy) (positive_roots_of copy) (word_of letters) es)
    (sym same_list)
    (subst (λ (w : List ℕ). IsInterval (matrix_of copy) (positive_roots_of copy) (word_of w) list) (sym same_word)
    (subst (λ (r : Roots). IsInterval (matrix_of r) (positive_roots_of r) (word_of word) list) (sym same_roots) h))

pub letters_moved : (roots copy : Roots) (word letters : List ℕ) → copy ≡ roots → letters ≡ word →
    All (IsLetter (matrix_of roots).rank) word → All (IsLetter (matrix_of copy).rank) letters
letters_moved roots copy word letters same_roots same_word h =
    subst (λ (w : List ℕ). All (IsLetter (matrix_of copy).rank) w) (sym same_word)
    (subst (λ (r : Roots). All (IsLetter (matrix_of r).rank) word) (sym same_roots) h)

pub lengths_moved : (roots copy : Roots) (list keys : List Elem) (lengths : List ℕ) → copy ≡ roots → keys ≡ list →
    lengths ≡ map (element_length (positive_roots_of roots)) list
    → lengths ≡ map (element_length (positive_roots_of copy)) keys
lengths_moved roots copy list keys lengths same_roots same_list h =
    subst (λ (es : List Elem). lengths ≡ map (element_length (positive_roots_of copy)) es) (sym same_list)
    (subst (λ (r : Roots). lengths ≡ map (element_length (positive_roots_of r)) list) (sym same_roots) h)

pub has_a_vertex : (interval : Interval) → 1 ≤ length interval.elements.keys
has_a_vertex interval =
    not_empty (matrix_of interval.roots) (word_of interval.word) interval.elements.keys (interval_is interval).vertices
