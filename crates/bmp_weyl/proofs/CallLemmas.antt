-- What the calls on elements rest on: the root system of a `Roots`, and the steps of their loops.
use Rattle.std.proofs.Common.{◌≡◌, ◌↔◌, ℕ, ◌+◌, ◌-◌, ◌<◌, ◌≤◌, arith, refl, sym, ap, ◌∙◌, subst, inl, inr, List, [], ◌∷◌, ◌++◌, append_assoc, length, take, reverse, set, get_or, get_or-set_same, get_or-set_other, Bool, true, false, IsTrue, count_by, cond, ℤ, pos}
use Rattle.std.proofs.Math.Path.{fun_ext}
use Rattle.std.proofs.lemmas.Bool.{cases_eq}
use Rattle.std.proofs.lemmas.List.{append-nil, map-append, reverse-append, length-map, take_more, take_all, get_or-map, map_more, map_push}
use Rattle.std.proofs.lemmas.List.Sums.{sum_by-append, sum_by-cons}
use Rattle.std.proofs.lemmas.List.Elements.{All-nil, All-map, All-push, All-weaker}
use Rattle.std.specs.List.{All}
use Rattle.bmp_math.specs.IntegerSums.{integer_unit}
use Rattle.bmp_math.proofs.IntegerSumLemmas.{unit_at, unit_off}
use Rattle.bmp_roots.specs.RootPairs.{CartanMatrix, Vector}
use Rattle.bmp_roots.specs.Pairs.{coordinates}
use Rattle.bmp_roots.specs.PositiveRoots.{has_negative}
use Rattle.bmp_roots.specs.RootSystems.{matrix_of, positives, positive_roots_of}
use Rattle.bmp_roots.specs.declared.root_pair.Pair.{Pair}
use Rattle.bmp_roots.specs.declared.root_system.Roots.{Roots}
use Rattle.bmp_roots.proofs.RootsLemmas.{has_finite_system, has_positive_roots}
use Rattle.bmp_weyl.specs.Words.{IsWord, acts, IsRootSystem, IsReduced, IsLeastDescent, IsDescentWord}
use Rattle.bmp_weyl.specs.Matrices.{image}
use Rattle.bmp_weyl.specs.Elements.{IsProduct, IsElement, element_length, word_of, IsLetter}
use Rattle.bmp_weyl.specs.declared.elem.Elem.{Elem}
use Rattle.bmp_weyl.proofs.ActionLemmas.{All-reverse, word-reverse}
use Rattle.bmp_weyl.proofs.DescentLemmas.{HasTakenOff, nothing_taken, one_taken, all_taken}
use Rattle.bmp_weyl.proofs.ElementLemmas.{same_words, product_alike, element_length-product}
use Rattle.bmp_weyl.proofs.ReflectingLemmas.{zeros_read}

pub root_system : (roots : Roots) → IsRootSystem (matrix_of roots) (positive_roots_of roots)
root_system roots = record { form = roots.form; finite = has_finite_system roots; positive = has_positive_roots roots }

-- ---- counting the positive roots of a kind
pub root_at : (roots : Roots) (i : ℕ) (root : List ℤ) (d : Pair) → i < length (positives roots) →
    root ≡ (get_or (positives roots) i d).root
    → get_or (positive_roots_of roots) i (coordinates d.root) ≡ coordinates root
root_at roots i root d l e = get_or-map (λ (p : Pair). coordinates p.root) (positives roots) i d (coordinates d.root) l
    ∙ ap coordinates (sym e)

pub count_more : (test : Vector → Bool) (roots : List Vector) (i n r : ℕ) (d b : Vector) → i < length roots →
    get_or roots i d ≡ b
    → n ≡ count_by test (take i roots) → r ≡ n + cond {A = ℕ} (test b) 1 0 → r ≡ count_by test (take (i + 1) roots)
count_more test roots i n r d b l at before e =
    let grown : take (i + 1) roots ≡ take i roots ++ b ∷ [] =
    take_more roots i d l ∙ ap (λ v. take i roots ++ v ∷ []) at in
    omega (
      arith,
      before,
      e,
      ap (count_by test) grown,
      sum_by-append (λ v. cond {A = ℕ} (test v) 1 0) (take i roots) (b ∷ []),
      sum_by-cons (λ v. cond {A = ℕ} (test v) 1 0) b [],
    )

pub count_all : (test : Vector → Bool) (roots : Roots) (i n : ℕ) → length (positives roots) ≤ i →
    n ≡ count_by test (take i (positive_roots_of roots)) → n ≡ count_by test (positive_roots_of roots)
count_all test roots i n all e =
    e ∙ ap (count_by test)
    (take_all i (positive_roots_of roots)
    (omega (arith, length-map (positives roots) (λ (p : Pair). coordinates p.root))))

pub at_most_one : (b : Bool) → cond {A = ℕ} b 1 0 ≤ 1
at_most_one true = omega arith
at_most_one false = omega arith

same_tests : (a b : Bool) → (IsTrue a ↔ IsTrue b) → a ≡ b
same_tests true true h = refl
same_tests true false h = sym (h.0 refl)
same_tests false true h = h.1 refl
same_tests false false h = refl

-- one root more, of which the code knows whether the element makes it negative
pub root_counted : (roots : Roots) (e : Elem) (i n r rank : ℕ) (root : List ℤ) (negative : Bool) →
    i < length (positives roots)
    → ((d : Pair) → root ≡ (get_or (positives roots) i d).root) → rank ≡ e.rank →
    (IsTrue negative ↔ IsTrue (has_negative rank (image e.entries (coordinates root))))
    → n ≡ count_by (λ b. has_negative e.rank (image e.entries b)) (take i (positive_roots_of roots)) →
    r ≡ n + cond {A = ℕ} negative 1 0
    → r ≡ count_by (λ b. has_negative e.rank (image e.entries b)) (take (i + 1) (positive_roots_of roots))
root_counted roots e i n r rank root negative l at same_rank tests before more =
    let test : Vector → Bool = λ b. has_negative e.rank (image e.entries b) in
    let d : Pair = record { root = []; coroot = [] } in
    let same : negative ≡ test (coordinates root) =
    same_tests negative (has_negative rank (image e.entries (coordinates root))) tests
    ∙ ap (λ k. has_negative k (image e.entries (coordinates root))) same_rank in
    count_more test (positive_roots_of roots) i n r (coordinates d.root) (coordinates root)
    (omega (arith, length-map (positives roots) (λ (p : Pair). coordinates p.root)))
    (root_at roots i root d l (at d)) before (more ∙ ap (λ (b : Bool). n + cond {A = ℕ} b 1 0) same)

pub not_both : (b : Bool) → b ≡ false → IsTrue b → ⊥
not_both b e h = true_false b h e
  where
    true_false : (b : Bool) → b ≡ true → b ≡ false → ⊥
    true_false b p q = cc

-- ---- words of letters from 1
pub word_letters : (m : CartanMatrix) (letters : List ℕ) → All (IsLetter m.rank) letters → IsWord m (word_of letters)
word_letters m letters h =
    All-map (λ k. k < m.rank) (λ letter. letter - 1) letters
    (All-weaker (IsLetter m.rank) (λ letter. letter - 1 < m.rank) (λ letter is. omega (arith, is)) letters h)

word_of-reverse : (letters : List ℕ) → word_of (reverse letters) ≡ reverse (word_of letters)
word_of-reverse [] = refl
word_of-reverse (a ∷ letters) =
    ap word_of (reverse-append (a ∷ []) letters) ∙ map-append (λ letter. letter - 1) (reverse letters) (a ∷ [])
    ∙ ap (λ (w : List ℕ). w ++ (a - 1) ∷ []) (word_of-reverse letters)
    ∙ sym (reverse-append ((a - 1) ∷ []) (word_of letters))

pub word_more : (letters : List ℕ) (i : ℕ) → i < length letters →
    word_of (take (i + 1) letters) ≡ word_of (take i letters) ++ (get_or letters i 0 - 1) ∷ []
word_more letters i l = map_more (λ letter. letter - 1) letters i 0 l

-- ---- unit vectors
pub unit_written : (k : ℕ) → k < 6 → coordinates (set (pos 0 ∷ pos 0 ∷ pos 0 ∷ pos 0 ∷ pos 0 ∷ pos 0 ∷ []) k (pos 1))
    ≡ integer_unit k
unit_written k l = fun_ext (λ j.
    elim (cases_eq j k) [
      | inl same ↦
          ap (λ i. get_or (set (pos 0 ∷ pos 0 ∷ pos 0 ∷ pos 0 ∷ pos 0 ∷ pos 0 ∷ []) k (pos 1)) i (pos 0)) same
          ∙ get_or-set_same (pos 0 ∷ pos 0 ∷ pos 0 ∷ pos 0 ∷ pos 0 ∷ pos 0 ∷ []) k (pos 1) (pos 0) l
          ∙ sym (ap (integer_unit k) same ∙ unit_at k)
      | inr apart ↦
          get_or-set_other (pos 0 ∷ pos 0 ∷ pos 0 ∷ pos 0 ∷ pos 0 ∷ pos 0 ∷ []) k j (pos 1) (pos 0) apart
          ∙ zeros_read 6 j ∙ sym (unit_off k j apart)
    ])

-- ---- least right descents taken off an element from the right
pub record HasLeft (roots : Roots) (self : Elem) (off : List ℕ) (rest : Elem) : Type 0 where
  pub letters : All (IsLetter (matrix_of roots).rank) off
  pub left : (u : List ℕ) → IsProduct (matrix_of roots) u self → IsProduct (matrix_of roots) (u ++ word_of off) rest
  pub taken : (u : List ℕ) → IsProduct (matrix_of roots) u self →
      HasTakenOff (matrix_of roots) (positive_roots_of roots) (root_system roots) u (word_of off)

pub all_left : (roots : Roots) (self : Elem) → HasLeft roots self [] self
all_left roots self = record {
  letters = All-nil (IsLetter (matrix_of roots).rank);
  left = λ u h. subst (λ w. IsProduct (matrix_of roots) w self) (sym (append-nil u)) h;
  taken = λ u h. nothing_taken (matrix_of roots) (positive_roots_of roots) (root_system roots) u;
}

pub rest_is_element : (roots : Roots) (self : Elem) (off : List ℕ) (rest : Elem) → IsElement (matrix_of roots) self →
    HasLeft roots self off rest → IsElement (matrix_of roots) rest
rest_is_element roots self off rest (u, h) left = (u ++ word_of off, left.left u h)

pub less_left : (roots : Roots) (self : Elem) (off : List ℕ) (rest : Elem) (k : ℕ) (next : Elem) →
    HasLeft roots self off rest → IsLetter (matrix_of roots).rank k
    → ((u : List ℕ) → IsProduct (matrix_of roots) u rest → IsLeastDescent (matrix_of roots) (positive_roots_of roots) u
    (k - 1))
    → ((u : List ℕ) → IsProduct (matrix_of roots) u rest → IsProduct (matrix_of roots) (u ++ (k - 1) ∷ []) next)
    → HasLeft roots self (off ++ k ∷ []) next
less_left roots self off rest k next h letter least product = record {
  letters = All-push (IsLetter (matrix_of roots).rank) off k h.letters letter;
  left = λ u is.
      subst (λ w. IsProduct (matrix_of roots) w next) (append_assoc u (word_of off) ((k - 1) ∷ [])
      ∙ ap (λ (w : List ℕ). u ++ w) (sym (map_push (λ letter. letter - 1) off k)))
      (product (u ++ word_of off) (h.left u is));
  taken = λ u is.
      subst (λ w. HasTakenOff (matrix_of roots) (positive_roots_of roots) (root_system roots) u w)
      (sym (map_push (λ letter. letter - 1) off k))
      (one_taken (matrix_of roots) (positive_roots_of roots) (root_system roots) u (word_of off) (k - 1) is.letters
      (word_letters (matrix_of roots) off h.letters) (omega (arith, letter))
      (h.taken u is) (least (u ++ word_of off) (h.left u is)));
}

pub next_shorter : (roots : Roots) (rest : Elem) (k : ℕ) (next : Elem) → IsElement (matrix_of roots) rest
    → ((u : List ℕ) → IsProduct (matrix_of roots) u rest → IsLeastDescent (matrix_of roots) (positive_roots_of roots) u
    (k - 1))
    → ((u : List ℕ) → IsProduct (matrix_of roots) u rest → IsProduct (matrix_of roots) (u ++ (k - 1) ∷ []) next)
    → element_length (positive_roots_of roots) next < element_length (positive_roots_of roots) rest
next_shorter roots rest k next (u, h) least product =
    omega (
      arith,
      (least u h).descent,
      element_length-product (matrix_of roots) (positive_roots_of roots) (root_system roots) u rest h,
      element_length-product (matrix_of roots) (positive_roots_of roots) (root_system roots) (u ++ (k - 1) ∷ []) next
          (product u h),
    )

-- what was taken off, backwards, is the word of least right descents, where the identity is left
pub none_left : (roots : Roots) (self : Elem) (off : List ℕ) (rest : Elem) → IsElement (matrix_of roots) self →
    HasLeft roots self off rest → IsProduct (matrix_of roots) [] rest
    → IsProduct (matrix_of roots) (word_of (reverse off)) self × IsReduced (matrix_of roots) (positive_roots_of roots)
    (word_of (reverse off))
    × IsDescentWord (matrix_of roots) (positive_roots_of roots) (word_of (reverse off))
none_left roots self off rest (u, h) left identity =
    let m : CartanMatrix = matrix_of roots in
    let behind : IsWord m (word_of off) = word_letters m off left.letters in
    let alike : acts m (u ++ word_of off) ≡ acts m [] =
    same_words m roots.form (u ++ word_of off) [] rest (left.left u h) identity in
    let r : (acts m (reverse (word_of off)) ≡ acts m u) × IsReduced m (positive_roots_of roots) (reverse (word_of off))
    × IsDescentWord m (positive_roots_of roots) (reverse (word_of off)) =
    all_taken m (positive_roots_of roots) (root_system roots) u (word_of off) h.letters behind (left.taken u h) alike in
    subst (λ (w : List ℕ). IsProduct m w self × IsReduced m (positive_roots_of roots) w ×
    IsDescentWord m (positive_roots_of roots) w) (sym (word_of-reverse off))
    (product_alike m u (reverse (word_of off)) self h (word-reverse m (word_of off) behind) (sym r.0), r.1, r.2)

pub letters-reverse : (roots : Roots) (self : Elem) (off : List ℕ) (rest : Elem) → HasLeft roots self off rest →
    All (IsLetter (matrix_of roots).rank) (reverse off)
letters-reverse roots self off rest left = All-reverse (IsLetter (matrix_of roots).rank) off left.letters
