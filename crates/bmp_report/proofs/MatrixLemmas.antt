-- The words of a matrix: its entries, and lists of words one after the other.
use Rattle.std.proofs.Common.{◌≡◌, ℕ, ℤ, suc, ◌+◌, ◌-◌, ◌<◌, List, [], ◌∷◌, ◌++◌, sym, ap, ◌∙◌, append_assoc, length, drop, codes, slice_get, Some, inl, inr, arith}
use Rattle.std.proofs.lemmas.List.{append-nil}
use Rattle.std.specs.Fmt.{decimal}
use Rattle.std.proofs.lemmas.Option.{slice_get_cases}
use Rattle.bmp_text.specs.Printing.{spaced_words, line_text, chain_text, range_text}
use Rattle.bmp_text.proofs.AheadLemmas.{spaced-append}
use Rattle.bmp_text.proofs.PrintingLoops.{states_on}
use Rattle.bmp_math.specs.IntegerSums.{integer_unit}
use Rattle.bmp_roots.specs.RootPairs.{CartanMatrix}
use Rattle.bmp_roots.specs.declared.root_system.Roots.{Roots}
use Rattle.bmp_roots.specs.RootSystems.{matrix_of, positive_roots_of}
use Rattle.bmp_roots.proofs.RootsLemmas.{has_finite_system}
use Rattle.bmp_weyl.specs.Words.{acts}
use Rattle.bmp_weyl.specs.Matrices.{cell}
use Rattle.bmp_weyl.specs.Elements.{IsProduct, IsElementOfOne, rank_of, element_length}
use Rattle.bmp_weyl.specs.declared.elem.Elem.{Elem}
use Rattle.bmp_interval.specs.Vertices.{IsVertex}
use Rattle.bmp_report.specs.GraphText.{matrix_words, vertex_line, next_number}

-- what an element makes of the simple roots is its matrix
pub entry_is : (e : Elem) (i j : ℕ) (z : ℤ) → IsElementOfOne e → i < rank_of e → j < rank_of e
    → ((m : CartanMatrix) (u : List ℕ) → IsProduct m u e → z ≡ acts m u (integer_unit (j + 1 - 1)) (i + 1 - 1)) →
    z ≡ cell e.entries i j
entry_is e i j z one row column value =
    let product = one.element.1 in
    let few = one.form.at_most_six in
    let of_matrix : rank_of e ≡ one.matrix.rank = product.rank in
    let row_is : i + 1 - 1 ≡ i = omega arith in
    let column_is : j + 1 - 1 ≡ j = omega arith in
    value one.matrix one.element.0 product
    ∙ (ap (λ (n : ℕ). acts one.matrix one.element.0 (integer_unit n) (i + 1 - 1)) column_is
    ∙ (ap (λ (n : ℕ). acts one.matrix one.element.0 (integer_unit j) n) row_is
    ∙ sym (product.columns i j (omega (arith, of_matrix, few)) (omega (arith, of_matrix, few)))))

-- a vertex is an element
pub vertex_element : (roots : Roots) (word : List ℕ) (e : Elem) → IsVertex (matrix_of roots) word e → IsElementOfOne e
vertex_element roots word e v = record {
  matrix = matrix_of roots;
  form = roots.form;
  finite = has_finite_system roots;
  element = (_, v.product);
}

-- ---- lists of words

module _ (words : ℕ → List (List ℕ)) where
  pub range_lists_on : (out all : List ℕ) (x n k : ℕ) → n ≡ suc k → out ++ spaced_words (range_text words x n) ≡ all
      → (out ++ spaced_words (words x)) ++ spaced_words (range_text words (x + 1) k) ≡ all
  range_lists_on out all x n k less so_far =
      append_assoc out (spaced_words (words x)) (spaced_words (range_text words (x + 1) k))
      ∙ (ap (λ (t : List ℕ). out ++ t) (sym (spaced-append (words x) (range_text words (x + 1) k)))
      ∙ (ap (λ (m : ℕ). out ++ spaced_words (range_text words x m)) (sym less) ∙ so_far))

  pub range_lists_end : (out all : List ℕ) (x n : ℕ) → n ≡ 0 → out ++ spaced_words (range_text words x n) ≡ all →
      out ≡ all
  range_lists_end out all x n none so_far =
      sym (append-nil out) ∙ (ap (λ (m : ℕ). out ++ spaced_words (range_text words x m)) (sym none) ∙ so_far)

-- ---- the line of a vertex

pub vertex_printed : (out : List ℕ) (roots : Roots) (x n l m rank : ℕ) (e f : Elem) → n ≡ x → m ≡ l →
    l ≡ element_length (positive_roots_of roots) f
    → rank ≡ (matrix_of roots).rank → f ≡ e
    → ((((out ++ codes "vertex") ++ (32 ∷ decimal n)) ++ (32 ∷ decimal m)) ++ spaced_words (matrix_words rank f)) ++
    (10 ∷ []) ≡ out ++ vertex_line roots x e
vertex_printed out roots x n l m rank e f number same length_is rank_is is =
    let printed : ((((out ++ codes "vertex") ++ (32 ∷ decimal n)) ++ (32 ∷ decimal m)) ++ spaced_words
    (matrix_words rank f)) ++ (10 ∷ []) ≡
    out ++ line_text (codes "vertex") (decimal n ∷ decimal m ∷ matrix_words rank f) = simp append_assoc in
    printed ∙ ap (λ (line : List ℕ). out ++ line)
    (ap (λ (k : ℕ). line_text (codes "vertex") (decimal k ∷ decimal m ∷ matrix_words rank f)) number
    ∙ (ap (λ (k : ℕ). line_text (codes "vertex") (decimal x ∷ decimal k ∷ matrix_words rank f)) (same ∙ length_is)
    ∙ (ap (λ (r : ℕ). line_text (codes "vertex")
    (decimal x ∷ decimal (element_length (positive_roots_of roots) f) ∷ matrix_words r f)) rank_is
    ∙ ap (λ (g : Elem). vertex_line roots x g) is)))

-- one vertex more is printed
pub vertices_on : (roots : Roots) (out new all : List ℕ) (vertices : List Elem) (x : ℕ) → x < length vertices
    → ((e : Elem) → slice_get vertices x ≡ Some e → new ≡ out ++ vertex_line roots x e)
    → out ++ chain_text (vertex_line roots) next_number x (drop x vertices) ≡ all
    → new ++ chain_text (vertex_line roots) next_number (x + 1) (drop (x + 1) vertices) ≡ all
vertices_on roots out new all vertices x within printed so_far =
    elim ((slice_get_cases vertices x).1) [
      | inl (e, l, at, is) ↦
          (rw (printed e at) (states_on (vertex_line roots) next_number out all vertices x e x within (sym is) so_far))
      | inr (past, none) ↦ absurd (omega (arith, past, within))
    ]
