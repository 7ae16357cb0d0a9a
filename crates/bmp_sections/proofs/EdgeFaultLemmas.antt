-- What a row of the edge equations says of a tuple, and the first that fails.
use Rattle.std.proofs.Common.{◌≡◌, ◌≢◌, ℕ, ◌+◌, ◌%◌, ◌<◌, ◌≤◌, List, length, get_or, set, take, true, eqb, eq-eqb, ne_eqb, sym, ap, ap₂, subst, ◌∙◌, inl, inr, arith, get_or-set_same, get_or-set_other}
use Rattle.std.specs.Prelude.{Result, Ok, Err, OnErr, IfErr}
use Rattle.std.proofs.lemmas.Bool.{cases_eq, cond-true, cond-false}
use Rattle.bmp_math.specs.Matrices.{Matrix, NumbersBelow, image}
use Rattle.bmp_linear.specs.declared.vector.Entry.{Entry}
use Rattle.bmp_linear.specs.SparseVectors.{IsRising, number_at}
use Rattle.bmp_linear.proofs.SparseLemmas.{number_at_more}
use Rattle.bmp_graph.specs.Graph.{Graph, edge_count, lower}
use Rattle.bmp_sheaf.specs.Fields.{IsOverField}
use Rattle.bmp_sheaf.specs.Sheaves.{SheafData}
use Rattle.bmp_sheaf.specs.Coordinates.{edge_module_count}
use Rattle.bmp_sheaf.specs.States.{SheafState, sheaf_of}
use Rattle.bmp_sections.specs.Sections.{IsSection}
use Rattle.bmp_sections.specs.Positions.{equation_count, equation_start, tuple_of}
use Rattle.bmp_sections.specs.Numbers.{is_above, equation_matrix}
use Rattle.bmp_sections.specs.EdgeFaults.{IsCompatible, equation_of, IsFirstEdgeFault}
use Rattle.bmp_sections.specs.declared.compatible.EdgeFault.{EdgeFault}
use Rattle.bmp_sections.specs.declared.index.EquationPlace.{EquationPlace}
use Rattle.bmp_sections.proofs.AboveLemmas.{upper_is_above}
use Rattle.bmp_sections.proofs.IndexLemmas.{IsPlaceOf}
use Rattle.bmp_sections.proofs.EquationNumbers.{equation_below_count, equations_vanish, section_of_equations, section_by_test, section_from_test, image_is_equation, equation_matrix_below}

-- the first numbers of a list, with one entry more
pub spread_more :
    (v : List Entry) (ns : List ℕ) (n i : ℕ) (d : Entry) → IsRising v → i < length v → n ≤ length ns →
    (get_or v i d).place < n →
    ((j : ℕ) → j < n → get_or ns j 0 ≡ number_at (take i v) j) →
    (j : ℕ) → j < n → get_or (set ns (get_or v i d).place (get_or v i d).value) j 0 ≡ number_at (take (i + 1) v) j
spread_more v ns n i d rising l room below so_far j within = elim (cases_eq (get_or v i d).place j) [
  | inl same ↦
      let inside : (get_or v i d).place < length ns = omega arith in
      ap (λ m. get_or (set ns (get_or v i d).place (get_or v i d).value) m 0) (sym same)
      ∙ get_or-set_same ns (get_or v i d).place (get_or v i d).value 0 inside
      ∙ sym (number_at_more v i j d rising l ∙ cond-true {A = ℕ} (eqb (get_or v i d).place j) (get_or v i d).value
      (number_at (take i v) j) (eq-eqb (get_or v i d).place j same))
  | inr other ↦
      get_or-set_other ns (get_or v i d).place j (get_or v i d).value 0 (λ same. other (sym same))
      ∙ so_far j within
      ∙ sym (number_at_more v i j d rising l ∙ cond-false {A = ℕ} (eqb (get_or v i d).place j) (get_or v i d).value
      (number_at (take i v) j) (ne_eqb (get_or v i d).place j other))
]

-- the equations of the same sheaf, vertex and degree
pub matrix_is :
    {A : Type 0} (s t : SheafState A) (x y d e : ℕ) → s ≡ t → x ≡ y → d ≡ e → equation_matrix s.graph (sheaf_of s) x d
    ≡ equation_matrix t.graph (sheaf_of t) y e
matrix_is s t x y d e is_s is_x is_d =
    ap (λ u. equation_matrix u.graph (sheaf_of u) x d) is_s
    ∙ ap₂ (λ z f. equation_matrix t.graph (sheaf_of t) z f) is_x is_d

module _ (G : Graph) (F : SheafData) (x d : ℕ) (over : IsOverField G) where
  -- its numbers are those of a field of p elements
  pub matrix_below : (a : Matrix) (p : ℕ) → a ≡ equation_matrix G F x d → p ≡ G.prime → NumbersBelow p a
  matrix_below a p is_a is_p =
      subst (λ b. NumbersBelow p b) (sym is_a)
      (subst (λ q. NumbersBelow q (equation_matrix G F x d)) (sym is_p) (equation_matrix_below G F x d over))

  -- a row's value is that of the equation
  pub row_says :
      (a : Matrix) (p : ℕ) (t : ℕ → ℕ) (k value : ℕ) → a ≡ equation_matrix G F x d → p ≡ G.prime →
      k < equation_count G F (is_above G x) d →
      value ≡ image a t k % p → value ≡ equation_of G F x d t k
  row_says a p t k value is_a is_p below is = is ∙ ap₂ (λ b q. image b t k % q) is_a is_p
      ∙ image_is_equation G F x d over t k below

  pub none_fails : (t : ℕ → ℕ) → ((k : ℕ) → k < equation_count G F (is_above G x) d → equation_of G F x d t k ≡ 0) →
      IsCompatible G F x d t
  none_fails t each =
      section_by_test' (section_of_equations G F (is_above G x) d over (tuple_of G F (is_above G x) d t) each)
    where
      section_by_test' : IsSection G F (λ y. is_above G x y ≡ true) d (tuple_of G F (is_above G x) d t) →
          IsCompatible G F x d t
      section_by_test' = section_from_test G F x d over (tuple_of G F (is_above G x) d t)

  pub one_fails : (t : ℕ → ℕ) (fault : EdgeFault) → IsFirstEdgeFault G F x d t fault → IsCompatible G F x d t → ⊥
  one_fails t fault first section =
      let tuple = tuple_of G F (is_above G x) d t in
      let high = upper_is_above G over.is_graph x fault.edge first.edge first.starts_above in
      let below = equation_below_count G F (is_above G x) d fault.edge fault.place first.edge first.starts_above high
      first.place in
      let vanishes = equations_vanish G F (is_above G x) d over tuple (section_by_test G F x d over tuple section)
      (equation_start G F (is_above G x) d fault.edge + fault.place) below in
      first.differs (first.left_is ∙ vanishes ∙ sym first.right_is)

  -- the equation k is the first that fails
  pub first_fails :
      (t : ℕ → ℕ) (k : ℕ) (place : EquationPlace) (fault : EdgeFault) → IsPlaceOf G F x d k place →
      fault.edge ≡ place.edge → fault.place ≡ place.coordinate → fault.right ≡ 0 →
      fault.left ≡ equation_of G F x d t k → fault.left ≢ 0 →
      ((j : ℕ) → j < k → equation_of G F x d t j ≡ 0) → IsFirstEdgeFault G F x d t fault
  first_fails t k place fault at is_edge is_place is_right is_left other earlier =
      let whole : k ≡ equation_start G F (is_above G x) d fault.edge + fault.place =
      at.is ∙ ap₂ (λ e i. equation_start G F (is_above G x) d e + i) (sym is_edge) (sym is_place) in
      record {
        edge = subst (λ e. e < edge_count G) (sym is_edge) at.edge;
        starts_above = ap (λ e. is_above G x (lower G e)) is_edge ∙ at.low;
        place = inside;
        left_is = is_left ∙ ap (equation_of G F x d t) whole;
        right_is = is_right;
        differs = λ same. other (same ∙ is_right);
        earlier = λ j before. earlier j (subst (λ m. j < m) (sym whole) before);
      }
    where
      inside : fault.place < edge_module_count G F d fault.edge
      inside = rw (is_edge, is_place) at.inside

-- what follows where a check fails
pub on_err_then : {A E : Type 0} (P : E → Type 0) (Q : Type 0) (r : Result A E) → IfErr r P → ((e : E) → P e → Q) →
    OnErr r Q
on_err_then P Q (Ok x) known follows = tt
on_err_then P Q (Err e) known follows = follows e known
