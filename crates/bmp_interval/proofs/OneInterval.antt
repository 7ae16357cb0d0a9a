-- A word has one interval: its vertices are one set, and their numbers are one.
use Rattle.std.proofs.Common.{◌≡◌, ℕ, List, get_or, count_by, nat_cmp, refl, sym, ap, ◌∙◌, subst}
use Rattle.std.proofs.Math.Path.{fun_ext}
use Rattle.std.specs.Ordering.{ordering_then, int_cmp, is_lt}
use Rattle.std.specs.Cmp.Lexicographic.{slice_cmp}
use Rattle.bmp_math.specs.Lists.{Member}
use Rattle.bmp_math.proofs.OneLists.{count_one, length_one, numbered_one}
use Rattle.bmp_roots.specs.RootPairs.{CartanMatrix, Vector}
use Rattle.bmp_roots.specs.PositiveRoots.{ArePositiveRoots}
use Rattle.bmp_roots.specs.RootSystems.{matrix_of, positive_roots_of}
use Rattle.bmp_roots.specs.declared.root_system.Roots.{Roots}
use Rattle.bmp_roots.proofs.RootsLemmas.{has_positive_roots}
use Rattle.bmp_weyl.specs.Words.{kept}
use Rattle.bmp_weyl.specs.Elements.{IsProduct, word_of}
use Rattle.bmp_weyl.specs.declared.elem.Elem.{Elem}
use Rattle.bmp_weyl.proofs.ElementLemmas.{same_element}
use Rattle.bmp_weyl.proofs.OneLength.{one_element_length}
use Rattle.bmp_interval.specs.Vertices.{HasVertices, comes_before, number_of}
use Rattle.bmp_interval.specs.Intervals.{IsInterval, IsIntervalOf}

module _ (m : CartanMatrix) (word : List ℕ) where
  -- the vertices of a word are one set
  vertex_among : (list other : List Elem) → HasVertices m word list → HasVertices m word other → (e : Elem) →
      Member e list → Member e other
  vertex_among list other first second e h =
      let v = first.each e h in
      let r : (x : Elem) × Member x other × IsProduct m (kept v.choices word) x = second.all v.choices v.as_long in
      subst (λ x. Member x other)
      (sym (same_element m (kept v.choices word) (kept v.choices word) e r.0 v.product r.2 refl)) r.1

  module _ (roots others : List Vector) (first : ArePositiveRoots m roots) (second : ArePositiveRoots m others) where
    -- the number of an element among the vertices is one
    one_number : (list other : List Elem) → HasVertices m word list → HasVertices m word other → (e : Elem) →
        number_of roots list e ≡ number_of others other e
    one_number list other some more e =
        count_one (λ x. comes_before roots x e) list other some.once more.once (vertex_among list other some more)
        (vertex_among other list more some)
        ∙ ap (λ (measure : Elem → ℕ). count_by
        (λ x. is_lt (ordering_then (nat_cmp (measure x) (measure e)) (slice_cmp int_cmp x.entries e.entries)))
        other)
        (fun_ext (λ x. one_element_length m roots others first second x))

    pub one_interval : (list other : List Elem) → IsInterval m roots word list → IsInterval m others word other →
        list ≡ other
    one_interval list other some more =
        let some_vertices = some.vertices in
        let more_vertices = more.vertices in
        let inside = vertex_among list other some_vertices more_vertices in
        numbered_one (number_of roots list) list other
        (length_one list other some_vertices.once more_vertices.once inside
        (vertex_among other list more_vertices some_vertices))
        inside
        (λ x d l. some.numbered x d l)
        (λ x d l. one_number list other some_vertices more_vertices (get_or other x d) ∙ more.numbered x d l)

-- for root systems of one matrix
pub one_interval_of : (roots others : Roots) → matrix_of roots ≡ matrix_of others
    → (word : List ℕ) (list other : List Elem) → IsIntervalOf roots word list → IsIntervalOf others word other →
    list ≡ other
one_interval_of roots others same word list other first second =
    one_interval (matrix_of roots) (word_of word) (positive_roots_of roots) (positive_roots_of others)
    (has_positive_roots roots)
    (subst (λ (m : CartanMatrix). ArePositiveRoots m (positive_roots_of others)) (sym same) (has_positive_roots others))
    list other first.interval
    (subst (λ (m : CartanMatrix). IsInterval m (positive_roots_of others) (word_of word) other)
    (sym same) second.interval)
