-- From tuples that stand for all sections to the conditions at a vertex: covers give lifting, sources give reaching.
use Rattle.std.proofs.Common.{◌≡◌, ℕ, ◌+◌, ◌*◌, ◌<◌, ◌≤◌, List, length, sym, subst, inl, inr, arith}
use Rattle.std.specs.Prelude.{slice_index}
use Rattle.std.proofs.lemmas.Bool.{cases_lt}
use Rattle.bmp_math.specs.Sums.{sum_below}
use Rattle.bmp_poly.specs.Exponents.{IsMonomial}
use Rattle.bmp_graph.specs.Graph.{Graph}
use Rattle.bmp_sheaf.specs.Elements.{Element, SameElement, zero_element, monomial_times}
use Rattle.bmp_sheaf.specs.Units.{unit_element}
use Rattle.bmp_sheaf.specs.Sheaves.{SheafData, Tuple, boundary_of_element, boundary_of_tuple}
use Rattle.bmp_sheaf.proofs.ElementLaws.{same_turned}
use Rattle.bmp_sheaf.proofs.UnitLaws.{holds_of_element}
use Rattle.bmp_sections.specs.Sections.{IsSection, above, IsReached, IsLifted}
use Rattle.bmp_sections.proofs.SectionLaws.{section_zero, section_plus, section_times, section_combination, section_monomial}
use Rattle.bmp_sections.proofs.BoundaryLaws.{HasBoundary, boundary_turned, boundary_chained, has_boundary_same, has_boundary_zero, has_boundary_plus, has_boundary_times, has_boundary_combination, has_boundary_monomial}
use Rattle.bmp_cover.specs.Evidence.{combined_tuple, CatchAll, AreSections, AreCovers, HaveSources}

module _ (G : Graph) (F : SheafData) (x : ℕ) where
  -- the element has the boundary of a section
  pub record Reaches (d : ℕ) (u : Element) : Type 0 where
    pub tuple : Tuple
    pub section : IsSection G F (above G x) d tuple
    pub boundary : HasBoundary G F x d u (boundary_of_tuple G tuple)

  reaches_same : (d : ℕ) (u v : Element) → G.rank ≤ 6 → SameElement G.prime G.rank (F.degrees x) d u v → Reaches d u →
      Reaches d v
  reaches_same d u v wide same r = record {
    tuple = r.tuple;
    section = r.section;
    boundary = has_boundary_same G F x d v u (boundary_of_tuple G r.tuple) wide
        (same_turned G.prime G.rank (F.degrees x) d u v same) r.boundary;
  }

  reaches_zero : (d : ℕ) → Reaches d zero_element
  reaches_zero d = record {
    tuple = λ y. zero_element;
    section = section_zero G F (above G x) d;
    boundary = has_boundary_zero G F x d;
  }

  reaches_plus : (d : ℕ) (u v : Element) → Reaches d u → Reaches d v → Reaches d (λ g m. u g m + v g m)
  reaches_plus d u v r q = record {
    tuple = λ y g m. r.tuple y g m + q.tuple y g m;
    section = section_plus G F (above G x) d r.tuple q.tuple r.section q.section;
    boundary = has_boundary_plus G F x d u v (boundary_of_tuple G r.tuple) (boundary_of_tuple G q.tuple) r.boundary
        q.boundary;
  }

  reaches_times : (d c : ℕ) (u : Element) → Reaches d u → Reaches d (λ g m. c * u g m)
  reaches_times d c u r = record {
    tuple = λ y g m. c * r.tuple y g m;
    section = section_times G F (above G x) d c r.tuple r.section;
    boundary = has_boundary_times G F x d c u (boundary_of_tuple G r.tuple) r.boundary;
  }

  reaches_monomial : (d k t : ℕ) (n : List ℕ) (u : Element) → G.rank ≤ 6 → IsMonomial 6 G.rank k n → d + k ≡ t →
      Reaches d u → Reaches t (monomial_times n u)
  reaches_monomial d k t n u wide is_n total r = record {
    tuple = λ y. monomial_times n (r.tuple y);
    section = section_monomial G F (above G x) d k t n r.tuple wide is_n total r.section;
    boundary = has_boundary_monomial G F x d k t n u (boundary_of_tuple G r.tuple) wide is_n total r.boundary;
  }

  -- each generator of degree d reaches, and so do all elements of lower degrees: then all of degree d do
  pub reached_in_next_degree : (d : ℕ) → G.rank ≤ 6 → ((e : ℕ) → e < d → IsReached G F x e) →
      ((g : ℕ) → g < length (F.degrees x) → slice_index (F.degrees x) g ≡ d → Reaches d (unit_element g)) →
      IsReached G F x d
  reached_in_next_degree d wide lower new = record {
    reached = λ u.
        let all : Reaches d u =
        holds_of_element G.prime G.rank (F.degrees x) d wide (Reaches d) (λ v w same. reaches_same d v w wide same)
        (reaches_zero d) (reaches_plus d) u
        (λ g k n has is. reaches_times d (u g n) (monomial_times n (unit_element g))
        (reaches_monomial (slice_index (F.degrees x) g) k d n (unit_element g) wide is has.1
        (generator g k has.0 has.1))) in
        (all.tuple, all.section, all.boundary);
  }
    where
      generator : (g k : ℕ) → g < length (F.degrees x) → slice_index (F.degrees x) g + k ≡ d →
          Reaches (slice_index (F.degrees x) g) (unit_element g)
      generator g k below total = elim (cases_lt (slice_index (F.degrees x) g) d) [
        | inl less ↦ let found = (lower (slice_index (F.degrees x) g) less).reached (unit_element g) in
            record { tuple = found.0; section = found.1; boundary = found.2 }
        | inr from ↦ let whole : slice_index (F.degrees x) g ≡ d = omega arith in
            subst (λ e. Reaches e (unit_element g)) (sym whole) (new g below whole)
      ]

  pub covers_give_lifting : (d : ℕ) (t : ℕ → Tuple) (n : ℕ) (u : ℕ → Element) → 0 < G.prime → CatchAll G F x d t n →
      AreCovers G F x d t n u → IsLifted G F x d
  covers_give_lifting d t n u some catch covers = record {
    lifted = λ s is.
        let found = catch s is in
        let element : Element = λ g m. sum_below (λ j. found.0 j * u j g m) n in (
          element,
          boundary_chained G F x d (boundary_of_element G F d element)
              (boundary_of_tuple G (combined_tuple found.0 t n)) (boundary_of_tuple G s)
              (has_boundary_combination G F x d found.0 u (λ j. boundary_of_tuple G (t j)) n covers)
              (boundary_turned G F x d (boundary_of_tuple G s) (boundary_of_tuple G (combined_tuple found.0 t n)) some
              found.1),
        );
  }

  pub sources_give_reaching : (d : ℕ) (t : ℕ → Tuple) (n : ℕ) → G.rank ≤ 6 → AreSections G F x d t n →
      HaveSources G F x d t n → ((e : ℕ) → e < d → IsReached G F x e) → IsReached G F x d
  sources_give_reaching d t n wide sections sources lower =
      reached_in_next_degree d wide lower (λ g below is_new.
      let source = sources g below is_new in
      record {
        tuple = combined_tuple source.0 t n;
        section = section_combination G F (above G x) d source.0 t n sections;
        boundary = source.1;
      })
