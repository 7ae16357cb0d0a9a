-- The matrices of linear extensions into an edge's module are those of the two maps of the edge.
use Rattle.std.proofs.Common.{◌≡◌, ℕ, ◌-◌, ◌%◌, ◌<◌, ◌≤◌, List, length, sym, ap, subst, ◌∙◌, arith}
use Rattle.std.specs.Prelude.{slice_index}
use Rattle.std.proofs.Math.Nat.{mod-eq_of_lt}
use Rattle.bmp_math.specs.Vectors.{unit}
use Rattle.bmp_math.specs.Matrices.{Matrix, SameMatrix}
use Rattle.bmp_linear.specs.declared.vector.Entry.{Entry}
use Rattle.bmp_poly.specs.Coordinates.{IsLeading}
use Rattle.bmp_poly.specs.declared.label.Label.{Label}
use Rattle.bmp_graded.specs.Graded.{Graded, IsModule}
use Rattle.bmp_graded.specs.Modules.{free}
use Rattle.bmp_graded.specs.NormalForms.{HasInverses}
use Rattle.bmp_graded.specs.Quotients.{quotient}
use Rattle.bmp_graded.specs.Maps.{extension as graded_extension}
use Rattle.bmp_graded.proofs.PassLaws.{quotients_are_modules}
use Rattle.bmp_graded.proofs.Generators.{generator, generator_is_one, extension_is}
use Rattle.bmp_module.specs.declared.quotient.Quotient.{Quotient}
use Rattle.bmp_module.specs.declared.normal_table.NormalTable.{NormalTable}
use Rattle.bmp_module.specs.Columns.{matrix_of_map}
use Rattle.bmp_sheaf.specs.Elements.{Element, SameElement, extension}
use Rattle.bmp_sheaf.specs.Units.{unit_element}
use Rattle.bmp_sheaf.specs.Coordinates.{stalk_count, element_of}
use Rattle.bmp_sheaf.specs.Numbers.{edge_number, unit_at}
use Rattle.bmp_sheaf.specs.EdgeMaps.{lift_by, lower_map, upper_map}
use Rattle.bmp_sheaf.specs.EdgeModules.{lower_map_on}
use Rattle.bmp_sheaf.specs.UpperTables.{upper_map_of}
use Rattle.bmp_sheaf.proofs.ExtensionLaws.{extension_same, extension-unit}
use Rattle.bmp_sheaf.proofs.EdgeNumbers.{edge_number_below, edge_number_respects}
use Rattle.bmp_sheaf.proofs.ModuleLemmas.{free_count, quotient_count, generator_same, lower_is_map}
use Rattle.bmp_sheaf.proofs.UnitLaws.{units_extended}

module _ (p r l : ℕ) (coords : List ℕ) (two : 2 ≤ p) (inverses : HasInverses p) (leads : IsLeading p r l coords)
    (into : List ℕ) (d : ℕ) where
  abbrev Q : Graded
  Q = quotient p (r - 1) l (slice_index coords) into

  abbrev numbers : ℕ → Element → ℕ → ℕ
  numbers d = edge_number p r (slice_index coords) l into d

  laws : IsModule p r Q
  laws = quotients_are_modules p r l coords into two inverses leads

  rows_are : (a : ℕ) → Q.dim a ≡ stalk_count (r - 1) into a
  rows_are a = quotient_count p (r - 1) l a (slice_index coords) into

  -- the images are the numbers of the elements u
  abbrev pub HasNumbers : List ℕ → (ℕ → Element) → (ℕ → ℕ → ℕ) → Type 0
  HasNumbers gs u ws = (h i : ℕ) → h < length gs → i < stalk_count (r - 1) into (slice_index gs h) →
      ws h i ≡ edge_number p r (slice_index coords) l into (slice_index gs h) (u h) i

  -- the matrix of the extension of images that are the numbers of the elements u
  pub matrix_is : (from : List ℕ) (u : ℕ → Element) (ws : ℕ → ℕ → ℕ) (b : Matrix) → HasNumbers from u ws →
      SameMatrix b (matrix_of_map p (free r from) Q (graded_extension r Q from ws) d)
      → SameMatrix b (record {
        rows = stalk_count (r - 1) into d;
        cols = stalk_count r from d;
        entry = λ i j. numbers d (extension r from u d (unit_at r from d j)) i;
      })
  matrix_is from u ws b has h = record {
    rows = h.rows ∙ rows_are d;
    cols = h.cols ∙ free_count r d from;
    entries = λ i j inside below.
        let row : i < Q.dim d = omega (arith, inside, rows_are d) in
        h.entries i j row (omega (arith, below, free_count r d from))
        ∙ extension_is p r Q from ws (λ d v. numbers d (extension r from u d (element_of r from d v))) leads.rank laws
        (lower_is_map p r l coords two inverses leads into from u)
        (λ g here k below.
        let same : SameElement p r from (slice_index from g)
        (element_of r from (slice_index from g) (generator r from g)) (unit_element g) =
        generator_same p r g from (generator r from g) (generator_is_one r g from leads.rank here) in
        let within : k < stalk_count (r - 1) into (slice_index from g) =
        omega (arith, below, rows_are (slice_index from g)) in
        let own : SameElement p r into (slice_index from g)
        (extension r from u (slice_index from g) (element_of r from (slice_index from g) (generator r from g)))
        (u g) =
        λ e s has m is_m.
        extension_same r from u p (slice_index from g) (element_of r from (slice_index from g) (generator r from g))
        (unit_element g) leads.rank same e m
        ∙ ap (λ z. z % p) (extension-unit r from u g e s m leads.rank here is_m) in
        ap (λ z. z % p) (has g k here within
        ∙ sym (edge_number_respects p r l coords two inverses leads into (slice_index from g)
        (extension r from u (slice_index from g) (element_of r from (slice_index from g) (generator r from g)))
        (u g) own k within)))
        d (unit j) i row
        ∙ mod-eq_of_lt (edge_number_below p r l coords two inverses leads into d
        (extension r from u d (unit_at r from d j)) i);
  }

  -- the extension of the unit elements is the identity
  pub upper_matrix_is : (ws : ℕ → ℕ → ℕ) (b : Matrix) → HasNumbers into unit_element ws →
      SameMatrix b (matrix_of_map p (free r into) Q (graded_extension r Q into ws) d) →
      SameMatrix b (upper_map p r (slice_index coords) l into d)
  upper_matrix_is ws b has h =
      let same = matrix_is into unit_element ws b has h in
      record {
        rows = same.rows;
        cols = same.cols;
        entries = λ i j row column.
            same.entries i j row column
            ∙ edge_number_respects p r l coords two inverses leads into d
            (extension r into unit_element d (unit_at r into d j)) (unit_at r into d j)
            (units_extended p r into d leads.rank (unit_at r into d j)) i row;
      }

-- the same by a quotient in memory and a table of its label, for a field of `size` elements
module _ (size : ℕ) (q : Quotient) (t : NormalTable) (two : 2 ≤ size) (inverses : HasInverses size)
    (sizes : size ≡ t.label.prime) (label_is : q.label ≡ t.label) (rank d : ℕ) (b : Matrix) where
  abbrev pub module_in : Quotient → Graded
  module_in q = quotient q.label.prime (q.label.rank - 1) q.label.leading (slice_index q.label.coords)
      q.free.degrees.items

  prime_is : size ≡ q.label.prime
  prime_is = sizes ∙ ap (λ (x : Label). x.prime) (sym label_is)

  pub two_here : 2 ≤ q.label.prime
  two_here = subst (λ z. 2 ≤ z) prime_is two

  pub inverses_here : HasInverses q.label.prime
  inverses_here = subst HasInverses prime_is inverses

  -- by the label's own rank and prime
  there : (from : List ℕ) (ws : ℕ → ℕ → ℕ) (m : Quotient) → rank ≡ q.label.rank → m ≡ q →
      SameMatrix b (matrix_of_map size (free rank from) (module_in m) (graded_extension rank (module_in m) from ws) d)
      → SameMatrix b (matrix_of_map q.label.prime (free q.label.rank from) (module_in q)
      (graded_extension q.label.rank (module_in q) from ws) d)
  there from ws m own m_is by =
      subst (λ z. SameMatrix b
      (matrix_of_map q.label.prime (free z from) (module_in q) (graded_extension z (module_in q) from ws) d)) own
      (subst (λ z. SameMatrix b
      (matrix_of_map z (free rank from) (module_in q) (graded_extension rank (module_in q) from ws) d)) prime_is
      (subst (λ (m : Quotient). SameMatrix b
      (matrix_of_map size (free rank from) (module_in m) (graded_extension rank (module_in m) from ws) d)) m_is by))

  pub lower_made : (from : List ℕ) (lifts : List (List Entry)) (ws : ℕ → ℕ → ℕ) → rank ≡ t.label.rank →
      HasNumbers q.label.prime q.label.rank q.label.leading q.label.coords two_here inverses_here q.label.leads
      q.free.degrees.items d from (lift_by q.label.rank from q.free.degrees.items lifts) ws →
      (m : Quotient) → m ≡ q →
      SameMatrix b (matrix_of_map size (free rank from) (module_in m) (graded_extension rank (module_in m) from ws)
      d) → SameMatrix b (lower_map_on t q.free d from lifts)
  lower_made from lifts ws ranks has m m_is by =
      subst (λ (z : Label). SameMatrix b
      (lower_map z.prime q.free.rank (slice_index z.coords) z.leading from q.free.degrees.items lifts d)) label_is
      (subst (λ z. SameMatrix b
      (lower_map q.label.prime z (slice_index q.label.coords) q.label.leading from q.free.degrees.items lifts d))
      (sym q.agree)
      (matrix_is q.label.prime q.label.rank q.label.leading q.label.coords two_here inverses_here q.label.leads
      q.free.degrees.items d from (lift_by q.label.rank from q.free.degrees.items lifts) ws b has
      (there from ws m (ranks ∙ ap (λ (x : Label). x.rank) (sym label_is)) m_is by)))

  pub upper_made : (ws : ℕ → ℕ → ℕ) → rank ≡ q.label.rank →
      HasNumbers q.label.prime q.label.rank q.label.leading q.label.coords two_here inverses_here q.label.leads
      q.free.degrees.items d q.free.degrees.items unit_element ws →
      (m : Quotient) → m ≡ q →
      SameMatrix b (matrix_of_map size (free rank q.free.degrees.items) (module_in m)
      (graded_extension rank (module_in m) q.free.degrees.items ws) d) → SameMatrix b (upper_map_of q d)
  upper_made ws own has m m_is by =
      subst (λ z. SameMatrix b
      (upper_map q.label.prime z (slice_index q.label.coords) q.label.leading q.free.degrees.items d)) (sym q.agree)
      (upper_matrix_is q.label.prime q.label.rank q.label.leading q.label.coords two_here inverses_here q.label.leads
      q.free.degrees.items d ws b has (there q.free.degrees.items ws m own m_is by))
