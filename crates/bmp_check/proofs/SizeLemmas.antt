-- Tables of sizes, and the sizes of a block.
use Rattle.std.proofs.Common.{◌≡◌, ◌↔◌, ℕ, ◌+◌, ◌*◌, ◌/◌, ◌%◌, ◌<◌, ◌≤◌, Bool, cond, IsTrue, List, [], ◌∷◌, ◌++◌, length, get_or, sym, subst, ap, ap₂, ◌∙◌, inl, inr, arith, true≢false}
use Rattle.std.specs.List.{All}
use Rattle.std.proofs.lemmas.Bool.{cases_Bool}
use Rattle.std.proofs.lemmas.List.FromFn.{get_or-map-range_with_len, length-map-range_with_len, map-range_with_len_more}
use Rattle.std.proofs.lemmas.Nat.{div-mul-add, mod-mul-add}
use Rattle.bmp_math.specs.Sums.{sum_below}
use Rattle.bmp_math.proofs.SumLemmas.{sum_below_same, sum_below_more}
use Rattle.bmp_graph.specs.Graph.{Graph, IsGraph, IsAbove, vertex_count}
use Rattle.bmp_cover.specs.BradenMacPherson.{IsTopVertex}
use Rattle.bmp_cert.proofs.CountLemmas.{place_below}
use Rattle.bmp_cert.specs.Counts.{Written, part_of}
use Rattle.bmp_cert.specs.declared.cert.VertexPart.{VertexPart}
use Rattle.bmp_sheaf.specs.Sheaves.{SheafData}
use Rattle.bmp_sheaf.specs.Coordinates.{stalk_count, boundary_count}
use Rattle.bmp_sections.specs.Numbers.{is_above}
use Rattle.bmp_sections.specs.Positions.{position_count, equation_count}
use Rattle.bmp_sections.proofs.AboveLemmas.{above_from_test, test_from_above, above_is_closed, equation_count_is}
use Rattle.bmp_check.specs.PartsSheaf.{parts_sheaf}
use Rattle.bmp_check.specs.declared.method.Method.{Method}
use Rattle.bmp_check.specs.declared.method.Method.TheVariants.{Spaces, Levels}
use Rattle.bmp_check.specs.BlockData.{top_vertex, matrix_at, tuples_at}
use Rattle.bmp_check.proofs.TupleCountLemmas.{tuples_counted}
use Rattle.bmp_check.specs.Sizes.{counts_at}
use Rattle.bmp_check.specs.SizeLists.{MOST_SIZE, IsSizeList, AreSizes, size_in, size_numbers}
use Rattle.bmp_check.specs.SizeTables.{sum_above, AreSizesOf}
use Rattle.bmp_check.specs.declared.sizes.SizeTable.{SizeTable}
use Rattle.bmp_check.specs.declared.sizes.BlockSizes.{BlockSizes}

-- an answer that tells what is above is that of the test
pub above_test : (G : Graph) → IsGraph G → (x y : ℕ) (b : Bool) → (IsTrue b ↔ IsAbove G y x) → b ≡ is_above G x y
above_test G is x y b tells = elim (cases_Bool (is_above G x y)) [
  | inl above ↦ tells.1 (above_from_test G x y above) ∙ sym above
  | inr other ↦ elim (cases_Bool b) [
    | inl told ↦ absurd (true≢false (sym (test_from_above G is x y (tells.0 told)) ∙ other))
    | inr denied ↦ denied ∙ sym other
  ]
]

-- one vertex more in a sum over a set
pub sum_in_more : (U : ℕ → Bool) (f : ℕ → ℕ) (n sum : ℕ) → sum ≡ sum_below (λ y. cond (U y) (f y) 0) n →
    sum + cond (U n) (f n) 0 ≡ sum_below (λ y. cond (U y) (f y) 0) (n + 1)
sum_in_more U f n sum so_far = ap (λ z. z + cond (U n) (f n) 0) so_far
    ∙ sym (sum_below_more (λ y. cond (U y) (f y) 0) n)

pub sum_above_same : (G : Graph) (x : ℕ) (f g : ℕ → ℕ) → ((y : ℕ) → y < vertex_count G → f y ≡ g y) →
    sum_above G x f ≡ sum_above G x g
sum_above_same G x f g same =
    sum_below_same (λ y. cond (is_above G x y) (f y) 0) (λ y. cond (is_above G x y) (g y) 0) (vertex_count G)
    (λ y below. ap (λ z. cond (is_above G x y) z 0) (same y below))

-- one number more
pub size_numbers_more :
    (f : ℕ → ℕ → ℕ) (w k value : ℕ) (before after : List ℕ) →
    before ≡ size_numbers f w k → value ≡ f (k / w) (k % w) → after ≡ before ++ value ∷ [] →
    after ≡ size_numbers f w (k + 1)
size_numbers_more f w k value before after so_far is pushed =
    let entry : ℕ → ℕ = λ i. f (i / w) (i % w) in
    pushed ∙ ap₂ (λ (ns : List ℕ) (v : ℕ). ns ++ v ∷ []) so_far is
    ∙ sym (map-range_with_len_more entry 0 k k (omega arith))

-- a table that is full has the numbers that were written
module _ (f : ℕ → ℕ → ℕ) (v w k : ℕ) (numbers : List ℕ) (all : k ≡ v * w) (written : numbers ≡ size_numbers f w k) where
  pub full_list : v ≤ 4096 → w ≤ 7 → All (λ n. n ≤ MOST_SIZE) numbers →
      IsSizeList (record { vertices = v; width = w; numbers = numbers })
  full_list few narrow small = record {
    few = few;
    narrow = narrow;
    full = ap length written ∙ length-map-range_with_len (λ i. f (i / w) (i % w)) 0 k ∙ all;
    small = small;
  }

  pub full_sizes : (n D : ℕ) → v ≡ n → w ≡ D + 1 →
      AreSizes (record { vertices = v; width = w; numbers = numbers }) n D f
  full_sizes n D vertices width = record {
    vertices = vertices;
    width = width;
    numbers = λ x d vertex degree.
        let entry : ℕ → ℕ = λ i. f (i / w) (i % w) in
        let row : (x * w + d) / w ≡ x = div-mul-add x w d (omega arith) in
        let column : (x * w + d) % w ≡ d = mod-mul-add x w d (omega arith) in
        ap (λ (ns : List ℕ). get_or ns (x * w + d) 0) written
        ∙ get_or-map-range_with_len entry 0 k (x * w + d) (x * w + d) 0
        (omega (arith, all, place_below x v d w (omega arith) (omega arith))) (omega arith)
        ∙ ap₂ f row column;
  }

-- the stalk's size from the part
pub stalk_number :
    (G : Graph) (c : Written) (r x d size : ℕ) (part : VertexPart) → r ≡ G.rank → part ≡ part_of c x →
    size ≡ stalk_count r part.degrees d → size ≡ stalk_count G.rank ((parts_sheaf G c).degrees x) d
stalk_number G c r x d size part rank is counted =
    counted ∙ ap₂ (λ (q : ℕ) (v : VertexPart). stalk_count q v.degrees d) rank is

-- sizes that agree one by one
same_sizes : (k n : BlockSizes) → k.columns ≡ n.columns → k.rows ≡ n.rows → k.stalk ≡ n.stalk →
    k.boundary ≡ n.boundary → k.tuples ≡ n.tuples → k ≡ n
same_sizes k n p q r s t =
    ap₂ (λ (a b : ℕ). let made : BlockSizes = record {
      columns = a;
      rows = b;
      stalk = k.stalk;
      boundary = k.boundary;
      tuples = k.tuples;
    } in made) p q
    ∙ ap₂ (λ (a b : ℕ). let made : BlockSizes = record {
      columns = n.columns;
      rows = n.rows;
      stalk = a;
      boundary = b;
      tuples = k.tuples;
    } in made) r s
    ∙ ap (λ (a : ℕ). let made : BlockSizes = record {
      columns = n.columns;
      rows = n.rows;
      stalk = n.stalk;
      boundary = n.boundary;
      tuples = a;
    } in made) t

-- the sizes of a block from the table
module _ {G : Graph} {m : Method} {c : Written} {t : SizeTable} (of : AreSizesOf G m c t)
    (top : IsTopVertex G (top_vertex G)) (x d : ℕ) (vertex : x + 1 < vertex_count G) (degree : d ≤ c.degree) where
  abbrev F : SheafData
  F = parts_sheaf G c

  all_positions : sum_above G x (λ y. size_in t.stalks y d) ≡ position_count G F (is_above G x) d
  all_positions = sum_above_same G x (λ y. size_in t.stalks y d) (λ y. stalk_count G.rank (F.degrees y) d)
      (λ y below. of.stalks.numbers y d below degree)

  all_equations : IsGraph G → sum_above G x (λ y. size_in t.boundaries y d) ≡ equation_count G F (is_above G x) d
  all_equations is =
      sum_above_same G x (λ y. size_in t.boundaries y d) (λ y. boundary_count G F y d)
      (λ y below. of.boundaries.numbers y d below degree)
      ∙ sym (equation_count_is G F d (is_above G x) is (above_is_closed G is x))

  own_stalk : size_in t.stalks x d ≡ stalk_count G.rank (F.degrees x) d
  own_stalk = of.stalks.numbers x d (omega (arith, vertex)) degree

  own_boundary : size_in t.boundaries x d ≡ boundary_count G F x d
  own_boundary = of.boundaries.numbers x d (omega (arith, vertex)) degree

  own_tuples : get_or t.tuples.numbers.items (d * t.tuples.vertices + x) 0 ≡ (tuples_at G m c x d).count
  own_tuples =
      ap (λ n. get_or t.tuples.numbers.items (d * n + x) 0) of.tuples.vertices
      ∙ of.tuples.numbers.each x d (omega (arith, vertex)) (omega (arith, degree))
      ∙ tuples_counted G m c top x d vertex

  -- the place of the sections' number is in the list
  pub tuples_there : d * t.tuples.vertices + x < length t.tuples.numbers.items
  tuples_there =
      let n = vertex_count G in
      let row : d * n + x < (c.degree + 1) * n =
      place_below d (c.degree + 1) x n (omega (arith, degree)) (omega (arith, vertex)) in
      subst (λ k. d * k + x < length t.tuples.numbers.items) (sym of.tuples.vertices)
      (omega (arith, row, of.tuples.numbers.sized))

  -- what the kernel evidence is about, by the method
  pub spaces_columns : (n : ℕ) → m ≡ Spaces → n ≡ sum_above G x (λ y. size_in t.stalks y d) →
      n ≡ (matrix_at G m c x d).cols
  spaces_columns n is counted = subst (λ k. n ≡ (matrix_at G k c x d).cols) (sym is) (counted ∙ all_positions)

  pub spaces_rows : (n : ℕ) → IsGraph G → m ≡ Spaces → n ≡ sum_above G x (λ y. size_in t.boundaries y d) →
      n ≡ (matrix_at G m c x d).rows
  spaces_rows n graph is counted = subst (λ k. n ≡ (matrix_at G k c x d).rows) (sym is) (counted ∙ all_equations graph)

  pub levels_columns : (n : ℕ) → m ≡ Levels → n ≡ size_in t.stalks x d → n ≡ (matrix_at G m c x d).cols
  levels_columns n is counted = subst (λ k. n ≡ (matrix_at G k c x d).cols) (sym is) (counted ∙ own_stalk)

  pub levels_rows : (n : ℕ) → m ≡ Levels → n ≡ size_in t.boundaries x d → n ≡ (matrix_at G m c x d).rows
  levels_rows n is counted = subst (λ k. n ≡ (matrix_at G k c x d).rows) (sym is) (counted ∙ own_boundary)

  pub block_counts :
      (n : BlockSizes) → n.columns ≡ (matrix_at G m c x d).cols → n.rows ≡ (matrix_at G m c x d).rows →
      n.stalk ≡ size_in t.stalks x d → n.boundary ≡ size_in t.boundaries x d →
      n.tuples ≡ get_or t.tuples.numbers.items (d * t.tuples.vertices + x) 0 → n ≡ counts_at G m c x d
  block_counts n columns rows stalk boundary tuples =
      same_sizes n (counts_at G m c x d) columns rows (stalk ∙ own_stalk) (boundary ∙ own_boundary)
      (tuples ∙ own_tuples)
