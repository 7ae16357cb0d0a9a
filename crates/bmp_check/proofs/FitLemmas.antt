-- What sizes that pass say, and what follows for the evidence of a block and the lifts of a vertex.
use Rattle.std.proofs.Common.{◌≡◌, ◌≢◌, ℕ, zero, suc, ◌+◌, ◌-◌, ◌*◌, ◌<◌, ◌≤◌, Bool, true, false, cond, eqb, leb, List, [], ◌∷◌, ◌++◌, length, get_or, None, refl, sym, ap, subst, ◌∙◌, inl, inr, arith, eqb-true, leb-true, ne_eqb, true≢false}
use Rattle.std.specs.List.{All}
use Rattle.std.specs.List.Sorted.{IsNonDecreasing}
use Rattle.std.proofs.lemmas.Bool.{cases_Bool, cases_eq, cond-false}
use Rattle.std.proofs.lemmas.Option.{none-some}
use Rattle.std.proofs.lemmas.List.Elements.{All-nil, All-cons, All-weaker, All-get_or}
use Rattle.bmp_text.specs.Printing.{ChainFits}
use Rattle.bmp_linear.specs.declared.vector.Entry.{Entry}
use Rattle.bmp_linear.specs.declared.blocks.DegreeBlock.{DegreeBlock}
use Rattle.bmp_linear.specs.SparseVectors.{IsRising, IsSparse, FitsBelow, ValuesBelow}
use Rattle.bmp_graph.specs.Graph.{Graph, vertex_count}
use Rattle.bmp_cert.specs.Counts.{Written, part_of, generator_count}
use Rattle.bmp_cert.specs.VectorGrammar.{IsEntry, behind_place, IsVector, AreVectors}
use Rattle.bmp_cert.specs.BlockGrammar.{IsBlock}
use Rattle.bmp_cert.specs.CertGrammar.{from_degree, AreDegrees, IsPart, HavePartLines}
use Rattle.bmp_cert.proofs.RowLemmas.{all_from_chain}
use Rattle.bmp_check.specs.Comparisons.{first_failure}
use Rattle.bmp_check.specs.declared.method.Method.{Method}
use Rattle.bmp_check.specs.declared.method.Method.TheVariants.{Spaces, Levels}
use Rattle.bmp_check.specs.declared.sizes.BlockSizes.{BlockSizes}
use Rattle.bmp_check.specs.Methods.{method_of}
use Rattle.bmp_check.specs.BlockData.{block_of}
use Rattle.bmp_check.specs.Sizes.{Size, is, listed, lift_size, vertex_sizes, each_at_most, counts_at, largest, limit, pivot_sizes, kernel_sizes, cover_sizes, last_size, block_sizes, shape_sizes, size_comparison, numbered}
use Rattle.bmp_check.specs.Verdicts.{HasBlock, CountPasses, ShapePasses}
use Rattle.bmp_check.specs.Fits.{IsVectorIn, DegreesFit, VertexFits, EvidenceIn, BlockFits, ShapesFit, ShapeGivesFits}
use Rattle.bmp_check.proofs.NeedLemmas.{fits_from_need, below_from_need}
use Rattle.bmp_check.proofs.SizeCheckLemmas.{first_passes, first_fails}
use Rattle.bmp_check.proofs.ShapeLemmas.{sizes_first, sizes_later}
use Rattle.bmp_check.proofs.FormLemmas.{part_formed, degrees_formed, degrees_most, vectors_below, pivots_rise, block_formed}

-- ---- sizes that pass

abbrev Holds : Bool → ℕ → ℕ → Type 0
Holds true m n = m ≡ n
Holds false m n = m ≤ n

abbrev AllHold : List Size → Type 0
AllHold [] = Unit {0}
AllHold (s ∷ ss) = Holds s.exact s.left s.right × AllHold ss

holds : (exact : Bool) (m n : ℕ) → cond exact (eqb m n) (leb m n) ≡ true → Holds exact m n
holds true m n passes = eqb-true m n passes
holds false m n passes = leb-true m n passes

all_hold : (x d : ℕ) (sizes : List Size) (i : ℕ) → first_failure (numbered x d i sizes) ≡ None → AllHold sizes
all_hold x d [] i none = tt
all_hold x d (s ∷ ss) i none = elim (cases_Bool (size_comparison x d i s).passes) [
  | inl passes ↦ (
    holds s.exact s.left s.right passes,
    all_hold x d ss (i + 1) (sym (first_passes (size_comparison x d i s) (numbered x d (i + 1) ss) passes) ∙ none),
  )
  | inr fails ↦ absurd
      (none-some (size_comparison x d i s).refusal
      (sym none ∙ first_fails (size_comparison x d i s) (numbered x d (i + 1) ss) fails))
]

hold-append : (a b : List Size) → AllHold (a ++ b) → AllHold a × AllHold b
hold-append [] b h = (tt, h)
hold-append (s ∷ a) b h = let rest = hold-append a b h.1 in ((h.0, rest.0), rest.1)

each_fits : (vs : List (List Entry)) (n : ℕ) → AllHold (each_at_most vs n) → All (λ v. FitsBelow v n) vs
each_fits [] n h = All-nil (λ (v : List Entry). FitsBelow v n)
each_fits (v ∷ vs) n h = All-cons (λ (w : List Entry). FitsBelow w n) v vs (fits_from_need v n h.0) (each_fits vs n h.1)

listed_holds : (f : ℕ → Size) (n i : ℕ) → AllHold (listed f n) → i < n → Holds (f i).exact (f i).left (f i).right
listed_holds f zero i h within = absurd (omega arith)
listed_holds f (suc n) i h within =
    let parts = hold-append (listed f n) (f n ∷ []) h in
    elim (cases_eq n i) [
      | inl last ↦ subst (λ k. Holds (f k).exact (f k).left (f k).right) last parts.1.0
      | inr other ↦ listed_holds f n i parts.0 (omega arith)
    ]

-- ---- vectors and degrees of the grammar

module _ (most : ℕ) where
  entries_rise : (v : List Entry) (next : ℕ) → ChainFits (IsEntry most) behind_place next v → IsRising v ×
      All (λ e. next ≤ e.place) v
  entries_rise [] next chain = (tt, All-nil (λ (e : Entry). next ≤ e.place))
  entries_rise (e ∷ v) next chain =
      let rest = entries_rise v (e.place + 1) chain.1 in
      let above : next ≤ e.place = chain.0.0 in (
        (
          All-weaker (λ (d : Entry). e.place + 1 ≤ d.place) (λ (d : Entry). e.place < d.place) (λ d le. omega arith) v
              rest.1,
          rest.0,
        ),
        All-cons (λ (d : Entry). next ≤ d.place) e v above
            (All-weaker (λ (d : Entry). e.place + 1 ≤ d.place) (λ (d : Entry). next ≤ d.place) (λ d le. omega arith) v
            rest.1),
      )

  entries_not_zero : (v : List Entry) (next : ℕ) → ChainFits (IsEntry most) behind_place next v →
      All (λ e. e.value ≢ 0) v
  entries_not_zero [] next chain = All-nil (λ (e : Entry). e.value ≢ 0)
  entries_not_zero (e ∷ v) next chain =
      All-cons (λ (d : Entry). d.value ≢ 0) e v (let some : 1 ≤ e.value = chain.0.2 in λ none. omega arith)
      (entries_not_zero v (e.place + 1) chain.1)

  vectors_sparse : (count : ℕ) (vs : List (List Entry)) → AreVectors most count vs → All IsSparse vs
  vectors_sparse count vs h =
      All-weaker (IsVector most) IsSparse
      (λ v is_vector. record {
        rising = (entries_rise v 0 is_vector.1).0;
        not_zero = entries_not_zero v 0 is_vector.1;
      }) vs (all_from_chain (IsVector most) vs h.1)

  vectors_in : (p n count : ℕ) (vs : List (List Entry)) → most ≡ p - 1 → AreVectors most count vs →
      All (λ v. FitsBelow v n) vs → All (IsVectorIn p n) vs
  vectors_in p n count vs is h fits k v within = record {
    sparse = vectors_sparse count vs h k v within;
    fits = fits k v within;
    below = vectors_below most p count is vs h k v within;
  }

  degrees_from : (es : List ℕ) (low : ℕ) → ChainFits (λ (b e : ℕ). (b ≤ e) × (e ≤ most)) from_degree low es →
      All (λ e. low ≤ e) es
  degrees_from [] low chain = All-nil (λ e. low ≤ e)
  degrees_from (e ∷ es) low chain =
      let above : low ≤ e = chain.0.0 in
      All-cons (λ d. low ≤ d) e es above
      (All-weaker (λ d. e ≤ d) (λ d. low ≤ d) (λ d le. omega arith) es (degrees_from es e chain.1))

  degrees_rise : (es : List ℕ) (low : ℕ) → ChainFits (λ (b e : ℕ). (b ≤ e) × (e ≤ most)) from_degree low es →
      IsNonDecreasing es
  degrees_rise [] low chain i j d le within = absurd (omega arith)
  degrees_rise (e ∷ es) low chain zero zero d le within = omega arith
  degrees_rise (e ∷ es) low chain zero (suc j) d le within =
      All-get_or (λ a. e ≤ a) es j d (omega arith) (degrees_from es e chain.1)
  degrees_rise (e ∷ es) low chain (suc i) zero d le within = absurd (omega arith)
  degrees_rise (e ∷ es) low chain (suc i) (suc j) d le within =
      degrees_rise es e chain.1 i j d (omega arith) (omega arith)

  degrees_fit : (es : List ℕ) → AreDegrees most es → DegreesFit most es
  degrees_fit es h = record { rising = degrees_rise es 0 h.1; most = degrees_most most es h }

-- ---- a vertex and a block

abbrev by_levels : Method → Bool
by_levels Spaces = false
by_levels Levels = true

-- evidence by whole spaces is of version 1
spaces_version : (v : ℕ) → method_of v ≡ Spaces → v ≡ 1
spaces_version v is = elim (cases_eq v 1) [
  | inl first ↦ first
  | inr other ↦ absurd
      (true≢false (sym (ap by_levels (sym is ∙ cond-false {A = Method} (eqb v 1) Spaces Levels (ne_eqb v 1 other)))))
]

module _ (G : Graph) {v : ℕ} (c : Written) (formed : HavePartLines v (G.prime - 1) c.degree c.parts)
    (counted : CountPasses G c) where
  abbrev least : ℕ
  least = G.prime - 1

  part_here : (x : ℕ) → x + 1 < vertex_count G → IsPart v least c.degree x (part_of c x)
  part_here x vertex = part_formed least c formed x (omega (arith, counted))

  module _ (x d : ℕ) (block : HasBlock G c x d) where
    abbrev b : DegreeBlock
    b = block_of c x d

    text : IsBlock v least (generator_count c x) d b
    text = block_formed least (c.degree + 1) _ (part_of c x).blocks d (part_here x block.0).blocks
        (omega (arith, block.1))

    -- vectors of the grammar whose sizes hold
    in_sizes :
        (n : BlockSizes) → AllHold (pivot_sizes n b.kernel) → AllHold (kernel_sizes n b.kernel) →
        AllHold (cover_sizes n b.cover) →
        length b.cover.covers ≡ n.tuples → largest n ≤ limit → EvidenceIn G.prime n (generator_count c x d) b
    in_sizes n pivots kernel cover as_many most =
        let vectors = hold-append (each_at_most b.kernel.basis n.columns) (each_at_most b.kernel.rows n.rows) kernel in
        let covers = hold-append (each_at_most b.cover.covers n.stalk)
        (each_at_most b.cover.sources n.tuples ++ each_at_most b.cover.duals n.boundary) cover in
        let others = hold-append (each_at_most b.cover.sources n.tuples) (each_at_most b.cover.duals n.boundary)
        covers.1 in
        record {
          kernel = record {
            pivots_rise = pivots_rise (length b.kernel.pivots) b.kernel.pivots text.pivots;
            pivots_below = below_from_need b.kernel.pivots n.columns pivots.1.0;
            row_for_each = text.rows.0;
            in_all = pivots.0;
            basis_fits = each_fits b.kernel.basis n.columns vectors.0;
            rows_fit = each_fits b.kernel.rows n.rows vectors.1;
          };
          kernel_below = record {
            basis_below = vectors_below least G.prime (length b.kernel.basis) refl b.kernel.basis text.basis;
            rows_below = vectors_below least G.prime (length b.kernel.pivots) refl b.kernel.rows text.rows;
          };
          basis_sparse = vectors_sparse least (length b.kernel.basis) b.kernel.basis text.basis;
          rows_sparse = vectors_sparse least (length b.kernel.pivots) b.kernel.rows text.rows;
          cover_for_each = as_many;
          source_for_each = text.sources.0;
          dual_for_each = text.duals.0;
          covers = vectors_in least G.prime n.stalk (length b.cover.covers) b.cover.covers refl text.covers
              (each_fits b.cover.covers n.stalk covers.0);
          sources = vectors_in least G.prime n.tuples (generator_count c x d) b.cover.sources refl text.sources
              (each_fits b.cover.sources n.tuples others.0);
          duals = vectors_in least G.prime n.boundary (generator_count c x d) b.cover.duals refl text.duals
              (each_fits b.cover.duals n.boundary others.1);
          few = omega arith;
        }

    -- by whole spaces the grammar has a cover for each section; by levels their number is compared
    block_fits : (m : Method) → (m ≡ Spaces → v ≡ 1) → AllHold (block_sizes G m c x d) → BlockFits G m c x d
    block_fits Spaces first h =
        let n = counts_at G Spaces c x d in
        let pivots = hold-append (pivot_sizes n b.kernel)
        (kernel_sizes n b.kernel ++ (cover_sizes n b.cover ++ last_size n)) h in
        let kernel = hold-append (kernel_sizes n b.kernel) (cover_sizes n b.cover ++ last_size n) pivots.1 in
        let cover = hold-append (cover_sizes n b.cover) (last_size n) kernel.1 in
        in_sizes n pivots.0 kernel.0 cover.0 (text.as_many (first refl)) cover.1.0
    block_fits Levels first h =
        let n = counts_at G Levels c x d in
        let pivots = hold-append (pivot_sizes n b.kernel)
        (cover_sizes n b.cover ++ (kernel_sizes n b.kernel ++ last_size n)) h.1 in
        let cover = hold-append (cover_sizes n b.cover) (kernel_sizes n b.kernel ++ last_size n) pivots.1 in
        let kernel = hold-append (kernel_sizes n b.kernel) (last_size n) cover.1 in
        in_sizes n pivots.0 kernel.0 cover.0 h.0 kernel.1.0

  module _ (passes : ShapePasses G (method_of v) c) where
    abbrev m : Method
    m = method_of v

    all_sizes : (x d : ℕ) → HasBlock G c x d → AllHold (shape_sizes G m c x d)
    all_sizes x d block = all_hold x d (shape_sizes G m c x d) 0 (passes x d block)

    first_sizes : (x : ℕ) → x + 1 < vertex_count G → AllHold (vertex_sizes G c x ++ block_sizes G m c x 0)
    first_sizes x vertex = subst AllHold (sizes_first G m c x 0 refl) (all_sizes x 0 (vertex, omega arith))

    own_sizes : (x d : ℕ) → HasBlock G c x d → AllHold (block_sizes G m c x d)
    own_sizes x d block = elim (cases_eq d 0) [
      | inl first ↦
          (hold-append (vertex_sizes G c x) (block_sizes G m c x d)
          (subst AllHold (sizes_first G m c x d first) (all_sizes x d block))).1
      | inr later ↦ subst AllHold (sizes_later G m c x d later) (all_sizes x d block)
    ]

    vertex_fits : (x : ℕ) → x + 1 < vertex_count G → VertexFits G c x
    vertex_fits x vertex =
        let part = part_of c x in
        let of = part_here x vertex in
        let sizes = (hold-append (vertex_sizes G c x) (block_sizes G m c x 0) (first_sizes x vertex)).0 in
        record {
          degrees = degrees_fit c.degree part.degrees of.degrees;
          edges = sizes.0;
          lift_for_each = of.lifts.0 ∙ ap (λ k. k * length part.degrees) sizes.0;
          lifts = λ i within. record {
            sparse = All-get_or IsSparse part.lifts i [] within
                (vectors_sparse least (part.edges * length part.degrees) part.lifts of.lifts);
            fits = fits_from_need (get_or part.lifts i []) (lift_size G c x i).right
                (listed_holds (lift_size G c x) (length part.lifts) i sizes.1 within);
            below = All-get_or (λ v. ValuesBelow v G.prime) part.lifts i [] within
                (vectors_below least G.prime (part.edges * length part.degrees) refl part.lifts of.lifts);
          };
        }

    pub shapes_fit : ShapesFit G m c
    shapes_fit = record {
      top = degrees_fit c.degree (part_of c (vertex_count G - 1)).degrees
          (degrees_formed least c formed (vertex_count G - 1) (omega (arith, formed.some, counted)));
      vertices = vertex_fits;
      there = λ x d block. let all = (part_here x block.0).blocks.0 in omega (arith, all, block.1);
      blocks = λ x d block. block_fits x d block m (spaces_version v) (own_sizes x d block);
    }

pub shape_fits : ShapeGivesFits
shape_fits G v c formed counted passes = shapes_fit G c formed counted passes
