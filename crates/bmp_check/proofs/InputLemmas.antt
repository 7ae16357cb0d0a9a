-- What the checks of a block are given, and what they answer, of the sheaf in memory and of the written one.
use Rattle.std.proofs.Common.{◌≡◌, ◌≢◌, ◌↔◌, ℕ, ◌+◌, ◌<◌, ◌≤◌, ◌^◌, List, [], length, get_or, refl, sym, ap, ap₂, subst, ◌∙◌, arith}
use Rattle.std.specs.List.{All}
use Rattle.std.proofs.lemmas.List.Elements.{All-weaker, All-get_or}
use Rattle.bmp_field.specs.declared.prime.PrimeField.{PrimeField}
use Rattle.bmp_math.specs.Matrices.{Matrix, NumbersBelow}
use Rattle.bmp_linear.specs.declared.vector.Entry.{Entry}
use Rattle.bmp_linear.specs.declared.evidence.KernelEvidence.{KernelEvidence}
use Rattle.bmp_linear.specs.declared.blocks.DegreeBlock.{DegreeBlock}
use Rattle.bmp_linear.specs.SparseVectors.{FitsBelow, ValuesBelow}
use Rattle.bmp_linear.specs.Evidence.{EvidenceFits, EvidenceBelow}
use Rattle.bmp_linear.proofs.SparseLemmas.{number_at-below}
use Rattle.bmp_graph.specs.Graph.{Graph, vertex_count}
use Rattle.bmp_sheaf.specs.Fields.{IsOverField}
use Rattle.bmp_sheaf.specs.Sheaves.{SheafData}
use Rattle.bmp_sheaf.specs.Coordinates.{stalk_count, boundary_count}
use Rattle.bmp_sheaf.specs.Numbers.{boundary_matrix}
use Rattle.bmp_sheaf.specs.States.{SheafState, IsRoom, sheaf_of}
use Rattle.bmp_sections.specs.Numbers.{is_above, equation_matrix}
use Rattle.bmp_sections.specs.Positions.{position_start}
use Rattle.bmp_sections.specs.TupleLists.{TupleList, tuples_over}
use Rattle.bmp_sections.specs.Indexes.{HasRoom}
use Rattle.bmp_sections.proofs.EquationNumbers.{equation_matrix_below}
use Rattle.bmp_sheaf.proofs.BoundaryMaps.{boundary_numbers_below}
use Rattle.bmp_cover.specs.CoverChecks.{CoverCompares, CoverPasses, IsFirstCoverFailure}
use Rattle.bmp_cover.specs.declared.fault.CoverFault.{CoverFault}
use Rattle.bmp_linear.specs.declared.fault.RowFault.{RowFault}
use Rattle.bmp_cover.specs.CoverInputs.{HasStalks, HasTuples, CoverFits}
use Rattle.bmp_cover.specs.Counts.{generators_in}
use Rattle.bmp_cert.specs.Counts.{Written, part_of}
use Rattle.bmp_cert.specs.declared.cert.VertexPart.{VertexPart}
use Rattle.bmp_check.specs.declared.given.Given.{Given}
use Rattle.bmp_check.specs.declared.method.Method.{Method}
use Rattle.bmp_check.specs.declared.method.Method.TheVariants.{Spaces, Levels}
use Rattle.bmp_check.specs.declared.scratch.BlockScratch.{BlockScratch}
use Rattle.bmp_check.specs.declared.sizes.SizeTable.{SizeTable}
use Rattle.bmp_check.specs.Methods.{method_of}
use Rattle.bmp_check.specs.BlockData.{no_block, block_of, matrix_at, tuples_at}
use Rattle.bmp_check.specs.Fits.{IsVectorIn, ShapesFit, BlockFits}
use Rattle.bmp_check.specs.Shaped.{IsSheafOf, IsShaped, HasWidth, IsRoomFor}
use Rattle.bmp_check.specs.ShapedViews.{written_in}
use Rattle.bmp_check.specs.PartsSheaf.{parts_sheaf}
use Rattle.bmp_check.specs.Sizes.{counts_at}
use Rattle.bmp_check.specs.Verdicts.{HasBlock, CountPasses, kernel_refusal, CoverComparesAt}
use Rattle.bmp_check.specs.declared.refusal.Refusal.{Refusal}
use Rattle.bmp_check.proofs.CheckableLemmas.{over_field}
use Rattle.bmp_check.proofs.FitLemmas.{shapes_fit}
use Rattle.bmp_check.proofs.SheafLemmas.{in_memory, as_written, is_there, above_is_there}

-- the block of x and d, beside the sheaf s in memory
pub record IsAtBlock (G : Graph) (m : Method) (c : Written) {F : Type 0} (s : SheafState F) (x d : ℕ) : Type 0 where
  pub over : IsOverField G
  pub counted : CountPasses G c
  pub of : IsSheafOf G c s
  pub block : HasBlock G c x d
  pub there : d < length (part_of c x).blocks
  pub fits : BlockFits G m c x d

pub at_block :
    {G : Graph} {v : ℕ} {c : Written} {t : SizeTable} {F : Type 0} {s : SheafState F} (whole : IsShaped G v c t s)
    (x d : ℕ) →
    HasBlock G c x d → IsAtBlock G (method_of v) c s x d
at_block {G = G} {v = v} {c = c} whole x d block =
    let fits : ShapesFit G (method_of v) c = shapes_fit G c whole.checkable.formed whole.count whole.shape in
    record {
      over = over_field whole.checkable.on;
      counted = whole.count;
      of = whole.sheaf;
      block = block;
      there = fits.there x d block;
      fits = fits.blocks x d block;
    }

-- of an equal method and an equal sheaf
pub read_at : {G : Graph} {m k : Method} {c : Written} {F : Type 0} {s t : SheafState F} {x d : ℕ} → m ≡ k → t ≡ s →
    IsAtBlock G m c s x d → IsAtBlock G k c t x d
read_at {G = G} {m = m} {k = k} {c = c} {F = F} {s = s} {t = t} {x = x} {d = d} method sheaf at =
    subst (λ (n : Method). IsAtBlock G n c t x d) method
    (subst (λ (u : SheafState F). IsAtBlock G m c u x d) (sym sheaf) at)

-- rows and tuples over equal sheaves
pub equations_read :
    {F : Type 0} {s t : SheafState F} {x y d e : ℕ} → t ≡ s → y ≡ x → e ≡ d → equation_matrix t.graph (sheaf_of t) y e
    ≡ equation_matrix s.graph (sheaf_of s) x d
equations_read {F = F} {s = s} {t = t} {x = x} {y = y} {d = d} {e = e} sheaf vertex degree =
    ap (λ (u : SheafState F). equation_matrix u.graph (sheaf_of u) y e) sheaf
    ∙ ap₂ (λ (a b : ℕ). equation_matrix s.graph (sheaf_of s) a b) vertex degree

pub boundaries_read :
    {F : Type 0} {s t : SheafState F} {x y d e : ℕ} → t ≡ s → y ≡ x → e ≡ d → boundary_matrix t.graph (sheaf_of t) y e
    ≡ boundary_matrix s.graph (sheaf_of s) x d
boundaries_read {F = F} {s = s} {t = t} {x = x} {y = y} {d = d} {e = e} sheaf vertex degree =
    ap (λ (u : SheafState F). boundary_matrix u.graph (sheaf_of u) y e) sheaf
    ∙ ap₂ (λ (a b : ℕ). boundary_matrix s.graph (sheaf_of s) a b) vertex degree

pub tuples_read :
    {F : Type 0} {s t : SheafState F} {x y d e : ℕ} {vs ws : List (List Entry)} → t ≡ s → y ≡ x → e ≡ d → ws ≡ vs →
    tuples_over t.graph (sheaf_of t) y e ws ≡ tuples_over s.graph (sheaf_of s) x d vs
tuples_read {F = F} {s = s} {t = t} {x = x} {y = y} {d = d} {e = e} {vs = vs} {ws = ws} sheaf vertex degree vectors =
    ap (λ (u : SheafState F). tuples_over u.graph (sheaf_of u) y e ws) sheaf
    ∙ ap₂ (λ (a b : ℕ). tuples_over s.graph (sheaf_of s) a b ws) vertex degree
    ∙ ap (λ (us : List (List Entry)). tuples_over s.graph (sheaf_of s) x d us) vectors

-- the block as it is read
module _ {g given : Given} {part : VertexPart} (x d : ℕ) (given_is : g ≡ given)
    (part_is : part ≡ part_of (written_in g) x) where
  part_same : part ≡ part_of (written_in given) x
  part_same = part_is ∙ ap (λ (e : Given). part_of (written_in e) x) given_is

  pub read_there : d < length (part_of (written_in given) x).blocks → d < length part.blocks
  read_there there = subst (λ (v : VertexPart). d < length v.blocks) (sym part_same) there

  pub read_block : {own : DegreeBlock} → own ≡ get_or part.blocks d no_block → own ≡ block_of (written_in given) x d
  read_block own_is = own_is ∙ ap (λ (v : VertexPart). get_or v.blocks d no_block) part_same

-- the two numbers of a refusal are those of the comparison
pub kernel_differs :
    (m : Method) (c : Written) (x d : ℕ) (fault : RowFault) (r : Refusal) → r ≡ kernel_refusal m c x d fault →
    fault.left ≢ fault.right → r.left ≢ r.right
kernel_differs Spaces c x d fault r refusal differs same =
    differs (sym (ap (λ (q : Refusal). q.left) refusal) ∙ same ∙ ap (λ (q : Refusal). q.right) refusal)
kernel_differs Levels c x d fault r refusal differs same =
    differs (sym (ap (λ (q : Refusal). q.left) refusal) ∙ same ∙ ap (λ (q : Refusal). q.right) refusal)

-- the prime of the field as it is read
pub field_prime : {f own : PrimeField} {s t : SheafState PrimeField} {p : ℕ} → f ≡ own → own.prime ≡ s.graph.prime →
    s ≡ t → t.graph.prime ≡ p → f.prime ≡ p
field_prime field size same is = ap (λ (e : PrimeField). e.prime) field ∙ size
    ∙ ap (λ (u : SheafState PrimeField). u.graph.prime) same ∙ is

-- the numbers of what the kernel evidence is about are below the prime
numbers_below : (G : Graph) (m : Method) (c : Written) (x d : ℕ) → IsOverField G →
    NumbersBelow G.prime (matrix_at G m c x d)
numbers_below G Spaces c x d over = equation_matrix_below G (parts_sheaf G c) x d over
numbers_below G Levels c x d over = boundary_numbers_below G over (parts_sheaf G c) x d

module _ {G : Graph} {m : Method} {c : Written} {F : Type 0} {s : SheafState F} {x d : ℕ} (at : IsAtBlock G m c s x d)
  where
    -- from what is written to what is in memory, and back
    pub to_memory : (P : Graph → SheafData → Type 0) → P G (parts_sheaf G c) → P s.graph (sheaf_of s)
    to_memory = in_memory G c at.counted s at.of

    pub to_written : (P : Graph → SheafData → Type 0) → P s.graph (sheaf_of s) → P G (parts_sheaf G c)
    to_written = as_written G c at.counted s at.of

    pub prime_is : s.graph.prime ≡ G.prime
    prime_is = ap (λ (H : Graph). H.prime) at.of.graph

    pub has_stalks : HasStalks s x d
    has_stalks =
        let few = at.fits.few in
        let vertex : x < vertex_count G = omega (arith, at.block.0) in
        record {
          there = is_there G c at.counted s at.of x vertex;
          above = above_is_there G c at.counted s at.of at.over.is_graph x;
          degree = omega (arith, at.block.1, at.of.degree);
          few = to_memory (λ (H : Graph) (S : SheafData). stalk_count H.rank (S.degrees x) d < 2 ^ 32)
              (omega (arith, few));
          few_on_boundary =
              to_memory (λ (H : Graph) (S : SheafData). boundary_count H S x d < 2 ^ 32) (omega (arith, few));
        }

    -- the kernel evidence: M and own are those of the check
    module _ {M : Matrix} {own : DegreeBlock} (matrix : M ≡ matrix_at G m c x d) (is : own ≡ block_of c x d) where
      pub kernel_numbers : NumbersBelow G.prime M
      kernel_numbers = subst (λ (n : Matrix). NumbersBelow G.prime n) (sym matrix) (numbers_below G m c x d at.over)

      pub kernel_fits : EvidenceFits own.kernel M.rows M.cols
      kernel_fits =
          subst (λ (n : Matrix). EvidenceFits own.kernel n.rows n.cols) (sym matrix)
          (subst (λ (b : DegreeBlock). EvidenceFits b.kernel (matrix_at G m c x d).rows (matrix_at G m c x d).cols)
          (sym is) at.fits.kernel)

      pub kernel_below : EvidenceBelow own.kernel G.prime
      kernel_below = subst (λ (b : DegreeBlock). EvidenceBelow b.kernel G.prime) (sym is) at.fits.kernel_below

      pub kernel_room : (n : ℕ) → HasWidth G m c n → M.cols ≤ n
      kernel_room n width =
          let all = width.sizes x d at.block in
          subst (λ (k : Matrix). k.cols ≤ n) (sym matrix) (omega (arith, all))

      pub kernel_as : {p : ℕ} → p ≡ G.prime → (P : ℕ → Matrix → KernelEvidence → Type 0) → P p M own.kernel →
          P G.prime (matrix_at G m c x d) (block_of c x d).kernel
      kernel_as {p = p} prime P h =
          subst (λ q. P q (matrix_at G m c x d) (block_of c x d).kernel) prime
          (subst (λ (n : Matrix). P p n (block_of c x d).kernel) matrix
          (subst (λ (b : DegreeBlock). P p M b.kernel) is h))

    -- the cover evidence, for so many tuples
    module _ {count : ℕ} {own : DegreeBlock} (is : own ≡ block_of c x d) (as_many : count ≡ (tuples_at G m c x d).count)
      where
        all_fit : (n : ℕ) (vs : List (List Entry)) → All (IsVectorIn G.prime n) vs → All (λ v. FitsBelow v n) vs
        all_fit n vs h = All-weaker (IsVectorIn G.prime n) (λ (v : List Entry). FitsBelow v n) (λ v in_it. in_it.fits)
            vs h

        all_below : (n : ℕ) (vs : List (List Entry)) → All (IsVectorIn G.prime n) vs →
            All (λ v. ValuesBelow v s.graph.prime) vs
        all_below n vs h =
            subst (λ p. All (λ (v : List Entry). ValuesBelow v p) vs) (sym prime_is)
            (All-weaker (IsVectorIn G.prime n) (λ (v : List Entry). ValuesBelow v G.prime) (λ v in_it. in_it.below) vs
            h)

        written_fits : CoverFits s x d (tuples_at G m c x d).count (block_of c x d).cover
        written_fits =
            let b = block_of c x d in
            let n = counts_at G m c x d in
            let fits = at.fits in
            record {
              covers = fits.cover_for_each;
              sources = to_memory (λ (H : Graph) (S : SheafData). length b.cover.sources ≡ generators_in S x d)
                  fits.source_for_each;
              duals = to_memory (λ (H : Graph) (S : SheafData). length b.cover.duals ≡ generators_in S x d)
                  fits.dual_for_each;
              covers_fit = to_memory
                  (λ (H : Graph) (S : SheafData). All (λ v. FitsBelow v (stalk_count H.rank (S.degrees x) d))
                  b.cover.covers) (all_fit n.stalk b.cover.covers fits.covers);
              sources_fit = all_fit n.tuples b.cover.sources fits.sources;
              duals_fit = to_memory
                  (λ (H : Graph) (S : SheafData). All (λ v. FitsBelow v (boundary_count H S x d)) b.cover.duals)
                  (all_fit n.boundary b.cover.duals fits.duals);
              covers_below = all_below n.stalk b.cover.covers fits.covers;
              sources_below = all_below n.tuples b.cover.sources fits.sources;
              duals_below = all_below n.boundary b.cover.duals fits.duals;
            }

        pub cover_fits : CoverFits s x d count own.cover
        cover_fits =
            subst (λ k. CoverFits s x d k own.cover) (sym as_many)
            (subst (λ (b : DegreeBlock). CoverFits s x d (tuples_at G m c x d).count b.cover) (sym is) written_fits)

    -- what is compared in memory is compared with what is written
    module _ {own : DegreeBlock} (is : own ≡ block_of c x d) {t : SheafState F} (sheaf : t ≡ s) {list : TupleList}
        (same : (r : CoverFault) → CoverCompares G (parts_sheaf G c) x d list (block_of c x d).cover r ↔
        CoverComparesAt G m c x d r) where
      abbrev in_check : CoverFault → Type 0
      in_check = CoverCompares t.graph (sheaf_of t) x d list own.cover

      as_checked : (P : (CoverFault → Type 0) → Type 0) → P in_check →
          P (CoverCompares G (parts_sheaf G c) x d list (block_of c x d).cover)
      as_checked P h =
          to_written (λ (H : Graph) (S : SheafData). P (CoverCompares H S x d list (block_of c x d).cover))
          (subst (λ (u : SheafState F). P (CoverCompares u.graph (sheaf_of u) x d list (block_of c x d).cover)) sheaf
          (subst (λ (b : DegreeBlock). P (CoverCompares t.graph (sheaf_of t) x d list b.cover)) is h))

      pub cover_passes : CoverPasses in_check → CoverPasses (CoverComparesAt G m c x d)
      cover_passes h = let passes = as_checked CoverPasses h in λ r compared. passes r ((same r).1 compared)

      pub cover_first : (fault : CoverFault) → IsFirstCoverFailure in_check fault →
          IsFirstCoverFailure (CoverComparesAt G m c x d) fault
      cover_first fault h =
          let first = as_checked (λ (Compares : CoverFault → Type 0). IsFirstCoverFailure Compares fault) h in
          record {
            compared = (same fault).0 first.compared;
            differs = first.differs;
            earlier = λ r compared before. first.earlier r ((same r).1 compared) before;
          }

    pub cover_room : (n : ℕ) → HasWidth G m c n → IsRoom s d n
    cover_room n width y there =
        let vertex : y < vertex_count G = omega (arith, there.0, ap (λ (H : Graph). vertex_count H) at.of.graph) in
        let stalk = width.stalks y d vertex at.block.1 in
        let boundary = width.boundaries y d vertex at.block.1 in
        to_memory (λ (H : Graph) (S : SheafData). (stalk_count H.rank (S.degrees y) d ≤ n) ×
        (boundary_count H S y d ≤ n))
        (stalk, boundary)

-- ---- by whole spaces

module _ {G : Graph} {c : Written} {F : Type 0} {s : SheafState F} {x d : ℕ} (at : IsAtBlock G Spaces c s x d) where
  pub has_room : (scratch : BlockScratch) → IsRoomFor G Spaces c scratch →
      HasRoom s.graph (sheaf_of s) x d scratch.index
  has_room scratch room =
      let few = at.fits.few in
      to_memory at (λ (H : Graph) (S : SheafData). HasRoom H S x d scratch.index)
      (record {
        vertices = room.vertices refl;
        equations = room.equations refl x d at.block;
        few_positions = omega (arith, few);
        few_equations = omega (arith, few);
      })

  -- the sections of the kernel evidence as tuples of the sheaf in memory
  module _ {own : DegreeBlock} (is : own ≡ block_of c x d) {L : TupleList}
      (list : L ≡ tuples_over s.graph (sheaf_of s) x d own.kernel.basis) where
    basis_below : All (λ v. ValuesBelow v s.graph.prime) own.kernel.basis
    basis_below =
        subst (λ q. All (λ (v : List Entry). ValuesBelow v q) own.kernel.basis) (sym (prime_is at))
        (subst (λ (b : DegreeBlock). All (λ (v : List Entry). ValuesBelow v G.prime) b.kernel.basis)
        (sym is) at.fits.kernel_below.basis_below)

    pub has_tuples : HasTuples s x d L
    has_tuples =
        let two : 2 ≤ s.graph.prime = subst (λ p. 2 ≤ p) (sym (prime_is at)) at.over.two in
        subst (λ (l : TupleList). HasTuples s x d l) (sym list)
        (λ y above. record {
          has = above;
          size = refl;
          below = λ j k tuple inside.
              number_at-below (get_or own.kernel.basis j []) s.graph.prime
              (position_start s.graph (sheaf_of s) (is_above s.graph x) d y + k) (omega (arith, two))
              (All-get_or (λ (v : List Entry). ValuesBelow v s.graph.prime) own.kernel.basis j [] tuple basis_below);
        })

    pub tuples_are : L ≡ tuples_at G Spaces c x d
    tuples_are =
        list
        ∙ to_written at (λ (H : Graph) (S : SheafData). tuples_over s.graph (sheaf_of s) x d own.kernel.basis
        ≡ tuples_over H S x d own.kernel.basis) refl
        ∙ ap (λ (b : DegreeBlock). tuples_over G (parts_sheaf G c) x d b.kernel.basis) is

  pub equations_are : {M : Matrix} → M ≡ equation_matrix s.graph (sheaf_of s) x d → M ≡ matrix_at G Spaces c x d
  equations_are is =
      is ∙ to_written at (λ (H : Graph) (S : SheafData). equation_matrix s.graph (sheaf_of s) x d
      ≡ equation_matrix H S x d) refl

-- ---- by levels

module _ {G : Graph} {c : Written} {F : Type 0} {s : SheafState F} {x d : ℕ} (at : IsAtBlock G Levels c s x d) where
  pub boundaries_are : {M : Matrix} → M ≡ boundary_matrix s.graph (sheaf_of s) x d → M ≡ matrix_at G Levels c x d
  boundaries_are is =
      is ∙ to_written at (λ (H : Graph) (S : SheafData). boundary_matrix s.graph (sheaf_of s) x d
      ≡ boundary_matrix H S x d) refl
