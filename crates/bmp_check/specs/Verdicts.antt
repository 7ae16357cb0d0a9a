-- The verdict on what is written of a graph G: the first comparison that fails, or none. In the order to read:
--   count_comparison G c          the number of vertices of the text with the graph's; kind Shape, index 0
--   top_comparisons c             the number of generators of the greatest vertex with 1, and then the degree of the
--                                 first with 0
--   HasBlock G c x d              x is a vertex but the greatest, and d a degree up to the bound
--   BlockIsBefore x d y e         blocks go by falling vertex and then by rising degree
--   kernel_refusal m c x d r      the refusal of a comparison of kernel evidence: kinds Section and Row by whole
--                                 spaces, Kernel by levels
--   cover_refusal x d r           that of a comparison of cover evidence: kinds Cover, Source and Dual
--   KernelComparesAt G m c x d    the comparisons of the kernel evidence of a block
--   CoverComparesAt G m c x d     those of its cover evidence
--   BlockPasses G m c x d         no comparison of a block fails
--   IsBlockRefusal G m c x d r    the first that fails, in the order of the kinds' numbers
--   ShapePassesAt                 no size of a vertex and degree fails
--   Passes G v c                  no comparison fails at all, in evidence of version v
--   IsFirstRefusal G v c r        r is the first that fails: the number of vertices, then the shapes of all blocks,
--                                 then the top, then the blocks
use Rattle.std.specs.Prelude.{◌≡◌, ℕ, ◌+◌, ◌-◌, ◌<◌, ◌≤◌, ◌⊎◌, nat_lt, if◌then◌else◌, List, [], ◌∷◌, Some, None, length, slice_index}
use Rattle.bmp_graph.specs.Graph.{Graph, vertex_count}
use Rattle.bmp_linear.specs.declared.fault.RowFault.{RowFault}
use Rattle.bmp_linear.specs.Faults.{AllPass, IsFirstFailure}
use Rattle.bmp_linear.specs.KernelChecks.{KernelCompares}
use Rattle.bmp_cover.specs.CoverChecks.{CoverCompares, CoverPasses, IsFirstCoverFailure}
use Rattle.bmp_cover.specs.declared.fault.CoverFault.{CoverFault}
use Rattle.bmp_cover.specs.declared.kind.Kind.TheVariants.{Shape, Top, Section, Row, Kernel}
use Rattle.bmp_cert.specs.Counts.{Written, part_of}
use Rattle.bmp_check.specs.declared.refusal.Refusal.{Refusal}
use Rattle.bmp_check.specs.declared.method.Method.{Method}
use Rattle.bmp_check.specs.declared.method.Method.TheVariants.{Spaces, Levels}
use Rattle.bmp_check.specs.Methods.{method_of}
use Rattle.bmp_check.specs.BlockData.{block_of, matrix_at, tuples_at}
use Rattle.bmp_check.specs.Comparisons.{Comparison, equal, first_failure}
use Rattle.bmp_check.specs.PartsSheaf.{parts_sheaf}
use Rattle.bmp_check.specs.Sizes.{shape_comparisons}

abbrev pub count_comparison : Graph → Written → Comparison
count_comparison G c = equal (record {
  vertex = 0;
  degree = 0;
  kind = Shape;
  index = 0;
  place = 0;
  left = length c.parts;
  right = vertex_count G;
})

abbrev pub top_comparison : Written → ℕ → ℕ → ℕ → Comparison
top_comparison c index left right = equal (record {
  vertex = length c.parts - 1;
  degree = 0;
  kind = Top;
  index = index;
  place = 0;
  left = left;
  right = right;
})

abbrev pub top_comparisons : Written → List Comparison
top_comparisons c = let degrees = (part_of c (length c.parts - 1)).degrees in
    top_comparison c 0 (length degrees) 1 ∷ top_comparison c 1 (slice_index degrees 0) 0 ∷ []

abbrev pub HasBlock : Graph → Written → ℕ → ℕ → Type 0
HasBlock G c x d = (x + 1 < vertex_count G) × (d ≤ c.degree)

abbrev pub BlockIsBefore : ℕ → ℕ → ℕ → ℕ → Type 0
BlockIsBefore x d y e = (y < x) ⊎ ((x ≡ y) × (d < e))

-- by whole spaces the sections come first, and the combinations of the equations have indices of their own
abbrev pub kernel_refusal : Method → Written → ℕ → ℕ → RowFault → Refusal
kernel_refusal Spaces c x d r = let sections = length (block_of c x d).kernel.basis in record {
  vertex = x;
  degree = d;
  kind = if nat_lt r.index sections then Section else Row;
  index = if nat_lt r.index sections then r.index else r.index - sections;
  place = r.place;
  left = r.left;
  right = r.right;
}
kernel_refusal Levels c x d r = record {
  vertex = x;
  degree = d;
  kind = Kernel;
  index = r.index;
  place = r.place;
  left = r.left;
  right = r.right;
}

abbrev pub cover_refusal : ℕ → ℕ → CoverFault → Refusal
cover_refusal x d r =
    record { vertex = x; degree = d; kind = r.kind; index = r.index; place = r.place; left = r.left; right = r.right }

module _ (G : Graph) (m : Method) (c : Written) (x d : ℕ) where
  abbrev pub KernelComparesAt : RowFault → Type 0
  KernelComparesAt = KernelCompares G.prime (matrix_at G m c x d) (block_of c x d).kernel

  abbrev pub CoverComparesAt : CoverFault → Type 0
  CoverComparesAt = CoverCompares G (parts_sheaf G c) x d (tuples_at G m c x d) (block_of c x d).cover

  abbrev pub BlockPasses : Type 0
  BlockPasses = AllPass KernelComparesAt × CoverPasses CoverComparesAt

  abbrev pub IsKernelRefusal : Refusal → Type 0
  IsKernelRefusal r = (fault : RowFault) × IsFirstFailure KernelComparesAt fault × (r ≡ kernel_refusal m c x d fault)

  abbrev pub IsCoverRefusal : Refusal → Type 0
  IsCoverRefusal r = (fault : CoverFault) × IsFirstCoverFailure CoverComparesAt fault × (r ≡ cover_refusal x d fault)

  abbrev pub ShapePassesAt : Type 0
  ShapePassesAt = first_failure (shape_comparisons G m c x d) ≡ None

abbrev pub IsBlockRefusal : Graph → Method → Written → ℕ → ℕ → Refusal → Type 0
IsBlockRefusal G Spaces c x d r =
    IsKernelRefusal G Spaces c x d r ⊎ (AllPass (KernelComparesAt G Spaces c x d) × IsCoverRefusal G Spaces c x d r)
IsBlockRefusal G Levels c x d r =
    IsCoverRefusal G Levels c x d r ⊎ (CoverPasses (CoverComparesAt G Levels c x d) × IsKernelRefusal G Levels c x d r)

module _ (G : Graph) (c : Written) where
  abbrev pub CountPasses : Type 0
  CountPasses = length c.parts ≡ vertex_count G

  abbrev pub TopPasses : Type 0
  TopPasses = first_failure (top_comparisons c) ≡ None

  abbrev pub IsCountRefusal : Refusal → Type 0
  IsCountRefusal r = first_failure (count_comparison G c ∷ []) ≡ Some r

  abbrev pub IsTopRefusal : Refusal → Type 0
  IsTopRefusal r = first_failure (top_comparisons c) ≡ Some r

module _ (G : Graph) (m : Method) (c : Written) where
  abbrev pub ShapePasses : Type 0
  ShapePasses = (x d : ℕ) → HasBlock G c x d → ShapePassesAt G m c x d

  abbrev pub BlocksPass : Type 0
  BlocksPass = (x d : ℕ) → HasBlock G c x d → BlockPasses G m c x d

  -- the first block whose shape fails, and its first failure
  pub record IsShapeRefusal (r : Refusal) : Type 0 where
    pub vertex : ℕ
    pub degree : ℕ
    pub block : HasBlock G c vertex degree
    pub earlier : (x d : ℕ) → HasBlock G c x d → BlockIsBefore x d vertex degree → ShapePassesAt G m c x d
    pub first : first_failure (shape_comparisons G m c vertex degree) ≡ Some r

  -- the first block that fails, and its first failure
  pub record IsFirstBlockRefusal (r : Refusal) : Type 0 where
    pub vertex : ℕ
    pub degree : ℕ
    pub block : HasBlock G c vertex degree
    pub earlier : (x d : ℕ) → HasBlock G c x d → BlockIsBefore x d vertex degree → BlockPasses G m c x d
    pub first : IsBlockRefusal G m c vertex degree r

module _ (G : Graph) (v : ℕ) (c : Written) where
  pub record Passes : Type 0 where
    pub count : CountPasses G c
    pub shape : ShapePasses G (method_of v) c
    pub top : TopPasses G c
    pub blocks : BlocksPass G (method_of v) c

  abbrev pub IsFirstRefusal : Refusal → Type 0
  IsFirstRefusal r =
      IsCountRefusal G c r
      ⊎ (CountPasses G c
      × (IsShapeRefusal G (method_of v) c r
      ⊎ (ShapePasses G (method_of v) c
      × (IsTopRefusal G c r ⊎ (TopPasses G c × IsFirstBlockRefusal G (method_of v) c r)))))
