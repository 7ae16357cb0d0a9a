-- The sizes that are compared before any number is, kind Shape. At each vertex but the greatest, and each degree, they
-- stand in one list, along which the indices count. In the order to read:
--   Size, is, at_most             a number of the text and the one that it has to be, or not to pass
--   need, need_of_places          the fewest places in which a vector, or a list of places, fits
--   lift_sizes G c x              each lift fits the stalk at the upper end, in its generator's degree
--   vertex_sizes G c x            the number of edges, and the lifts
--   counts_at G m c x d           how many columns and rows the kernel evidence at x and d is about, how many stalk and
--                                 boundary coordinates there are, and how many sections the cover evidence is about
--   largest n, limit              the largest of these but the last, and the most that it may be
--   pivot_sizes n e               the pivots of kernel evidence where these are n
--   kernel_sizes n e              its vectors
--   cover_sizes n e               those of cover evidence
--   last_size n                   the largest, last of all
--   sizes_of_block m n b          those of a block, by the method of the evidence
--   block_sizes G m c x d         those of the block of x and d
--   shape_sizes G m c x d         those of the vertex and of the block in degree 0, of the block in the others
--   shape_comparisons G m c x d   the comparisons, by index
use Rattle.std.specs.Prelude.{ℕ, zero, suc, ◌+◌, ◌/◌, ◌%◌, ◌==◌, nat_le, max, Bool, true, false, if◌then◌else◌, List, [], ◌∷◌, ◌++◌, map, length, slice_index, slice_index_or}
use Rattle.bmp_graph.specs.Graph.{Graph, upper}
use Rattle.bmp_linear.specs.declared.vector.Entry.{Entry}
use Rattle.bmp_linear.specs.declared.evidence.KernelEvidence.{KernelEvidence}
use Rattle.bmp_linear.specs.declared.evidence.CoverEvidence.{CoverEvidence}
use Rattle.bmp_linear.specs.declared.blocks.DegreeBlock.{DegreeBlock}
use Rattle.bmp_cover.specs.declared.kind.Kind.TheVariants.{Shape}
use Rattle.bmp_sheaf.specs.Coordinates.{stalk_count, boundary_count}
use Rattle.bmp_sheaf.specs.Written.{first_edge, up_count}
use Rattle.bmp_cert.specs.Counts.{Written, part_of}
use Rattle.bmp_check.specs.Comparisons.{Comparison}
use Rattle.bmp_check.specs.BlockData.{block_of, matrix_at, tuples_at}
use Rattle.bmp_check.specs.PartsSheaf.{parts_sheaf}
use Rattle.bmp_check.specs.declared.method.Method.{Method}
use Rattle.bmp_check.specs.declared.method.Method.TheVariants.{Spaces, Levels}
use Rattle.bmp_check.specs.declared.sizes.BlockSizes.{BlockSizes}

pub record Size : Type 0 where
  pub left : ℕ
  pub right : ℕ
  pub exact : Bool

abbrev pub is : ℕ → ℕ → Size
is n m = record { left = n; right = m; exact = true }

abbrev pub at_most : ℕ → ℕ → Size
at_most n m = record { left = n; right = m; exact = false }

-- all places are below it
unfoldable pub need : List Entry → ℕ
need [] = 0
need (e ∷ es) = max (e.place + 1) (need es)

unfoldable pub need_of_places : List ℕ → ℕ
need_of_places [] = 0
need_of_places (k ∷ ks) = max (k + 1) (need_of_places ks)

-- f 0, .., f (n - 1)
abbrev pub listed : (ℕ → Size) → ℕ → List Size
listed f zero = []
listed f (suc n) = listed f n ++ f n ∷ []

module _ (G : Graph) (c : Written) (x : ℕ) where
  -- lifts stand by edge and then by generator
  abbrev pub lift_size : ℕ → Size
  lift_size i =
      let degrees = (part_of c x).degrees in
      at_most (need (slice_index_or (part_of c x).lifts i []))
      (stalk_count G.rank (part_of c (upper G (first_edge G x + i / length degrees))).degrees
      (slice_index degrees (i % length degrees)))

  abbrev pub vertex_sizes : List Size
  vertex_sizes = is (part_of c x).edges (up_count G x) ∷ listed lift_size (length (part_of c x).lifts)

abbrev pub limit : ℕ
limit = 4294967295

abbrev pub each_at_most : List (List Entry) → ℕ → List Size
each_at_most vs n = map (λ v. at_most (need v) n) vs

abbrev pub counts_at : Graph → Method → Written → ℕ → ℕ → BlockSizes
counts_at G m c x d = record {
  columns = (matrix_at G m c x d).cols;
  rows = (matrix_at G m c x d).rows;
  stalk = stalk_count G.rank ((parts_sheaf G c).degrees x) d;
  boundary = boundary_count G (parts_sheaf G c) x d;
  tuples = (tuples_at G m c x d).count;
}

abbrev pub largest : BlockSizes → ℕ
largest n = max (max n.stalk n.boundary) (max n.columns n.rows)

abbrev pub pivot_sizes : BlockSizes → KernelEvidence → List Size
pivot_sizes n e =
    is (length e.pivots + length e.basis) n.columns
    ∷ (at_most (need_of_places e.pivots) n.columns ∷ [])

abbrev pub kernel_sizes : BlockSizes → KernelEvidence → List Size
kernel_sizes n e = each_at_most e.basis n.columns ++ each_at_most e.rows n.rows

abbrev pub cover_sizes : BlockSizes → CoverEvidence → List Size
cover_sizes n e = each_at_most e.covers n.stalk ++ (each_at_most e.sources n.tuples ++ each_at_most e.duals n.boundary)

abbrev pub last_size : BlockSizes → List Size
last_size n = at_most (largest n) limit ∷ []

-- by whole spaces there are as many covers as sections by the grammar; by levels their number is compared first
abbrev pub sizes_of_block : Method → BlockSizes → DegreeBlock → List Size
sizes_of_block Spaces n b =
    pivot_sizes n b.kernel ++ (kernel_sizes n b.kernel ++ (cover_sizes n b.cover ++ last_size n))
sizes_of_block Levels n b =
    (is (length b.cover.covers) n.tuples ∷ [])
    ++ (pivot_sizes n b.kernel ++ (cover_sizes n b.cover ++ (kernel_sizes n b.kernel ++ last_size n)))

abbrev pub block_sizes : Graph → Method → Written → ℕ → ℕ → List Size
block_sizes G m c x d = sizes_of_block m (counts_at G m c x d) (block_of c x d)

abbrev pub shape_sizes : Graph → Method → Written → ℕ → ℕ → List Size
shape_sizes G m c x d = if d == 0 then vertex_sizes G c x ++ block_sizes G m c x d else block_sizes G m c x d

abbrev pub size_comparison : ℕ → ℕ → ℕ → Size → Comparison
size_comparison x d i s = record {
  refusal = record { vertex = x; degree = d; kind = Shape; index = i; place = 0; left = s.left; right = s.right };
  passes = if s.exact then s.left == s.right else nat_le s.left s.right;
}

abbrev pub numbered : ℕ → ℕ → ℕ → List Size → List Comparison
numbered x d i [] = []
numbered x d i (s ∷ ss) = size_comparison x d i s ∷ numbered x d (i + 1) ss

abbrev pub shape_comparisons : Graph → Method → Written → ℕ → ℕ → List Comparison
shape_comparisons G m c x d = numbered x d 0 (shape_sizes G m c x d)
