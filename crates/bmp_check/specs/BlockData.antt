-- What the evidence of the block of a vertex x and a degree d is about. In the order to read:
--   no_block, block_of c x d   the block that is written
--   top_vertex G               the greatest vertex
--   family_at G c x d          the family of sections of degree d over the vertices longer than x
--   matrix_at G m c x d        the rows that the kernel evidence is about: the edge equations over the vertices above
--                              x, or the boundary map at x
--   tuples_at G m c x d        the sections that the cover evidence is about: those of the kernel evidence itself, or
--                              the family
use Rattle.std.specs.Prelude.{ℕ, suc, ◌-◌, [], slice_index_or}
use Rattle.bmp_math.specs.Matrices.{Matrix}
use Rattle.bmp_graph.specs.Graph.{Graph, vertex_count, length_at}
use Rattle.bmp_linear.specs.declared.blocks.DegreeBlock.{DegreeBlock}
use Rattle.bmp_sheaf.specs.Numbers.{boundary_matrix}
use Rattle.bmp_sections.specs.Numbers.{equation_matrix}
use Rattle.bmp_sections.specs.TupleLists.{TupleList, tuples_over}
use Rattle.bmp_levels.specs.Families.{family}
use Rattle.bmp_cert.specs.Counts.{Written, part_of}
use Rattle.bmp_check.specs.declared.method.Method.{Method}
use Rattle.bmp_check.specs.declared.method.Method.TheVariants.{Spaces, Levels}
use Rattle.bmp_check.specs.PartsSheaf.{parts_sheaf}

abbrev pub no_block : DegreeBlock
no_block = record {
  kernel = record { pivots = []; basis = []; rows = [] };
  cover = record { covers = []; sources = []; duals = [] };
}

abbrev pub block_of : Written → ℕ → ℕ → DegreeBlock
block_of c x d = slice_index_or (part_of c x).blocks d no_block

abbrev pub top_vertex : Graph → ℕ
top_vertex G = vertex_count G - 1

abbrev pub family_at : Graph → Written → ℕ → ℕ → TupleList
family_at G c x d = family G (parts_sheaf G c) d (top_vertex G) (λ y. block_of c y d) (suc (length_at G x))

abbrev pub matrix_at : Graph → Method → Written → ℕ → ℕ → Matrix
matrix_at G Spaces c x d = equation_matrix G (parts_sheaf G c) x d
matrix_at G Levels c x d = boundary_matrix G (parts_sheaf G c) x d

abbrev pub tuples_at : Graph → Method → Written → ℕ → ℕ → TupleList
tuples_at G Spaces c x d = tuples_over G (parts_sheaf G c) x d (block_of c x d).kernel.basis
tuples_at G Levels c x d = family_at G c x d
