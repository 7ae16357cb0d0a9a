-- Certificates whose sizes all fit, with the sheaf that they write down, in memory. In the order to read:
--   cert_stalk part         the degrees and the lifts of a part
--   IsSheafOf G c s         the sheaf in memory is the one that c writes down on G, up to the degree of its job
--   IsShaped G v c t s      c can be checked, the number of vertices and all sizes pass, t is its table of sizes, and s
--                           its sheaf
--   HasWidth G m c n        n is no less than the largest size of each block, and than each number of coordinates of a
--                           stalk and of a boundary
--   IsRoomFor G m c scratch the scratch has numbers of such a width, by whole spaces room for the equations of each
--                           block, and by levels a sum for each of its sections
use Rattle.std.specs.Prelude.{◌≡◌, ℕ, ◌<◌, ◌≤◌, length, map}
use Rattle.bmp_graph.specs.Graph.{Graph, vertex_count}
use Rattle.bmp_sheaf.specs.Coordinates.{stalk_count, boundary_count}
use Rattle.bmp_sheaf.specs.States.{Stalk, SheafState}
use Rattle.bmp_cert.specs.Counts.{Written}
use Rattle.bmp_cert.specs.declared.cert.VertexPart.{VertexPart}
use Rattle.bmp_check.specs.declared.method.Method.{Method}
use Rattle.bmp_check.specs.declared.method.Method.TheVariants.{Spaces, Levels}
use Rattle.bmp_check.specs.declared.sizes.SizeTable.{SizeTable}
use Rattle.bmp_check.specs.declared.scratch.BlockScratch.{BlockScratch}
use Rattle.bmp_check.specs.Accepted.{IsCheckable}
use Rattle.bmp_check.specs.Methods.{method_of}
use Rattle.bmp_check.specs.PartsSheaf.{parts_sheaf}
use Rattle.bmp_check.specs.Sizes.{counts_at, largest}
use Rattle.bmp_check.specs.SizeTables.{AreSizesOf}
use Rattle.bmp_check.specs.Verdicts.{HasBlock, CountPasses, ShapePasses}

abbrev pub cert_stalk : VertexPart → Stalk
cert_stalk part = record { degrees = part.degrees; lifts = part.lifts }

-- the greatest vertex comes first in both
pub record IsSheafOf (G : Graph) (c : Written) {F : Type 0} (s : SheafState F) : Type 0 where
  pub graph : s.graph ≡ G
  pub degree : s.degree ≡ c.degree
  pub stalks : s.stalks ≡ map cert_stalk c.parts

pub record IsShaped (G : Graph) (v : ℕ) (c : Written) (t : SizeTable) {F : Type 0} (s : SheafState F) : Type 0 where
  pub checkable : IsCheckable G v c
  pub count : CountPasses G c
  pub shape : ShapePasses G (method_of v) c
  pub sizes : AreSizesOf G (method_of v) c t
  pub sheaf : IsSheafOf G c s

pub record HasWidth (G : Graph) (m : Method) (c : Written) (n : ℕ) : Type 0 where
  pub sizes : (x d : ℕ) → HasBlock G c x d → largest (counts_at G m c x d) ≤ n
  pub stalks : (x d : ℕ) → x < vertex_count G → d ≤ c.degree → stalk_count G.rank ((parts_sheaf G c).degrees x) d ≤ n
  pub boundaries : (x d : ℕ) → x < vertex_count G → d ≤ c.degree → boundary_count G (parts_sheaf G c) x d ≤ n

pub record IsRoomFor (G : Graph) (m : Method) (c : Written) (scratch : BlockScratch) : Type 0 where
  pub width : HasWidth G m c (length scratch.numbers.first)
  pub vertices : m ≡ Spaces → vertex_count G ≤ length scratch.index.starts.items
  pub equations : m ≡ Spaces → (x d : ℕ) → HasBlock G c x d →
      (counts_at G m c x d).rows ≤ length scratch.index.places.items
  pub sums : m ≡ Levels → (x d : ℕ) → HasBlock G c x d → (counts_at G m c x d).tuples ≤ length scratch.sums.items
