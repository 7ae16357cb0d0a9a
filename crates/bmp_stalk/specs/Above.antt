-- What is said above a vertex x rests on the stalks there, and not on that of x. So the step of one degree serves
-- evidence by whole section spaces too: its tuples are the kernel of the edge equations above x. In the order to read:
--   AgreeAbove G x F F'      the sheaves have the same stalks above x, and the same lifts on the edges from there
--   EquationsStay            then the edge equations over the vertices above x are the same
--   EqualValuesPass          equally many tuples with the same values pass alike
--   EquationBlocksPass       kernel evidence that passes on the equations beside a draft passes beside the stalk that
--                            grew from it, and so do the covers, sources and dual forms that were built from its basis
use Rattle.std.specs.Prelude.{◌≡◌, ℕ, ◌<◌, true}
use Rattle.bmp_math.specs.Matrices.{SameMatrix}
use Rattle.bmp_linear.specs.declared.blocks.DegreeBlock.{DegreeBlock}
use Rattle.bmp_linear.specs.declared.evidence.CoverEvidence.{CoverEvidence}
use Rattle.bmp_linear.specs.declared.evidence.KernelEvidence.{KernelEvidence}
use Rattle.bmp_linear.specs.Evidence.{EvidenceFits}
use Rattle.bmp_linear.specs.Faults.{AllPass}
use Rattle.bmp_linear.specs.KernelChecks.{KernelCompares}
use Rattle.bmp_graph.specs.Graph.{Graph, edge_count, lower}
use Rattle.bmp_sheaf.specs.Sheaves.{SheafData}
use Rattle.bmp_sheaf.specs.States.{Stalk, SheafState}
use Rattle.bmp_sections.specs.Positions.{position_count, equation_count}
use Rattle.bmp_sections.specs.Numbers.{is_above, equation_matrix}
use Rattle.bmp_sections.specs.TupleLists.{TupleList, tuples_over}
use Rattle.bmp_cover.specs.CoverChecks.{CoverCompares, CoverPasses}
use Rattle.bmp_stalk.specs.Drafts.{IsNext, with_draft, IsBuiltDegree}

pub record AgreeAbove (G : Graph) (x : ℕ) (F F' : SheafData) : Type 0 where
  pub degrees : (y : ℕ) → is_above G x y ≡ true → F.degrees y ≡ F'.degrees y
  pub lifts : (e : ℕ) → e < edge_count G → is_above G x (lower G e) ≡ true → F.lift e ≡ F'.lift e

abbrev pub EquationsStay : Type 0
EquationsStay =
    (G : Graph) (F F' : SheafData) (x d : ℕ) → AgreeAbove G x F F' →
    SameMatrix (equation_matrix G F x d) (equation_matrix G F' x d)

-- of a list of tuples the comparisons read the count and the values
abbrev pub EqualValuesPass : Type 0
EqualValuesPass =
    (G : Graph) (F : SheafData) (x d : ℕ) (list list' : TupleList) (e : CoverEvidence) → list.count ≡ list'.count →
    list.value ≡ list'.value → CoverPasses (CoverCompares G F x d list e) → CoverPasses (CoverCompares G F x d list' e)

abbrev pub EquationBlocksPass : Type 0 → Type 0
EquationBlocksPass F =
    (s : SheafState F) (x d : ℕ) (kernel : KernelEvidence) (from : Stalk) (b : DegreeBlock) (t : Stalk) → IsNext s x →
    EvidenceFits kernel (equation_count s.graph (with_draft s from) (is_above s.graph x) d)
    (position_count s.graph (with_draft s from) (is_above s.graph x) d) →
    AllPass (KernelCompares s.graph.prime (equation_matrix s.graph (with_draft s from) x d) kernel) →
    IsBuiltDegree s x d (tuples_over s.graph (with_draft s from) x d kernel.basis) b t →
    EvidenceFits kernel (equation_count s.graph (with_draft s t) (is_above s.graph x) d)
    (position_count s.graph (with_draft s t) (is_above s.graph x) d)
    × AllPass (KernelCompares s.graph.prime (equation_matrix s.graph (with_draft s t) x d) kernel)
    × CoverPasses (CoverCompares s.graph (with_draft s t) x d
    (tuples_over s.graph (with_draft s t) x d kernel.basis) b.cover)
