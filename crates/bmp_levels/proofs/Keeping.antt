-- An extension in memory keeps sections, spanning and independence.
use Rattle.std.proofs.Common.{ℕ, refl}
use Rattle.bmp_graph.specs.Graph.{Graph}
use Rattle.bmp_linear.specs.declared.blocks.DegreeBlock.{DegreeBlock}
use Rattle.bmp_sheaf.specs.Sheaves.{SheafData}
use Rattle.bmp_sections.specs.TupleLists.{TupleList}
use Rattle.bmp_levels.specs.Levels.{level_vertices}
use Rattle.bmp_levels.specs.Lists.{sized, SameList}
use Rattle.bmp_levels.specs.Families.{extended, stalk_size}
use Rattle.bmp_levels.specs.Evidence.{ExtendsBy}
use Rattle.bmp_levels.specs.Extensions.{KeepsBases}
use Rattle.bmp_levels.proofs.Comparing.{SameTuples, tuples_turned, same_list_tuples}
use Rattle.bmp_levels.proofs.CarriedBases.{sections_carry, spanning_carries, independence_carries}
use Rattle.bmp_levels.proofs.ExtendedSections.{are_sections}
use Rattle.bmp_levels.proofs.ExtendedSpans.{are_spanning}
use Rattle.bmp_levels.proofs.ExtendedIndependence.{are_independent}

module _ {G : Graph} {F : SheafData} {k d : ℕ} {block : ℕ → DegreeBlock} {old new : TupleList}
    (same : SameList (level_vertices G k) new (sized (stalk_size G F d) (extended G k block old))) where
  carried :
      ExtendsBy G F k d block old →
      SameTuples G F (level_vertices G k) d (sized (stalk_size G F d) (extended G k block old)) new
  carried by = tuples_turned (same_list_tuples by.wide same (λ y inside. refl))

  pub keeps_bases : KeepsBases G F k d block old new
  keeps_bases = record {
    sections = λ by sections. sections_carry by.over by.wide (carried by) (are_sections by sections);
    spanning = λ by sections spanning.
        spanning_carries by.over by.wide (carried by) (are_spanning by sections spanning);
    independent = λ by independent. independence_carries by.over by.wide (carried by) (are_independent by independent);
  }
