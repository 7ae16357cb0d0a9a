-- Lists with the same values over a level are bases of the sections there together.
use Rattle.std.proofs.Common.{ℕ, ◌≤◌, sym, arith}
use Rattle.bmp_graph.specs.Graph.{Graph, lower, upper, label}
use Rattle.bmp_sheaf.specs.Fields.{IsOverField}
use Rattle.bmp_sheaf.specs.Elements.{zero_element}
use Rattle.bmp_sheaf.specs.Sheaves.{SheafData, Tuple, lift_of}
use Rattle.bmp_sheaf.proofs.ElementLaws.{same_chained, same_congruent, congruent_chained}
use Rattle.bmp_sheaf.proofs.LiftLaws.{lifts_same}
use Rattle.bmp_sections.specs.Sections.{IsSection}
use Rattle.bmp_sections.specs.TupleLists.{TupleList, tuples_in}
use Rattle.bmp_cover.specs.Evidence.{combined_tuple}
use Rattle.bmp_levels.specs.Levels.{level, level_vertices}
use Rattle.bmp_levels.specs.Bases.{SameOver, AreSectionsOver, AreSpanning, AreIndependent, IsBasis}
use Rattle.bmp_levels.specs.Statements.{BasesCarry}
use Rattle.bmp_levels.proofs.Comparing.{SameTuples, tuples_turned, same_list_tuples, same_sums}

-- what has the values of a section is one
pub section_carries :
    (G : Graph) (F : SheafData) (U : ℕ → Type 0) (d : ℕ) (s t : Tuple) → IsOverField G → G.rank ≤ 6 →
    SameOver G F U d s t → IsSection G F U d t → IsSection G F U d s
section_carries G F U d s t over wide same given e below low up =
    let ends = over.is_graph.ends e below in
    let high = upper G e in
    congruent_chained G.prime G.rank (F.degrees high) (label G e) d (lift_of G F e d (s (lower G e))) (t high) (s high)
    (lifts_same G F e d (s (lower G e)) (t (lower G e)) (t high) wide (same (lower G e) ends.0 low)
    (given e below low up))
    (same_congruent G.prime G.rank (F.degrees high) (label G e) d (t high) (s high)
    (λ g n has m is. sym (same high ends.1 up g n has m is)))

module _ {G : Graph} {F : SheafData} {k d : ℕ} {a b : TupleList} (over : IsOverField G) (wide : G.rank ≤ 6)
    (same : SameTuples G F (level_vertices G k) d a b) where
  pub sections_carry :
      AreSectionsOver G F (level G k) d (tuples_in G F d a) a.count →
      AreSectionsOver G F (level G k) d (tuples_in G F d b) b.count
  sections_carry sections = record {
    each = λ j is_member.
        section_carries G F (level G k) d (tuples_in G F d b j) (tuples_in G F d a j) over wide
        (λ y below inside g n has m is. sym (same.value j y is_member (below, inside) g n has m is))
        (sections.each j (omega (arith, is_member, same.count)));
  }

  pub spanning_carries :
      AreSpanning G F (level G k) d (tuples_in G F d a) a.count →
      AreSpanning G F (level G k) d (tuples_in G F d b) b.count
  spanning_carries spanning = record {
    spanned = λ s given.
        let found = spanning.spanned s given in (
          found.0,
          λ y below inside.
              same_chained G.prime G.rank (F.degrees y) d (s y)
              (combined_tuple found.0 (tuples_in G F d a) a.count y)
              (combined_tuple found.0 (tuples_in G F d b) b.count y)
              (found.1 y below inside) (same_sums same found.0 y (below, inside)),
        );
  }

  pub independence_carries :
      AreIndependent G F (level G k) d (tuples_in G F d a) a.count →
      AreIndependent G F (level G k) d (tuples_in G F d b) b.count
  independence_carries independence = record {
    independent = λ c none j is_member.
        independence.independent c
        (λ y below inside.
        same_chained G.prime G.rank (F.degrees y) d (combined_tuple c (tuples_in G F d a) a.count y)
        (combined_tuple c (tuples_in G F d b) b.count y) zero_element
        (same_sums same c y (below, inside)) (none y below inside))
        j (omega (arith, is_member, same.count));
  }

  pub basis_carries : IsBasis G F (level G k) d a → IsBasis G F (level G k) d b
  basis_carries basis = record {
    sections = sections_carry basis.sections;
    spanning = spanning_carries basis.spanning;
    independent = independence_carries basis.independent;
  }

pub bases_carry : BasesCarry
bases_carry G F k d a b over wide same sizes =
    let tuples : SameTuples G F (level_vertices G k) d a b = same_list_tuples wide same sizes in
    (basis_carries over wide tuples, basis_carries over wide (tuples_turned tuples))
