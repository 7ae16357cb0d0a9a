-- Lengths may have gaps: over two levels with the same vertices the families are the same.
use Rattle.std.proofs.Common.{◌≡◌, ℕ, ◌+◌, ◌<◌, ◌≤◌, sym, ap, subst, ◌∙◌, arith}
use Rattle.bmp_poly.specs.Exponents.{count}
use Rattle.bmp_graph.specs.Graph.{Graph, length_at}
use Rattle.bmp_linear.specs.declared.blocks.DegreeBlock.{DegreeBlock}
use Rattle.bmp_sheaf.specs.Sheaves.{SheafData}
use Rattle.bmp_sections.specs.TupleLists.{TupleList}
use Rattle.bmp_levels.specs.Levels.{level_vertices}
use Rattle.bmp_levels.specs.Lists.{SameList}
use Rattle.bmp_levels.specs.Families.{family}
use Rattle.bmp_levels.proofs.Families.{family_counted, family_size, first_members_are_family, same_sums}
use Rattle.bmp_levels.proofs.WholeFamilies.{IsGap}

module _ (G : Graph) (F : SheafData) (d top : ℕ) (block : ℕ → DegreeBlock) where
  abbrev families : ℕ → TupleList
  families = family G F d top block

  -- so the families over both levels are the same
  pub family_over_gap :
      (k l : ℕ) (list : TupleList) → k ≤ l → l ≤ length_at G top → IsGap G k l →
      SameList (level_vertices G l) list (families l) → SameList (level_vertices G k) list (families k)
  family_over_gap k l list order below gap same =
      let prefix = first_members_are_family G F d top block k l order below in
      let counts : (families l).count ≡ (families k).count =
      family_counted G F d top block l below ∙ ap (λ n. count G.rank d + n) (same_sums G top block k l order gap)
      ∙ sym (family_counted G F d top block k (omega (arith, order, below))) in
      record {
        count = same.count ∙ counts;
        has = λ y inside. same.has y (inside.0, gap y inside.0 inside.1);
        size = λ y inside.
            same.size y (inside.0, gap y inside.0 inside.1) ∙ family_size G F d top block l y
            ∙ sym (family_size G F d top block k y);
        value = λ j y c is_member inside coordinate.
            let long = gap y inside.0 inside.1 in
            let at : c < (families l).size y =
            subst (λ n. c < n) (family_size G F d top block k y ∙ sym (family_size G F d top block l y)) coordinate in
            let member : j < (families l).count = omega (arith, is_member, counts) in
            same.value j y c member (inside.0, long) at ∙ sym (prefix.1.value j y c member (inside.0, long) at);
      }
