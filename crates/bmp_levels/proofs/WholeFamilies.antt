-- The family over all vertices in memory, level by level; lengths may have gaps.
use Rattle.std.proofs.Common.{◌≡◌, ℕ, suc, ◌+◌, ◌-◌, ◌<◌, ◌≤◌, length, refl, sym, ap, subst, ◌∙◌, inl, inr, arith}
use Rattle.std.proofs.lemmas.Bool.{cases_lt}
use Rattle.std.specs.Prelude.{Bool}
use Rattle.bmp_poly.specs.Exponents.{count}
use Rattle.bmp_graph.specs.Graph.{Graph, IsGraph, vertex_count, length_at}
use Rattle.bmp_linear.specs.declared.blocks.DegreeBlock.{DegreeBlock}
use Rattle.bmp_sheaf.specs.Sheaves.{SheafData}
use Rattle.bmp_sheaf.specs.States.{SheafState, sheaf_of}
use Rattle.bmp_sections.specs.TupleLists.{TupleList}
use Rattle.bmp_levels.specs.Levels.{level_vertices}
use Rattle.bmp_levels.specs.Lists.{first_members, SameList}
use Rattle.bmp_levels.specs.Families.{family, member_count}
use Rattle.bmp_levels.specs.Runs.{FamilyTable, list_of}
use Rattle.bmp_levels.specs.Extensions.{BlockFits, HoldsLevel, LevelFits, AllFit, IsExtension}
use Rattle.bmp_levels.proofs.Families.{family_counted, family_size, first_members_are_family, same_sums}
use Rattle.bmp_levels.proofs.GoingOn.{families_go_on}

-- no vertex has a length from k to l - 1
abbrev pub IsGap : Graph → ℕ → ℕ → Type 0
IsGap G k l = (y : ℕ) → y < vertex_count G → k ≤ length_at G y → l ≤ length_at G y

module _ (G : Graph) (F : SheafData) (d top : ℕ) (block : ℕ → DegreeBlock) where
  abbrev families : ℕ → TupleList
  families = family G F d top block

  -- so the families over both levels are the same
  family_over_gap :
      (k l : ℕ) (list : TupleList) → k ≤ l → l ≤ length_at G top → IsGap G k l →
      SameList (level_vertices G l) list (families l) → SameList (level_vertices G k) list (families k)
  family_over_gap k l list order below gap same =
      let prefix = first_members_are_family G F d top block k l order below in
      let counts : (families l).count ≡ (families k).count =
      family_counted G F d top block l below ∙ ap (λ n. count G.rank d + n) (same_sums G top block k l order gap)
      ∙ sym (family_counted G F d top block k (omega (arith, order, below))) in
      record {
        count = same.count ∙ counts;
        has = λ y inside. same.has y (inside.0, gap y inside.0 inside.1);
        size = λ y inside.
            same.size y (inside.0, gap y inside.0 inside.1) ∙ family_size G F d top block l y
            ∙ sym (family_size G F d top block k y);
        value = λ j y c is_member inside coordinate.
            let long = gap y inside.0 inside.1 in
            let at : c < (families l).size y =
            subst (λ n. c < n) (family_size G F d top block k y ∙ sym (family_size G F d top block l y)) coordinate in
            let member : j < (families l).count = omega (arith, is_member, counts) in
            same.value j y c member (inside.0, long) at ∙ sym (prefix.1.value j y c member (inside.0, long) at);
      }

-- what is made so far: the family over the level of the last vertex
pub record IsPartial {A : Type 0} (s : SheafState A) (d : ℕ) (block : ℕ → DegreeBlock) (f : FamilyTable) : Type 0 where
  pub level : ℕ
  pub below : level ≤ length_at s.graph (vertex_count s.graph - 1)
  pub holds : HoldsLevel s level d f
  pub same :
      SameList (level_vertices s.graph level) (list_of f)
      (family s.graph (sheaf_of s) d (vertex_count s.graph - 1) block level)

-- the next vertex has length k
module _ {A : Type 0} {s : SheafState A} {d : ℕ} {block : ℕ → DegreeBlock} {f : FamilyTable} (is : IsGraph s.graph)
    (made : IsPartial s d block f) (few : length f.runs < vertex_count s.graph) {k : ℕ}
    (k_is : k ≡ length_at s.graph (vertex_count s.graph - 1 - length f.runs)) where
  abbrev next : ℕ
  next = vertex_count s.graph - 1 - length f.runs

  -- it is shorter than what is there
  next_shorter : k < made.level
  next_shorter = elim (cases_lt k made.level) [
    | inl short ↦ short
    | inr long ↦
        absurd (let there = made.holds.has next (omega (arith, few), omega (arith, long, k_is)) in
        omega (arith, there, few))
  ]

  -- and no vertex is longer than that, and shorter than what is there
  gap : IsGap s.graph (suc k) made.level
  gap y below long = elim (cases_lt y (vertex_count s.graph - length f.runs)) [
    | inl before ↦
        absurd (let rises : length_at s.graph y ≤ length_at s.graph (vertex_count s.graph - 1 - length f.runs) =
        is.lengths_rise y next (omega (arith, before)) (omega (arith, few)) in omega (arith, rises, long, k_is))
    | inr from ↦ made.holds.only y below (omega (arith, from))
  ]

  pub next_holds : HoldsLevel s (suc k) d f
  next_holds = record {
    vertices = made.holds.vertices;
    has = λ y inside. made.holds.has y (inside.0, gap y inside.0 inside.1);
    only = λ y below there.
        (let long = made.holds.only y below there in let short = next_shorter in omega (arith, long, short));
    sizes = λ y inside. made.holds.sizes y (inside.0, gap y inside.0 inside.1);
  }

  next_same :
      SameList (level_vertices s.graph (suc k)) (list_of f)
      (family s.graph (sheaf_of s) d (vertex_count s.graph - 1) block (suc k))
  next_same =
      family_over_gap s.graph (sheaf_of s) d (vertex_count s.graph - 1) block (suc k) made.level (list_of f)
      next_shorter made.below gap made.same

  short : k < length_at s.graph (vertex_count s.graph - 1)
  short = let less = next_shorter in omega (arith, less, made.below)

  -- its blocks fit
  pub next_fits : (has : ℕ → Bool) → AllFit s d has block → LevelFits s k d f.count has block
  next_fits has all x below here =
      let less = short in
      let fits = all x below (omega (arith, here, less)) in
      let counted : f.count ≡ member_count s.graph d (vertex_count s.graph - 1) block (suc (length_at s.graph x)) =
      next_same.count
      ∙ family_counted s.graph (sheaf_of s) d (vertex_count s.graph - 1) block (suc k) less
      ∙ ap (λ n. member_count s.graph d (vertex_count s.graph - 1) block (suc n)) (sym here) in
      (fits.0, subst (λ n. BlockFits s d n x (block x)) (sym counted) fits.1)

  module _ {new : FamilyTable} (holds : HoldsLevel s k d new) (extended : IsExtension s k d block f new) where
    pub made_more : IsPartial s d block new
    made_more = record {
      level = k;
      below = (let less = short in omega (arith, less));
      holds = holds;
      same =
          families_go_on s.graph (sheaf_of s) d (vertex_count s.graph - 1) block k block (list_of new) (list_of f)
          short (λ x below here. refl) next_same extended;
    }

    pub fewer_left : vertex_count s.graph - length new.runs < vertex_count s.graph - length f.runs
    fewer_left =
        let there = holds.has next (omega (arith, few), omega (arith, k_is)) in omega (arith, there, few)

module _ {A : Type 0} {s : SheafState A} {d : ℕ} {block : ℕ → DegreeBlock} {f : FamilyTable}
    (made : IsPartial s d block f) (all : vertex_count s.graph ≤ length f.runs) where
  abbrev top : ℕ
  top = vertex_count s.graph - 1

  pub all_holds : HoldsLevel s 0 d f
  all_holds = record {
    vertices = made.holds.vertices;
    has = λ y inside. omega (arith, all);
    only = λ y below there. omega arith;
    sizes = λ y inside. made.holds.sizes y (inside.0, made.holds.only y inside.0 (omega (arith, all)));
  }

  all_same : SameList (level_vertices s.graph 0) (list_of f) (family s.graph (sheaf_of s) d top block 0)
  all_same =
      family_over_gap s.graph (sheaf_of s) d top block 0 made.level (list_of f) (omega arith) made.below
      (λ y below long. made.holds.only y below (omega (arith, all))) made.same

  pub all_families :
      (k : ℕ) → k ≤ length_at s.graph (vertex_count s.graph - 1) →
      ((family s.graph (sheaf_of s) d (vertex_count s.graph - 1) block k).count ≤ f.count)
      × SameList (level_vertices s.graph k)
      (first_members (family s.graph (sheaf_of s) d (vertex_count s.graph - 1) block k).count (list_of f))
      (family s.graph (sheaf_of s) d (vertex_count s.graph - 1) block k)
  all_families k below =
      let families = family s.graph (sheaf_of s) d top block in
      let prefix = first_members_are_family s.graph (sheaf_of s) d top block 0 k (omega arith) below in
      let whole = all_same in (
        omega (arith, prefix.0, whole.count),
        record {
          count = refl;
          has = λ y inside. whole.has y (inside.0, omega arith);
          size = λ y inside. whole.size y (inside.0, omega arith) ∙ prefix.1.size y inside;
          value = λ j y c is_member inside coordinate.
              whole.value j y c (omega (arith, is_member, prefix.0)) (inside.0, omega arith)
              (subst (λ n. c < n) (sym (prefix.1.size y inside)) coordinate)
              ∙ prefix.1.value j y c is_member inside coordinate;
        },
      )
