-- The values of members at a vertex where these are the covers of its block.
use Rattle.std.proofs.Common.{◌≡◌, ℕ, suc, ◌+◌, ◌<◌, ◌≤◌, refl, sym, ap, subst, ◌∙◌, arith}
use Rattle.bmp_graph.specs.Graph.{Graph, vertex_count, length_at}
use Rattle.bmp_linear.specs.declared.blocks.DegreeBlock.{DegreeBlock}
use Rattle.bmp_linear.specs.Evidence.{vector_at}
use Rattle.bmp_sheaf.specs.Fields.{IsOverField}
use Rattle.bmp_sheaf.specs.Sheaves.{SheafData}
use Rattle.bmp_sheaf.specs.States.{SheafState, sheaf_of}
use Rattle.bmp_sections.specs.TupleLists.{TupleList}
use Rattle.bmp_cover.specs.CoverChecks.{ComparesCover, CoverPasses}
use Rattle.bmp_cover.specs.CoverInputs.{HasValues}
use Rattle.bmp_levels.specs.Agreement.{AgreesAt}
use Rattle.bmp_levels.specs.Levels.{level_vertices}
use Rattle.bmp_levels.specs.Lists.{first_members, SameList}
use Rattle.bmp_levels.specs.Families.{new_count, stalk_size, family}
use Rattle.bmp_levels.specs.Statements.{BlocksAreBelow}
use Rattle.bmp_levels.proofs.AgreementLemmas.{agreeing_covers}
use Rattle.bmp_levels.proofs.Below.{families_are_below}
use Rattle.bmp_levels.proofs.Families.{family_size, family_next}
use Rattle.bmp_levels.proofs.MemberValues.{old_here}

-- n members of the family over the vertices longer than x are the first of a list that has the values of the family
-- over those as long as x
pub record HasOwn (G : Graph) (F : SheafData) (x d n top : ℕ) (block : ℕ → DegreeBlock) (long : TupleList) : Type 0
  where
    pub vertex : x < vertex_count G
    pub shorter : length_at G x < length_at G top
    pub few : n ≤ (family G F d top block (suc (length_at G x))).count
    pub same : SameList (level_vertices G (length_at G x)) long (family G F d top block (length_at G x))

module _ {G : Graph} {F : SheafData} {x d n top : ℕ} {block : ℕ → DegreeBlock} {long : TupleList}
    (own : HasOwn G F x d n top block long) where
  here : level_vertices G (length_at G x) x
  here = (own.vertex, omega arith)

  some : n ≤ long.count
  some =
      let k = length_at G x in
      let grows : (family G F d top block (length_at G x)).count
      ≡ (family G F d top block (suc (length_at G x))).count + new_count G (length_at G x) block =
      ap (λ (l : TupleList). l.count) (family_next G F d top block k own.shorter) in
      omega (arith, own.few, own.same.count, grows)

  size_is : long.size x ≡ stalk_size G F d x
  size_is = own.same.size x here ∙ family_size G F d top block (length_at G x) x

  value_is : (j c : ℕ) → j < n → c < stalk_size G F d x →
      long.value j x c ≡ (family G F d top block (length_at G x)).value j x c
  value_is j c member inside =
      own.same.value j x c (omega (arith, some, own.same.count, member)) here
      (subst (λ m. c < m) (sym (family_size G F d top block (length_at G x) x)) inside)

  cover_is : (j c : ℕ) → j < n → c < stalk_size G F d x → long.value j x c ≡ vector_at (block x).cover.covers j c
  cover_is j c member inside =
      value_is j c member inside
      ∙ ap (λ (l : TupleList). l.value j x c) (family_next G F d top block (length_at G x) own.shorter)
      ∙ ap (λ (v : ℕ → ℕ). v c) (old_here G (length_at G x) block (family G F d top block (suc (length_at G x))) j x
      (omega (arith, own.few, member)) refl)

  pub own_covers :
      IsOverField G → G.rank ≤ 6 → AgreesAt G F x d (first_members n long) →
      CoverPasses (ComparesCover G F x d (first_members n long) (block x).cover)
  own_covers over wide agree = agreeing_covers G over F x d (first_members n long) (block x).cover wide agree cover_is

pub own_values :
    {A : Type 0} {s : SheafState A} {x d n top : ℕ} {block : ℕ → DegreeBlock} {long : TupleList} → 2 ≤ s.graph.prime →
    BlocksAreBelow s.graph top block → HasOwn s.graph (sheaf_of s) x d n top block long →
    HasValues s d (first_members n long) x
own_values {s = s} {x = x} {d = d} {n = n} {top = top} {block = block} {long = long} two below own = record {
  has = own.same.has x (here own);
  size = size_is own;
  below = λ j c member inside.
      subst (λ m. m < s.graph.prime)
      (sym (value_is own j c member (subst (λ m. c < m) (size_is own) inside)))
      (families_are_below s.graph (sheaf_of s) d top block two below (length_at s.graph x) j x c own.vertex);
}
