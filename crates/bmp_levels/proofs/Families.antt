-- Families level by level: the top, the next one, how many members there are, and that the first members are those of
-- the higher levels.
use Rattle.std.proofs.Common.{◌≡◌, ◌≢◌, ℕ, zero, suc, ◌+◌, ◌-◌, ◌<◌, ◌≤◌, true, length, cond, leb, ltb}
use Rattle.std.proofs.Common.{refl, sym, ap, subst, ◌∙◌, inl, inr, arith}
use Rattle.std.proofs.lemmas.Bool.{cases_eq, cases_lt, cond-true, cond-false, le-leb, lt-leb, lt-ltb, le-ltb}
use Rattle.bmp_math.specs.Sums.{sum_below}
use Rattle.bmp_math.proofs.SumLemmas.{sum_below_same, sum_below-zeros, sum_below-add, sum_below-zero, sum_below-suc}
use Rattle.bmp_math.proofs.SumLemmas.{sum_below_joined}
use Rattle.bmp_poly.specs.Exponents.{count}
use Rattle.bmp_graph.specs.Graph.{Graph, vertex_count, length_at}
use Rattle.bmp_linear.specs.declared.blocks.DegreeBlock.{DegreeBlock}
use Rattle.bmp_sheaf.specs.Sheaves.{SheafData}
use Rattle.bmp_sections.specs.TupleLists.{TupleList}
use Rattle.bmp_levels.specs.Levels.{level_vertices}
use Rattle.bmp_levels.specs.Lists.{first_members, SameList}
use Rattle.bmp_levels.specs.Families.{new_at, new_count, extended, stalk_size}
use Rattle.bmp_levels.specs.Families.{top_family, family_down, family, shorter_at, member_count}
use Rattle.bmp_levels.specs.Statements.{FirstMembersAreFamily, FamiliesAreCounted}
use Rattle.bmp_levels.proofs.MemberValues.{old_away, new_at_is, new_at_none}

-- a sum from the last term down
pub sum_turned : (f : ℕ → ℕ) (n : ℕ) → sum_below (λ b. f (n - 1 - b)) n ≡ sum_below f n
sum_turned f zero = sum_below-zero (λ b. f (0 - 1 - b)) ∙ sym (sum_below-zero f)
sum_turned f (suc n) =
    let first : sum_below (λ b. f (suc n - 1 - b)) (suc n) ≡ sum_below (λ b. f (suc n - 1 - b)) (1 + n) =
    ap (sum_below (λ b. f (suc n - 1 - b))) (omega arith) in
    let one : sum_below (λ b. f (suc n - 1 - b)) 1 ≡ f n =
    sum_below-suc (λ b. f (suc n - 1 - b)) 0
    ∙ (let at : suc n - 1 - 0 ≡ n = omega arith in
    omega (arith, sum_below-zero (λ b. f (suc n - 1 - b)), ap f at)) in
    let rest : sum_below (λ b. f (suc n - 1 - (1 + b))) n ≡ sum_below (λ b. f (n - 1 - b)) n =
    sum_below_same (λ b. f (suc n - 1 - (1 + b))) (λ b. f (n - 1 - b)) n (λ b l. ap f (omega arith)) in
    omega (
      arith,
      first,
      one,
      rest,
      sum_turned f n,
      sum_below_joined (λ b. f (suc n - 1 - b)) 1 n,
      sum_below-suc f n,
    )

-- ---- how many members there are

module _ (G : Graph) (top : ℕ) (block : ℕ → DegreeBlock) where
  -- the basis vectors at y, where it is of the level
  abbrev pub held : ℕ → ℕ → ℕ
  held k y = cond (leb k (length_at G y)) (shorter_at G top block y) 0

  pub held_level : (k y : ℕ) → k ≤ length_at G y → held k y ≡ shorter_at G top block y
  held_level k y long =
      cond-true {A = ℕ} (leb k (length_at G y)) (shorter_at G top block y) 0 (le-leb k (length_at G y) long)

  pub held_short : (k y : ℕ) → length_at G y < k → held k y ≡ 0
  held_short k y short =
      cond-false {A = ℕ} (leb k (length_at G y)) (shorter_at G top block y) 0 (lt-leb k (length_at G y) short)

  shorter_is : (y : ℕ) → length_at G y < length_at G top → shorter_at G top block y ≡ length (block y).kernel.basis
  shorter_is y short =
      cond-true {A = ℕ} (ltb (length_at G y) (length_at G top)) (length (block y).kernel.basis) 0
      (lt-ltb (length_at G y) (length_at G top) short)

  shorter_none : (y : ℕ) → length_at G top ≤ length_at G y → shorter_at G top block y ≡ 0
  shorter_none y long =
      cond-false {A = ℕ} (ltb (length_at G y) (length_at G top)) (length (block y).kernel.basis) 0
      (le-ltb (length_at G y) (length_at G top) long)

  pub held_next : (k y : ℕ) → k < length_at G top → held k y ≡ held (suc k) y + new_at G k block y
  held_next k y below = elim (cases_eq (length_at G y) k) [
    | inl here ↦
        omega (
          arith,
          held_level k y (omega arith),
          shorter_is y (omega arith),
          held_short (suc k) y (omega arith),
          new_at_is G k block y here,
        )
    | inr other ↦ elim (cases_lt (length_at G y) k) [
      | inl short ↦
          omega (arith, held_short k y short, held_short (suc k) y (omega arith), new_at_none G k block y other)
      | inr long ↦
          omega (arith, held_level k y long, held_level (suc k) y (omega arith), new_at_none G k block y other)
    ]
  ]

  abbrev pub held_sum : ℕ → ℕ
  held_sum k = sum_below (held k) (vertex_count G)

  pub sum_next : (k : ℕ) → k < length_at G top → held_sum k ≡ held_sum (suc k) + new_count G k block
  sum_next k below =
      sum_below_same (held k) (λ y. held (suc k) y + new_at G k block y) (vertex_count G) (λ y l. held_next k y below)
      ∙ sum_below-add (held (suc k)) (new_at G k block) (vertex_count G)
      ∙ ap (λ n. held_sum (suc k) + n) (sym (sum_turned (new_at G k block) (vertex_count G)))

  pub sum_top : held_sum (length_at G top) ≡ 0
  sum_top =
      sum_below_same (held (length_at G top)) (λ y. 0) (vertex_count G)
      (λ y l. elim (cases_lt (length_at G y) (length_at G top)) [
        | inl short ↦ held_short (length_at G top) y short
        | inr long ↦ held_level (length_at G top) y long ∙ shorter_none y long
      ])
      ∙ sum_below-zeros (vertex_count G)

  -- as many where no vertex has a length in between
  pub same_sums :
      (k l : ℕ) → k ≤ l → ((y : ℕ) → y < vertex_count G → k ≤ length_at G y → l ≤ length_at G y) →
      held_sum l ≡ held_sum k
  same_sums k l order gap =
      sum_below_same (held l) (held k) (vertex_count G)
      (λ y below. elim (cases_lt (length_at G y) k) [
        | inl short ↦ held_short l y (omega (arith, short, order)) ∙ sym (held_short k y short)
        | inr long ↦ held_level l y (gap y below long) ∙ sym (held_level k y long)
      ])

-- ---- families

module _ (G : Graph) (F : SheafData) (d top : ℕ) (block : ℕ → DegreeBlock) where
  pub family_top : family G F d top block (length_at G top) ≡ top_family G F d top
  unfolding family_down
  family_top = let none : length_at G top - length_at G top ≡ 0 = omega arith in ap (family_down G F d top block) none

  pub family_next :
      (k : ℕ) → k < length_at G top → family G F d top block k ≡ extended G k block (family G F d top block (suc k))
  unfolding family_down
  family_next k below =
      let n = length_at G top - suc k in
      let steps : length_at G top - k ≡ suc (length_at G top - suc k) = omega arith in
      let here : length_at G top - suc (length_at G top - suc k) ≡ k = omega arith in
      ap (family_down G F d top block) steps ∙ ap (λ l. extended G l block (family_down G F d top block n)) here

  size_down : (n y : ℕ) → (family_down G F d top block n).size y ≡ stalk_size G F d y
  unfolding family_down
  size_down zero y = refl
  size_down (suc n) y = size_down n y

  pub family_size : (k y : ℕ) → (family G F d top block k).size y ≡ stalk_size G F d y
  family_size k y = size_down (length_at G top - k) y

  counted_from :
      (n k : ℕ) → k + n ≡ length_at G top → (family G F d top block k).count ≡ count G.rank d + held_sum G top block k
  counted_from zero k total =
      let same : k ≡ length_at G top = omega arith in
      let at_top : (family G F d top block k).count ≡ count G.rank d =
      ap (λ l. (family G F d top block l).count) same ∙ ap (λ (l : TupleList). l.count) family_top in
      omega (arith, at_top, ap (held_sum G top block) same, sum_top G top block)
  counted_from (suc n) k total =
      let next : (family G F d top block k).count ≡ (family G F d top block (suc k)).count + new_count G k block =
      ap (λ (l : TupleList). l.count) (family_next k (omega arith)) in
      omega (arith, next, counted_from n (suc k) (omega arith), sum_next G top block k (omega arith))

  pub family_counted :
      (k : ℕ) → k ≤ length_at G top → (family G F d top block k).count ≡ member_count G d top block k
  family_counted k below = counted_from (length_at G top - k) k (omega arith)

  -- ---- the first members

  -- a list whose first members are a family over a higher level
  record IsPrefix (l : ℕ) (list : TupleList) : Type 0 where
    fewer : (family G F d top block l).count ≤ list.count
    same :
        SameList (level_vertices G l) (first_members (family G F d top block l).count list) (family G F d top block l)

  pub has_family : (k y : ℕ) → k ≤ length_at G top → k ≤ length_at G y → (family G F d top block k).has y ≡ true
  has_family k y below long = elim (cases_lt k (length_at G top)) [
    | inl short ↦
        ap (λ (l : TupleList). l.has y) (family_next k short) ∙ le-leb k (length_at G y) long
    | inr top_long ↦
        let same : k ≡ length_at G top = omega arith in
        ap (λ l. (family G F d top block l).has y) same ∙ ap (λ (l : TupleList). l.has y) family_top
        ∙ le-leb (length_at G top) (length_at G y) (omega arith)
  ]

  is_prefix : (k : ℕ) → k ≤ length_at G top → IsPrefix k (family G F d top block k)
  is_prefix k below = record {
    fewer = omega arith;
    same = record {
      count = refl;
      has = λ y inside. has_family k y below inside.1;
      size = λ y inside. refl;
      value = λ j y c is_member inside coordinate. refl;
    };
  }

  prefix_extended : (k l : ℕ) (list : TupleList) → k < l → IsPrefix l list → IsPrefix l (extended G k block list)
  prefix_extended k l list below p = record {
    fewer = omega (arith, p.fewer);
    same = record {
      count = refl;
      has = λ y inside. le-leb k (length_at G y) (omega (arith, inside.1));
      size = λ y inside. p.same.size y inside;
      value = λ j y c is_member inside coordinate.
          let other : length_at G y ≢ k = λ same. omega (arith, inside.1, same) in
          ap (λ (v : ℕ → ℕ). v c) (old_away G k block list j y (omega (arith, is_member, p.fewer)) other)
          ∙ p.same.value j y c is_member inside coordinate;
    };
  }

  prefix_from : (n k l : ℕ) → k + n ≡ l → l ≤ length_at G top → IsPrefix l (family G F d top block k)
  prefix_from zero k l total below =
      let same : l ≡ k = omega arith in
      subst (λ m. IsPrefix m (family G F d top block k)) (sym same) (is_prefix k (omega arith))
  prefix_from (suc n) k l total below =
      subst (IsPrefix l) (sym (family_next k (omega arith)))
      (prefix_extended k l (family G F d top block (suc k)) (omega arith) (prefix_from n (suc k) l (omega arith) below))

  pub first_members_are_family :
      (k l : ℕ) → k ≤ l → l ≤ length_at G top →
      ((family G F d top block l).count ≤ (family G F d top block k).count)
      × SameList (level_vertices G l) (first_members (family G F d top block l).count (family G F d top block k))
      (family G F d top block l)
  first_members_are_family k l order below =
      let p : IsPrefix l (family G F d top block k) = prefix_from (l - k) k l (omega arith) below in
      (p.fewer, p.same)

pub families_are_counted : FamiliesAreCounted
families_are_counted = family_counted

pub prefixes_are_families : FirstMembersAreFamily
prefixes_are_families = first_members_are_family
