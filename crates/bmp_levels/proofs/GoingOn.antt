-- What extends a list with the values of a family has the values of the next family.
use Rattle.std.proofs.Common.{◌≡◌, ℕ, suc, ◌+◌, ◌-◌, ◌<◌, length, cond, leb}
use Rattle.std.proofs.Common.{sym, ap, subst, ◌∙◌, inl, inr, arith}
use Rattle.std.proofs.lemmas.Bool.{cases_eq, cases_lt, cond-true, cond-false, le-leb, lt-leb}
use Rattle.bmp_math.proofs.SumLemmas.{sum_below_same}
use Rattle.bmp_graph.specs.Graph.{Graph, vertex_count, length_at}
use Rattle.bmp_linear.specs.declared.blocks.DegreeBlock.{DegreeBlock}
use Rattle.bmp_linear.specs.Evidence.{vector_at}
use Rattle.bmp_sections.specs.TupleLists.{TupleList}
use Rattle.bmp_levels.specs.Levels.{level_vertices}
use Rattle.bmp_levels.specs.Lists.{SameList}
use Rattle.bmp_levels.specs.Families.{falling, new_at, new_start, new_count, new_value}
use Rattle.bmp_levels.specs.Families.{extended_value, family}
use Rattle.bmp_levels.specs.Statements.{FamiliesGoOn}
use Rattle.bmp_levels.proofs.MemberValues.{new_at_is, new_at_none, at_level, off_level, here_value, away_value}
use Rattle.bmp_levels.proofs.Families.{family_next, family_size}

-- ---- blocks that are the same at the vertices of length k

module _ (G : Graph) (k : ℕ) (own block : ℕ → DegreeBlock)
    (same : (x : ℕ) → x < vertex_count G → length_at G x ≡ k → own x ≡ block x) where
  new_at_same : (x : ℕ) → x < vertex_count G → new_at G k own x ≡ new_at G k block x
  new_at_same x below = elim (cases_eq (length_at G x) k) [
    | inl here ↦
        new_at_is G k own x here ∙ ap (λ (b : DegreeBlock). length b.kernel.basis) (same x below here)
        ∙ sym (new_at_is G k block x here)
    | inr other ↦ new_at_none G k own x other ∙ sym (new_at_none G k block x other)
  ]

  pub new_start_same : (x : ℕ) → x < vertex_count G → new_start G k own x ≡ new_start G k block x
  new_start_same x below =
      sum_below_same (λ b. new_at G k own (falling G b)) (λ b. new_at G k block (falling G b)) (falling G x)
      (λ b l. new_at_same (falling G b) (omega (arith, l, below)))

  pub new_count_same : new_count G k own ≡ new_count G k block
  new_count_same =
      sum_below_same (λ b. new_at G k own (falling G b)) (λ b. new_at G k block (falling G b)) (vertex_count G)
      (λ b l. new_at_same (falling G b) (omega (arith, l)))

  pub here_same :
      (list : TupleList) (j y : ℕ) → y < vertex_count G → length_at G y ≡ k →
      here_value G k own list j y ≡ here_value G k block list j y
  here_same list j y below here =
      ap
      (λ n.
      cond (leb list.count j)
      (cond (leb n (j - list.count)) (vector_at (own y).kernel.basis (j - list.count - n)) (λ c. 0))
      (vector_at (own y).cover.covers j))
      (new_start_same y below)
      ∙ ap
      (λ (b : DegreeBlock).
      cond (leb list.count j)
      (cond (leb (new_start G k block y) (j - list.count))
      (vector_at b.kernel.basis (j - list.count - new_start G k block y)) (λ c. 0))
      (vector_at b.cover.covers j))
      (same y below here)

  pub extended_same :
      (list : TupleList) (j y : ℕ) → y < vertex_count G →
      extended_value G k own list j y ≡ extended_value G k block list j y
  extended_same list j y below = elim (cases_eq (length_at G y) k) [
    | inl here ↦
        at_level G k own list j y here ∙ here_same list j y below here ∙ sym (at_level G k block list j y here)
    | inr other ↦ off_level G k own list j y other ∙ sym (off_level G k block list j y other)
  ]

-- ---- lists with the same values at the longer vertices

module _ (G : Graph) (k : ℕ) (block : ℕ → DegreeBlock) (a b : TupleList)
    (same : SameList (level_vertices G (suc k)) a b) where
  new_here_same : (j y c : ℕ) → here_value G k block a j y c ≡ here_value G k block b j y c
  new_here_same j y c =
      ap
      (λ n. cond {A = ℕ → ℕ} (leb n j) (new_value G k block (j - n) y) (vector_at (block y).cover.covers j) c)
      same.count

  away_same :
      (j y c : ℕ) → level_vertices G (suc k) y → c < b.size y →
      away_value G k block a j y c ≡ away_value G k block b j y c
  away_same j y c inside coordinate =
      ap (λ n. cond {A = ℕ → ℕ} (leb n j) (λ i. 0) (a.value j y) c) same.count
      ∙ elim (cases_lt j b.count) [
        | inl old ↦
            ap (λ (v : ℕ → ℕ). v c) (cond-false {A = ℕ → ℕ} (leb b.count j) (λ i. 0) (a.value j y)
            (lt-leb b.count j old))
            ∙ same.value j y c old inside coordinate
            ∙ ap (λ (v : ℕ → ℕ). v c) (sym (cond-false {A = ℕ → ℕ} (leb b.count j) (λ i. 0) (b.value j y)
            (lt-leb b.count j old)))
        | inr new ↦
            ap (λ (v : ℕ → ℕ). v c) (cond-true {A = ℕ → ℕ} (leb b.count j) (λ i. 0) (a.value j y)
            (le-leb b.count j new))
            ∙ ap (λ (v : ℕ → ℕ). v c) (sym (cond-true {A = ℕ → ℕ} (leb b.count j) (λ i. 0) (b.value j y)
            (le-leb b.count j new)))
      ]

  pub value_same :
      (j y c : ℕ) → level_vertices G k y → c < b.size y →
      extended_value G k block a j y c ≡ extended_value G k block b j y c
  value_same j y c inside coordinate = elim (cases_eq (length_at G y) k) [
    | inl here ↦
        ap (λ (v : ℕ → ℕ). v c) (at_level G k block a j y here) ∙ new_here_same j y c
        ∙ ap (λ (v : ℕ → ℕ). v c) (sym (at_level G k block b j y here))
    | inr other ↦
        let long : k < length_at G y = omega (arith, inside.1) in
        ap (λ (v : ℕ → ℕ). v c) (off_level G k block a j y other) ∙ away_same j y c (inside.0, long) coordinate
        ∙ ap (λ (v : ℕ → ℕ). v c) (sym (off_level G k block b j y other))
  ]

pub families_go_on : FamiliesGoOn
families_go_on G F d top block k own f a below same_blocks same is =
    let next = family G F d top block (suc k) in
    let counts : new_count G k own ≡ new_count G k block = new_count_same G k own block same_blocks in
    subst (SameList (level_vertices G k) f) (sym (family_next G F d top block k below))
    (record {
      count = is.count ∙ ap (λ n. n + new_count G k own) same.count
          ∙ ap (λ n. next.count + n) counts;
      has = is.has;
      size = λ y inside. is.size y inside ∙ sym (family_size G F d top block (suc k) y);
      value = λ j y c is_member inside coordinate.
          is.value j y c (omega (arith, is_member, same.count, counts)) inside
          (subst (λ n. c < n) (family_size G F d top block (suc k) y) coordinate)
          ∙ value_same G k own a next same j y c inside coordinate
          ∙ ap (λ (v : ℕ → ℕ). v c) (extended_same G k own block same_blocks next j y inside.0);
    })
