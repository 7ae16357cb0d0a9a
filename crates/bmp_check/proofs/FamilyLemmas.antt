-- Families of shaped parts: what makes them fits, and what the checks of a block by levels are given.
use Rattle.std.proofs.Common.{◌≡◌, ◌↔◌, ℕ, suc, ◌+◌, ◌-◌, ◌<◌, ◌≤◌, ltb, ◌&&◌, List, [], ◌∷◌, ◌++◌, length, get_or, refl, sym, ap, subst, ◌∙◌, inl, inr, arith, length-append}
use Rattle.std.specs.List.{All}
use Rattle.std.proofs.lemmas.Bool.{cases_eq}
use Rattle.std.proofs.lemmas.List.{get_or_append_left, get_or-append_right}
use Rattle.std.proofs.lemmas.List.Elements.{All-weaker}
use Rattle.bmp_graph.specs.Graph.{Graph, IsGraph, vertex_count, length_at}
use Rattle.bmp_graph.proofs.GraphLemmas.{IsAbove-higher}
use Rattle.bmp_linear.specs.declared.vector.Entry.{Entry}
use Rattle.bmp_linear.specs.declared.blocks.DegreeBlock.{DegreeBlock}
use Rattle.bmp_linear.specs.SparseVectors.{FitsBelow, ValuesBelow}
use Rattle.bmp_sheaf.specs.Sheaves.{SheafData}
use Rattle.bmp_sheaf.specs.States.{SheafState, sheaf_of}
use Rattle.bmp_sections.specs.Sections.{above}
use Rattle.bmp_sections.specs.TupleLists.{TupleList}
use Rattle.bmp_cover.specs.BradenMacPherson.{IsTopVertex}
use Rattle.bmp_sheaf.specs.Fields.{IsOverField}
use Rattle.bmp_cover.specs.CoverChecks.{ComparesCover, CoverCompares, CoverPasses}
use Rattle.bmp_cover.specs.CoverInputs.{HasValues, HasTuples}
use Rattle.bmp_cover.specs.declared.fault.CoverFault.{CoverFault}
use Rattle.bmp_levels.specs.Agreement.{AgreesAt}
use Rattle.bmp_levels.specs.Levels.{level_vertices}
use Rattle.bmp_levels.specs.Lists.{first_members, SameList}
use Rattle.bmp_levels.specs.Runs.{FamilyTable, list_of}
use Rattle.bmp_levels.specs.Families.{stalk_size, family, member_count}
use Rattle.bmp_levels.specs.Statements.{BlocksAreBelow}
use Rattle.bmp_levels.specs.Extensions.{HasTop, AllFit}
use Rattle.bmp_levels.proofs.Families.{family_size}
use Rattle.bmp_levels.proofs.Comparing.{comparisons_agree}
use Rattle.bmp_levels.proofs.Below.{has_tuples}
use Rattle.bmp_levels.proofs.OwnValues.{HasOwn, own_values, own_covers}
use Rattle.bmp_cert.specs.Counts.{Written, part_of}
use Rattle.bmp_check.specs.declared.degree_blocks.DegreeBlocks.{DegreeBlocks}
use Rattle.bmp_check.specs.declared.method.Method.{Method}
use Rattle.bmp_check.specs.declared.method.Method.TheVariants.{Levels}
use Rattle.bmp_check.specs.declared.sizes.SizeTable.{SizeTable}
use Rattle.bmp_check.specs.BlockData.{block_of, top_vertex, family_at}
use Rattle.bmp_check.specs.Sizes.{counts_at}
use Rattle.bmp_check.specs.DegreeBlocks.{has_block, block_at}
use Rattle.bmp_check.specs.Fits.{IsVectorIn}
use Rattle.bmp_check.specs.Methods.{method_of}
use Rattle.bmp_check.specs.PartsSheaf.{parts_sheaf}
use Rattle.bmp_check.specs.Shaped.{IsShaped}
use Rattle.bmp_check.specs.declared.setting.Setting.{Setting}
use Rattle.bmp_check.specs.declared.shaped.Shaped.{Shaped}
use Rattle.bmp_check.specs.Settings.{no_family, family_from, HoldsFamilies, AreFamilies, shaped_in, IsSet}
use Rattle.bmp_check.specs.ShapedViews.{written_in, graph_in, method_at, cert_in, IsWhole}
use Rattle.bmp_check.specs.Verdicts.{HasBlock, TopPasses, CoverComparesAt}
use Rattle.bmp_check.proofs.InputLemmas.{IsAtBlock, at_block, prime_is, has_stalks}
use Rattle.bmp_check.proofs.CheckableLemmas.{over_field}
use Rattle.bmp_check.proofs.Soundness.{top_degrees}
use Rattle.bmp_check.proofs.TupleCountLemmas.{tuples_counted, has_its_block, not_greatest}
use Rattle.bmp_check.proofs.SheafLemmas.{in_memory, as_written}

module _ {G : Graph} {v : ℕ} {c : Written} {t : SizeTable} {F : Type 0} {s : SheafState F} (whole : IsShaped G v c t s)
    (levels : method_of v ≡ Levels) where
  at_level : (x d : ℕ) → HasBlock G c x d → IsAtBlock G Levels c s x d
  at_level x d block = subst (λ (m : Method). IsAtBlock G m c s x d) levels (at_block whole x d block)

  -- what is written holds of the sheaf in memory
  kept : (P : Graph → SheafData → Type 0) → P G (parts_sheaf G c) → P s.graph (sheaf_of s)
  kept = in_memory G c whole.count s whole.sheaf

  pub has_top : TopPasses G c → HasTop s
  has_top passes =
      let n : vertex_count s.graph ≡ vertex_count G = ap (λ (H : Graph). vertex_count H) whole.sheaf.graph in
      let one : (part_of c (top_vertex G)).degrees ≡ 0 ∷ [] =
      subst (λ k. (part_of c (k - 1)).degrees ≡ 0 ∷ []) whole.count (top_degrees c passes) in
      record {
        is_top = kept (λ (H : Graph) (S : SheafData). IsTopVertex H (vertex_count H - 1))
            whole.checkable.on.last_is_top;
        one = kept (λ (H : Graph) (S : SheafData). S.degrees (vertex_count H - 1) ≡ 0 ∷ []) one;
      }

  module _ (d : ℕ) (within : d ≤ c.degree) where
    abbrev blocks : ℕ → DegreeBlock
    blocks y = block_of c y d

    -- a vertex of the graph in memory that is shorter than the greatest
    has_own : (x : ℕ) → x < vertex_count s.graph → length_at s.graph x < length_at s.graph (vertex_count s.graph - 1) →
        HasBlock G c x d
    has_own x vertex shorter =
        let read = whole.sheaf.graph in (
          not_greatest G x (subst (λ (H : Graph). x < vertex_count H) read vertex)
              (subst (λ (H : Graph). length_at H x < length_at H (vertex_count H - 1)) read shorter),
          within,
        )

    all_fit : AllFit s d (λ x. ltb x (length c.parts) && ltb d (length (part_of c x).blocks)) blocks
    all_fit x vertex shorter =
        let block = has_own x vertex shorter in
        let at = at_level x d block in
        let own : DegreeBlock = block_of c x d in
        let counted : length own.cover.covers ≡ member_count G d (top_vertex G) blocks (suc (length_at G x)) =
        at.fits.cover_for_each ∙ sym (tuples_counted G Levels c whole.checkable.on.last_is_top x d block.0) in (
          has_its_block c whole.checkable.formed d within x (omega (arith, block.0, whole.count)),
          record {
            there = (has_stalks at).there;
            few = (has_stalks at).few;
            covers = kept (λ (H : Graph) (S : SheafData). length own.cover.covers ≤ member_count H d
                (vertex_count H - 1) blocks (suc (length_at H x))) (omega (arith, counted));
            covers_fit = kept
                (λ (H : Graph) (S : SheafData). All (λ v. FitsBelow v (stalk_size H S d x)) own.cover.covers)
                (All-weaker (IsVectorIn G.prime (counts_at G Levels c x d).stalk)
                (λ (v : List Entry). FitsBelow v (stalk_size G (parts_sheaf G c) d x)) (λ v in_it. in_it.fits)
                own.cover.covers at.fits.covers);
            basis_fit = kept (λ (H : Graph) (S : SheafData). All (λ v. FitsBelow v (stalk_size H S d x))
                own.kernel.basis) at.fits.kernel.basis_fits;
          },
        )

    -- the same of the blocks in memory
    pub blocks_fit : (b : DegreeBlocks) → written_in b.given ≡ c → b.degree ≡ d → AllFit s d (has_block b) (block_at b)
    blocks_fit b is degree =
        subst (λ e. AllFit s d
        (λ x. ltb x (length b.given.parts.now) && ltb e (length (part_of (written_in b.given) x).blocks))
        (λ x. block_of (written_in b.given) x e)) (sym degree)
        (subst (λ (w : Written). AllFit s d (λ x. ltb x (length w.parts) && ltb d (length (part_of w x).blocks))
        (λ x. block_of w x d)) (sym is) all_fit)

    blocks_below : BlocksAreBelow s.graph (vertex_count s.graph - 1) blocks
    blocks_below = record {
      basis = λ x vertex shorter.
          let at = at_level x d (has_own x vertex shorter) in
          subst (λ p. All (λ (v : List Entry). ValuesBelow v p) (block_of c x d).kernel.basis) (sym (prime_is at))
          at.fits.kernel_below.basis_below;
      covers = λ x vertex shorter.
          let at = at_level x d (has_own x vertex shorter) in
          let covers = (block_of c x d).cover.covers in
          subst (λ p. All (λ (v : List Entry). ValuesBelow v p) covers) (sym (prime_is at))
          (All-weaker (IsVectorIn G.prime (counts_at G Levels c x d).stalk) (λ (v : List Entry). ValuesBelow v G.prime)
          (λ v in_it. in_it.below) covers at.fits.covers);
    }

    -- a list with the values of the family over the longer vertices
    module _ (x : ℕ) {list : TupleList}
        (same : SameList (level_vertices G (suc (length_at G x))) list (family_at G c x d)) where
      pub member_tuples : HasTuples s x d list
      member_tuples =
          let over = over_field whole.checkable.on in
          has_tuples x (subst IsGraph (sym whole.sheaf.graph) whole.checkable.on.graph)
          (kept (λ (H : Graph) (S : SheafData). 2 ≤ H.prime) over.two) blocks_below
          (kept (λ (H : Graph) (S : SheafData). SameList (level_vertices H (suc (length_at H x))) list
          (family H S d (vertex_count H - 1) blocks (suc (length_at H x)))) same)

      same_above : SameList (above G x) list (family_at G c x d)
      same_above =
          let long : (y : ℕ) → above G x y → level_vertices G (suc (length_at G x)) y =
          λ y high. let h = IsAbove-higher G whole.checkable.on.graph y x high in (h.is_vertex, h.longer) in
          record {
            count = same.count;
            has = λ y high. same.has y (long y high);
            size = λ y high. same.size y (long y high);
            value = λ j y k member high coordinate. same.value j y k member (long y high) coordinate;
          }

      pub same_comparisons : (r : CoverFault) → CoverCompares G (parts_sheaf G c) x d list (block_of c x d).cover r ↔
          CoverComparesAt G Levels c x d r
      same_comparisons =
          comparisons_agree G (parts_sheaf G c) x d list (family_at G c x d) (block_of c x d).cover
          (over_field whole.checkable.on)
          whole.checkable.on.few_variables same_above
          (λ y high. family_size G (parts_sheaf G c) d (top_vertex G) blocks (suc (length_at G x)) y)

-- ---- the members that a block speaks of

module _
    {G : Graph} {v : ℕ} {c : Written} {t : SizeTable} {F : Type 0} {s : SheafState F} (whole : IsShaped G v c t s)
    (levels : method_of v ≡ Levels)
    (x d : ℕ) (block : HasBlock G c x d) {own : DegreeBlock} (is : own ≡ block_of c x d) where
  covers_are : length own.cover.covers ≡ (family_at G c x d).count
  covers_are = ap (λ (b : DegreeBlock). length b.cover.covers) is
      ∙ (at_level whole levels x d block).fits.cover_for_each

  shorter : suc (length_at G x) ≤ length_at G (top_vertex G)
  shorter = whole.checkable.on.last_is_top.longest x (omega (arith, block.0)) (λ same. omega (arith, same, block.0))

  pub members_room : {n room : ℕ} → n ≡ length own.cover.covers → (counts_at G (method_of v) c x d).tuples ≤ room →
      n ≤ room
  members_room {room = room} counted enough =
      let fits = subst (λ (m : Method). (counts_at G m c x d).tuples ≤ room) levels enough in
      omega (arith, counted, covers_are, fits)

  module _ (f : FamilyTable) (holds : HoldsFamilies G c d f) where
    pub members_there : {n : ℕ} → n ≡ length own.cover.covers → n ≤ f.count
    members_there counted = let few = (holds (suc (length_at G x)) shorter).0 in omega (arith, few, counted, covers_are)

    -- m and h are the number and the family as they are read
    pub members_same :
        {m n : ℕ} {h : FamilyTable} → m ≡ n → h ≡ f → n ≡ length own.cover.covers →
        SameList (level_vertices G (suc (length_at G x))) (first_members m (list_of h)) (family_at G c x d)
    members_same {m = m} {n = n} {h = h} number family counted =
        subst (λ k. SameList (level_vertices G (suc (length_at G x))) (first_members k (list_of h)) (family_at G c x d))
        (sym (number ∙ counted ∙ covers_are))
        (subst (λ (g : FamilyTable). SameList (level_vertices G (suc (length_at G x)))
        (first_members (family_at G c x d).count (list_of g)) (family_at G c x d)) (sym family)
        (holds (suc (length_at G x)) shorter).1)

    -- the values at x itself
    written_own : {m n : ℕ} {h : FamilyTable} → m ≡ n → h ≡ f → n ≡ length own.cover.covers →
        HasOwn G (parts_sheaf G c) x d m (top_vertex G) (λ y. block_of c y d) (first_members
        (family_from G c d (length_at G x)).count (list_of h))
    written_own {m = m} {n = n} {h = h} number family counted =
        let k = length_at G x in
        let low : length_at G x ≤ length_at G (top_vertex G) = omega (arith, shorter) in
        let count : m ≡ (family_at G c x d).count = number ∙ counted ∙ covers_are in
        record {
          vertex = omega (arith, block.0);
          shorter = omega (arith, shorter);
          few = omega (arith, count);
          same = subst (λ (g : FamilyTable). SameList (level_vertices G (length_at G x))
              (first_members (family_from G c d (length_at G x)).count (list_of g)) (family_from G c d (length_at G x)))
              (sym family) (holds k low).1;
        }

    memory_own : {m n : ℕ} {h : FamilyTable} → m ≡ n → h ≡ f → n ≡ length own.cover.covers →
        HasOwn s.graph (sheaf_of s) x d m (vertex_count s.graph - 1) (λ y. block_of c y d) (first_members
        (family_from G c d (length_at G x)).count (list_of h))
    memory_own {m = m} {h = h} number family counted =
        kept whole levels (λ (H : Graph) (S : SheafData). HasOwn H S x d m (vertex_count H - 1) (λ y. block_of c y d)
        (first_members (family_from G c d (length_at G x)).count (list_of h)))
        (written_own number family counted)

    pub members_own : {m n : ℕ} {h : FamilyTable} → m ≡ n → h ≡ f → n ≡ length own.cover.covers →
        HasValues s d (first_members m (list_of h)) x
    members_own number family counted =
        own_values
        (kept whole levels (λ (H : Graph) (S : SheafData). 2 ≤ H.prime) (over_field whole.checkable.on).two)
        (blocks_below whole levels d block.1) (memory_own number family counted)

    pub members_known : {m n : ℕ} {h : FamilyTable} → m ≡ n → h ≡ f → n ≡ length own.cover.covers →
        AgreesAt s.graph (sheaf_of s) x d (first_members m (list_of h)) →
        CoverPasses (ComparesCover s.graph (sheaf_of s) x d (first_members m (list_of h)) (block_of c x d).cover)
    members_known number family counted =
        own_covers (memory_own number family counted)
        (kept whole levels (λ (H : Graph) (S : SheafData). IsOverField H) (over_field whole.checkable.on))
        (kept whole levels (λ (H : Graph) (S : SheafData). H.rank ≤ 6) whole.checkable.on.few_variables)

-- ---- the families that are made

abbrev pub HoldsIn : (ℕ → DegreeBlock) → ℕ → FamilyTable → Graph → SheafData → Type 0
HoldsIn blocks d f H S =
    (k : ℕ) → k ≤ length_at H (vertex_count H - 1) →
    ((family H S d (vertex_count H - 1) blocks k).count ≤ f.count)
    × SameList (level_vertices H k) (first_members (family H S d (vertex_count H - 1) blocks k).count (list_of f))
    (family H S d (vertex_count H - 1) blocks k)

module _ {G : Graph} {v : ℕ} {c : Written} {t : SizeTable} {F : Type 0} {s : SheafState F} (whole : IsShaped G v c t s)
  where
    -- of blocks b and a sheaf u that are read
    pub families_written :
        (b : DegreeBlocks) {u : SheafState F} (f : FamilyTable) → written_in b.given ≡ c → u ≡ s →
        HoldsIn (block_at b) b.degree f u.graph (sheaf_of u) → HoldsFamilies G c b.degree f
    families_written b {u = u} f is same h =
        as_written G c whole.count s whole.sheaf (HoldsIn (λ y. block_of c y b.degree) b.degree f)
        (subst (λ (w : SheafState F). HoldsIn (λ y. block_of c y b.degree) b.degree f w.graph (sheaf_of w)) same
        (subst (λ (e : Written). HoldsIn (λ y. block_of e y b.degree) b.degree f u.graph (sheaf_of u)) is h))

pub families_none : (G : Graph) (c : Written) → AreFamilies G c 0 []
families_none G c = record { sized = refl; each = λ d below. absurd (omega arith) }

pub families_more :
    (G : Graph) (c : Written) (n : ℕ) (fs : List FamilyTable) (f : FamilyTable) {all : List FamilyTable} →
    all ≡ fs ++ f ∷ [] →
    AreFamilies G c n fs → HoldsFamilies G c n f → AreFamilies G c (n + 1) all
families_more G c n fs f {all = all} pushed made holds = record {
  sized = omega (arith, ap length pushed, length-append fs (f ∷ []), made.sized);
  each = λ d below. elim (cases_eq d n) [
    | inl last ↦
        let here : get_or all d no_family ≡ f =
        ap (λ (l : List FamilyTable). get_or l d no_family) pushed
        ∙ get_or-append_right fs (f ∷ []) n d no_family made.sized (omega arith)
        ∙ ap (λ k. get_or (f ∷ []) k no_family) (let none : d - n ≡ 0 = omega arith in none) in
        subst (λ (g : FamilyTable). HoldsFamilies G c d g) (sym here)
        (subst (λ e. HoldsFamilies G c e f) (sym last) holds)
    | inr other ↦
        let here : get_or all d no_family ≡ get_or fs d no_family =
        ap (λ (l : List FamilyTable). get_or l d no_family) pushed
        ∙ get_or_append_left fs (f ∷ []) no_family d (omega (arith, made.sized, below, other)) in
        subst (λ (g : FamilyTable). HoldsFamilies G c d g) (sym here) (made.each d (omega (arith, below, other)))
  ];
}

-- what is set holds of the parts as they are read
module _ {s : Setting} {u : Shaped} (same : u ≡ shaped_in s) (set : IsSet s) where
  pub set_whole : IsWhole u
  set_whole = subst IsWhole (sym same) set.whole

  pub set_families : method_at u ≡ Levels →
      AreFamilies (graph_in u) (cert_in u) ((cert_in u).degree + 1) s.families.items
  set_families = subst (λ (w : Shaped). method_at w ≡ Levels →
      AreFamilies (graph_in w) (cert_in w) ((cert_in w).degree + 1) s.families.items) (sym same) set.families
