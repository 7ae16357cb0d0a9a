-- From one level to the next: the blocks of the vertices of one length fit the families over the longer ones, and what
-- extends these are the families over the level.
use Rattle.std.proofs.Common.{◌≡◌, ℕ, suc, ◌+◌, ◌-◌, ◌<◌, ◌≤◌, ◌^◌, ltb, ◌&&◌, IsTrue, List, [], ◌∷◌, ◌++◌, length, get_or, sym, ap, ap₂, subst, ◌∙◌, inl, inr, arith}
use Rattle.std.specs.Prelude.{All}
use Rattle.std.specs.List.{remove}
use Rattle.std.proofs.lemmas.Bool.{cases_eq, and_from, lt-ltb}
use Rattle.std.proofs.lemmas.List.{get_or_append_left, get_or_push, get_or_default, length_push}
use Rattle.bmp_graph.specs.Graph.{Graph, vertex_count, length_at}
use Rattle.bmp_linear.specs.declared.blocks.DegreeBlock.{DegreeBlock}
use Rattle.bmp_linear.specs.SparseVectors.{FitsBelow}
use Rattle.bmp_sheaf.specs.States.{SheafState, sheaf_of}
use Rattle.bmp_levels.specs.Extensions.{BlockFits, HoldsLevel, LevelFits, IsExtension}
use Rattle.bmp_levels.specs.Families.{extended, family, stalk_size}
use Rattle.bmp_levels.specs.Levels.{level_vertices}
use Rattle.bmp_levels.specs.Lists.{sized, SameList}
use Rattle.bmp_levels.specs.Runs.{FamilyTable, list_of}
use Rattle.bmp_levels.proofs.GoingOn.{families_go_on}
use Rattle.bmp_cert.specs.declared.cert.VertexPart.{VertexPart}
use Rattle.bmp_cert.specs.Counts.{Written, no_part, part_of}
use Rattle.bmp_check.specs.Accepted.{IsCheckableGraph}
use Rattle.bmp_check.specs.BlockData.{no_block, block_of, family_at, top_vertex}
use Rattle.bmp_check.specs.PartsSheaf.{parts_sheaf}
use Rattle.bmp_check.proofs.TupleCountLemmas.{not_greatest}
use Rattle.bmp_stalk.specs.BuiltParts.{no_family}
use Rattle.bmp_build.specs.declared.level_parts.LevelParts.{LevelParts}
use Rattle.bmp_build.specs.BuiltGraphs.{IsBuiltAt}
use Rattle.bmp_build.specs.Building.{Continues, HoldsFamily, IsBuiltDown, IsLevelThere, has_block, block_at}
use Rattle.bmp_build.proofs.BuiltVertices.{passes_at, has_blocks}
use Rattle.bmp_build.proofs.Downward.{part_there, own_vertices, pushed, filled, continues, size_there}

-- the blocks of degree d of these parts
pub record IsOfParts (G : Graph) (parts : List VertexPart) (d : ℕ) (b : LevelParts) : Type 0 where
  pub parts_are : b.parts.now ≡ parts
  pub vertices : b.vertices ≡ vertex_count G
  pub degree : b.degree ≡ d

module _ {G : Graph} {d : ℕ} {parts : List VertexPart} {b : LevelParts} (of : IsOfParts G parts d b) where
  part_in : (x : ℕ) →
      get_or b.parts.now (b.vertices - 1 - x) no_part ≡ get_or parts (vertex_count G - 1 - x) no_part
  part_in x = ap₂ (λ (l : List VertexPart) (n : ℕ). get_or l (n - 1 - x) no_part) of.parts_are of.vertices

  pub block_is : {D : ℕ} {c : Written} → Continues G D parts c → (x : ℕ) → x < vertex_count G →
      vertex_count G ≤ x + length parts → block_at b x ≡ block_of c x d
  block_is more x below there =
      ap₂ (λ (p : VertexPart) (e : ℕ). get_or p.blocks e no_block) (part_in x ∙ sym (part_there more x below there))
      of.degree

  -- there is one
  pub block_there : {D : ℕ} {c : Written} → Continues G D parts c → (x : ℕ) → x < vertex_count G →
      vertex_count G ≤ x + length parts → d < length (part_of c x).blocks → IsTrue (has_block b x)
  block_there {c = c} more x below there within =
      let own : get_or b.parts.now (b.vertices - 1 - x) no_part ≡ part_of c x =
      part_in x ∙ sym (part_there more x below there) in
      let blocks : length (get_or b.parts.now (b.vertices - 1 - x) no_part).blocks ≡ length (part_of c x).blocks =
      ap (λ (p : VertexPart). length p.blocks) own in
      and_from (ltb x b.vertices)
      (ltb (b.vertices - 1 - x) (length b.parts.now)
      && ltb b.degree (length (get_or b.parts.now (b.vertices - 1 - x) no_part).blocks))
      (lt-ltb x b.vertices (omega (arith, below, of.vertices)))
      (and_from (ltb (b.vertices - 1 - x) (length b.parts.now))
      (ltb b.degree (length (get_or b.parts.now (b.vertices - 1 - x) no_part).blocks))
      (lt-ltb (b.vertices - 1 - x) (length b.parts.now)
      (omega (arith, below, there, of.vertices, ap length of.parts_are)))
      (lt-ltb b.degree (length (get_or b.parts.now (b.vertices - 1 - x) no_part).blocks)
      (omega (arith, blocks, of.degree, within))))

-- ---- one degree

module _
    {A : Type 0} {G : Graph} {D k : ℕ} {s : SheafState A} {parts : List VertexPart} {families : List FamilyTable}
    (on : IsCheckableGraph G) (h : IsBuiltDown G D (suc k) k s parts families) (all : IsLevelThere G k parts)
    (short : k < length_at G (top_vertex G)) {d : ℕ} (within : d ≤ D) {f : FamilyTable}
    (hold : HoldsFamily G D (suc k) parts s d f) {b : LevelParts} (of : IsOfParts G parts d b) where
  block_fits : (x : ℕ) → x < vertex_count G → length_at G x ≡ k → IsTrue (has_block b x)
      × BlockFits s d f.count x (block_at b x)
  block_fits x below here =
      let there = all.there x below (omega (arith, here)) in
      let vertex : x + 1 < vertex_count G = not_greatest G x below (omega (arith, here, short)) in
      let at : IsBuiltAt A G (filled h) x = (h.vertices x vertex there).built (filled h) (continues h) in
      let fits = (passes_at on (continues h).counted vertex at d within).fits in
      let own = block_of (filled h) x d in
      let size : stalk_size s.graph (sheaf_of s) d x ≡ stalk_size G (parts_sheaf G (filled h)) d x =
      size_there h (continues h) d x below there in
      let members : (family_at G (filled h) x d).count ≡ f.count =
      ap (λ n. (family G (parts_sheaf G (filled h)) d (top_vertex G) (λ y. block_of (filled h) y d) (suc n)).count) here
      ∙ sym (hold.same (filled h) (continues h)).count in (
        block_there of (continues h) x below there
            (let sized = has_blocks on (continues h).counted vertex at in omega (arith, sized, within)),
        subst (λ (a : DegreeBlock). BlockFits s d f.count x a) (sym (block_is of (continues h) x below there))
            (record {
              there = (omega (arith, below, own_vertices h), omega (arith, there, own_vertices h, pushed h));
              few = subst (λ n. n < 2 ^ 32) (sym size) fits.few;
              covers = omega (arith, fits.covers, members);
              covers_fit = subst (λ n. All (λ v. FitsBelow v n) own.cover.covers) (sym size) fits.covers_fit;
              basis_fit = subst (λ n. All (λ v. FitsBelow v n) own.kernel.basis) (sym size)
                  fits.kernel_fits.basis_fits;
            }),
      )

  pub level_fits : LevelFits s k d f.count (has_block b) (block_at b)
  level_fits x below here =
      block_fits x (omega (arith, below, own_vertices h)) (subst (λ (H : Graph). length_at H x ≡ k) h.graph here)

  module _ {new : FamilyTable} (holds : HoldsLevel s k d new)
      (extension : IsExtension s k d (block_at b) f new) where
    on_graph : SameList (level_vertices G k) (list_of new)
        (sized (stalk_size s.graph (sheaf_of s) d) (extended G k (block_at b) (list_of f)))
    on_graph =
        subst (λ (H : Graph). SameList (level_vertices H k) (list_of new)
        (sized (stalk_size s.graph (sheaf_of s) d) (extended H k (block_at b) (list_of f)))) h.graph extension

    pub next_family : HoldsFamily G D k parts s d new
    next_family = record {
      holds = holds;
      same = λ c more.
          let size : (y : ℕ) → level_vertices G k y →
          stalk_size s.graph (sheaf_of s) d y ≡ stalk_size G (parts_sheaf G c) d y =
          λ y inside. size_there h more d y inside.0 (all.there y inside.0 inside.1) in
          families_go_on G (parts_sheaf G c) d (top_vertex G) (λ y. block_of c y d) k (block_at b) (list_of new)
          (list_of f) short
          (λ x below here. block_is of more x below (all.there x below (omega (arith, here)))) (hold.same c more)
          (record {
            count = on_graph.count;
            has = on_graph.has;
            size = λ y inside. on_graph.size y inside ∙ size y inside;
            value = λ j y m is_member inside coordinate.
                on_graph.value j y m is_member inside (subst (λ n. m < n) (sym (size y inside)) coordinate);
          });
    }

-- ---- all degrees, one after the other: the first goes out, and the next one comes in behind

pub record IsTurned (P Q : ℕ → FamilyTable → Type 0) (n d : ℕ) (items : List FamilyTable) : Type 0 where
  pub counted : length items ≡ n
  pub old : (e : ℕ) → d ≤ e → e < n → P e (get_or items (e - d) no_family)
  pub new : (e : ℕ) → e < d → Q e (get_or items (n - d + e) no_family)

pub turned_first : {P Q : ℕ → FamilyTable → Type 0} {n : ℕ} {items : List FamilyTable} → length items ≡ n →
    ((e : ℕ) → e < n → P e (get_or items e no_family)) → IsTurned P Q n 0 items
turned_first {P = P} {items = items} counted each = record {
  counted = counted;
  old = λ e from below.
      let same : e ≡ e - 0 = omega arith in
      subst (λ i. P e (get_or items i no_family)) same (each e below);
  new = λ e below. absurd (omega (arith, below));
}

-- behind the first
rest_at : (xs : List FamilyTable) (y : FamilyTable) (i : ℕ) → i + 1 < length xs →
    get_or (remove xs 0 ++ y ∷ []) i no_family ≡ get_or xs (i + 1) no_family
rest_at [] y i below = absurd (omega (arith, below))
rest_at (x ∷ xs) y i below =
    let next : suc i ≡ i + 1 = omega arith in
    get_or_append_left xs (y ∷ []) no_family i (omega (arith, below))
    ∙ ap (λ j. get_or (x ∷ xs) j no_family) next

rest_length : (xs : List FamilyTable) → 0 < length xs → length (remove xs 0) + 1 ≡ length xs
rest_length [] some = absurd (omega (arith, some))
rest_length (x ∷ xs) some = omega arith

module _ {P Q : ℕ → FamilyTable → Type 0} {n d : ℕ} {items : List FamilyTable} (turned : IsTurned P Q n d items)
    (more : d < n) where
  pub turned_out : (f : FamilyTable) → f ≡ get_or items 0 f → P d f
  turned_out f is =
      let none : d - d ≡ 0 = omega arith in
      let some : 0 < length items = omega (arith, turned.counted, more) in
      subst (P d)
      (ap (λ i. get_or items i no_family) none ∙ get_or_default items 0 no_family f some ∙ sym is)
      (turned.old d (omega arith) more)

  pub turned_more : (y : FamilyTable) {next : List FamilyTable} → next ≡ remove items 0 ++ y ∷ [] → Q d y →
      IsTurned P Q n (d + 1) next
  turned_more y {next = next} is own =
      let left : length (remove items 0) + 1 ≡ n =
      rest_length items (omega (arith, turned.counted, more)) ∙ turned.counted in
      subst (IsTurned P Q n (d + 1)) (sym is) (record {
        counted = length_push (remove items 0) y ∙ left;
        old = λ e from below.
            let place : e - (d + 1) + 1 ≡ e - d = omega (arith, from) in
            subst (P e)
            (sym (rest_at items y (e - (d + 1)) (omega (arith, from, below, turned.counted))
            ∙ ap (λ i. get_or items i no_family) place))
            (turned.old e (omega (arith, from)) below);
        new = λ e below. elim (cases_eq e d) [
          | inl last ↦
              let place : length (remove items 0) ≡ n - (d + 1) + e = omega (arith, left, last, more) in
              subst (Q e) (sym (get_or_push (remove items 0) y no_family (n - (d + 1) + e) place))
              (subst (λ a. Q a y) (sym last) own)
          | inr other ↦
              let place : n - (d + 1) + e + 1 ≡ n - d + e = omega (arith, more) in
              subst (Q e)
              (sym (rest_at items y (n - (d + 1) + e) (omega (arith, below, other, more, turned.counted))
              ∙ ap (λ i. get_or items i no_family) place))
              (turned.new e (omega (arith, below, other)))
        ];
      })

module _
    {A : Type 0} {G : Graph} {D k : ℕ} {s : SheafState A} {parts : List VertexPart} {families : List FamilyTable}
    (h : IsBuiltDown G D (suc k) k s parts families) (all : IsLevelThere G k parts) where
  abbrev OldFamily : ℕ → FamilyTable → Type 0
  OldFamily = HoldsFamily G D (suc k) parts s

  abbrev NextFamily : ℕ → FamilyTable → Type 0
  NextFamily = HoldsFamily G D k parts s

  pub turned_none : IsTurned OldFamily NextFamily (D + 1) 0 families
  turned_none = turned_first h.sized (λ e below. h.families e (omega (arith, below)))

  pub level_down : {items : List FamilyTable} → IsTurned OldFamily NextFamily (D + 1) (D + 1) items →
      IsBuiltDown G D k k s parts items
  level_down {items = items} turned = record {
    graph = h.graph;
    degree = h.degree;
    stalks = h.stalks;
    some = h.some;
    few = h.few;
    top = h.top;
    there = all.there;
    only = h.only;
    vertices = h.vertices;
    sized = turned.counted;
    families = λ d within.
        let place : D + 1 - (D + 1) + d ≡ d = omega arith in
        subst (λ i. NextFamily d (get_or items i no_family)) place (turned.new d (omega (arith, within)));
  }
