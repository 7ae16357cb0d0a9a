-- What is built on the way down: what the parts that are there say of each continuation, what a vertex more leaves as
-- it is, and that the end is built.
use Rattle.std.proofs.Common.{◌≡◌, ℕ, suc, ◌+◌, ◌-◌, ◌<◌, ◌≤◌, List, [], ◌∷◌, ◌++◌, length, get_or, take, map, replicate, refl, sym, ap, ap₂, subst, ◌∙◌, inl, inr, arith}
use Rattle.std.specs.Prelude.{All}
use Rattle.std.proofs.Math.ListN.{get_or-map}
use Rattle.std.proofs.lemmas.Bool.{cases_lt}
use Rattle.std.proofs.lemmas.List.{length-map, length-append, length-replicate, length_push, length-take-le, get_or-take, get_or_push, get_or_append_left, get_or-append_right, get_or-replicate, take_at, take_all, take_more, map-append}
use Rattle.std.proofs.lemmas.List.Elements.{All-nil}
use Rattle.bmp_graph.specs.Graph.{Graph, IsGraph, vertex_count, length_at}
use Rattle.bmp_linear.specs.declared.vector.Entry.{Entry}
use Rattle.bmp_linear.specs.SparseVectors.{ValuesBelow}
use Rattle.bmp_sheaf.specs.Coordinates.{stalk_count}
use Rattle.bmp_sheaf.specs.States.{Stalk, no_stalk, SheafState, stalk_of, next_vertex, with_stalk, sheaf_of}
use Rattle.bmp_levels.specs.Extensions.{HoldsLevel}
use Rattle.bmp_levels.specs.Families.{family, stalk_size}
use Rattle.bmp_levels.specs.Levels.{level_vertices}
use Rattle.bmp_levels.specs.Lists.{first_members, SameList}
use Rattle.bmp_levels.specs.Runs.{FamilyTable, list_of}
use Rattle.bmp_levels.specs.Statements.{BlocksAreBelow}
use Rattle.bmp_levels.proofs.Below.{families_are_below}
use Rattle.bmp_levels.proofs.WholeFamilies.{IsGap}
use Rattle.bmp_cert.specs.declared.cert.VertexPart.{VertexPart}
use Rattle.bmp_cert.specs.Counts.{Written, no_part, part_of}
use Rattle.bmp_check.specs.Accepted.{IsCheckableGraph}
use Rattle.bmp_check.specs.BlockData.{no_block, block_of, top_vertex}
use Rattle.bmp_check.specs.PartsSheaf.{parts_sheaf}
use Rattle.bmp_check.specs.Shaped.{cert_stalk}
use Rattle.bmp_check.proofs.CheckableLemmas.{over_field}
use Rattle.bmp_check.proofs.TupleCountLemmas.{not_greatest}
use Rattle.bmp_stalk.specs.BuiltParts.{no_family, list_at, IsBuiltPart}
use Rattle.bmp_build.specs.BuiltGraphs.{IsHeldPart, IsBefore, AreBuilt}
use Rattle.bmp_build.specs.Building.{Continues, IsBuiltIn, HoldsFamily, IsBuiltDown, IsLevelThere, AreCounts}
use Rattle.bmp_build.specs.Tasks.{Made, IsAtLength, IsBuiltBy, IsMadeOver, HaveMembersOver}
use Rattle.bmp_build.proofs.BuiltVertices.{passes_at}
use Rattle.bmp_build.proofs.Gaps.{family_over_gap}
use Rattle.bmp_build.proofs.VertexStalks.{longer_past}

-- ---- parts and their continuations

module _ {G : Graph} {D : ℕ} {parts : List VertexPart} where
  -- a part that is there
  pub part_there : {c : Written} → Continues G D parts c → (y : ℕ) → y < vertex_count G →
      vertex_count G ≤ y + length parts → part_of c y ≡ get_or parts (vertex_count G - 1 - y) no_part
  part_there {c = c} more y below there =
      ap (λ (n : ℕ). get_or c.parts (n - 1 - y) no_part) more.counted
      ∙ sym (get_or-take (length parts) c.parts (vertex_count G - 1 - y) no_part (omega (arith, below, there)))
      ∙ ap (λ (l : List VertexPart). get_or l (vertex_count G - 1 - y) no_part) more.begins

  -- what continues more parts continues fewer
  pub continues_fewer : {c : Written} (part : VertexPart) → length parts < vertex_count G →
      Continues G D (parts ++ part ∷ []) c → Continues G D parts c
  continues_fewer {c = c} part few more =
      let i = length parts in
      let within : i < length c.parts = omega (arith, few, more.counted) in
      let short : length (take i c.parts) ≡ i = length-take-le i c.parts (omega (arith, within)) in
      record {
        degree = more.degree;
        counted = more.counted;
        begins =
            sym (take_at (take i c.parts) (get_or c.parts i no_part ∷ []) i short)
            ∙ ap (take i) (sym (take_more c.parts i no_part within)
            ∙ ap (λ n. take n c.parts) (sym (length_push parts part)) ∙ more.begins)
            ∙ take_at parts (part ∷ []) i refl;
      }

-- the stalk of a part that is there, and its size
module _ {A : Type 0} {G : Graph} {D : ℕ} (s : SheafState A) {parts : List VertexPart} (graph : s.graph ≡ G)
    (stalks : s.stalks ≡ map cert_stalk parts) where
  pub stalk_in : {c : Written} → Continues G D parts c → (y : ℕ) → y < vertex_count G →
      vertex_count G ≤ y + length parts → stalk_of s y ≡ cert_stalk (part_of c y)
  stalk_in more y below there =
      ap₂ (λ (l : List Stalk) (n : ℕ). get_or l (n - 1 - y) no_stalk) stalks (ap (λ (H : Graph). vertex_count H) graph)
      ∙ get_or-map cert_stalk parts (vertex_count G - 1 - y) no_part
      ∙ ap cert_stalk (sym (part_there more y below there))

  pub size_in : {c : Written} → Continues G D parts c → (d y : ℕ) → y < vertex_count G →
      vertex_count G ≤ y + length parts → stalk_size s.graph (sheaf_of s) d y ≡ stalk_size G (parts_sheaf G c) d y
  size_in more d y below there =
      ap₂ (λ (H : Graph) (t : Stalk). stalk_count H.rank t.degrees d) graph (stalk_in more y below there)

-- ---- a state on the way

module _
    {A : Type 0} {G : Graph} {D level low : ℕ} {s : SheafState A} {parts : List VertexPart}
    {families : List FamilyTable}
    (h : IsBuiltDown G D level low s parts families) where
  pub own_down : IsBuiltDown s.graph s.degree level low s parts families
  own_down =
      subst (λ (H : Graph). IsBuiltDown H s.degree level low s parts families) (sym h.graph)
      (subst (λ n. IsBuiltDown G n level low s parts families) (sym h.degree) h)

  pub pushed : length s.stalks ≡ length parts
  pushed = ap length h.stalks ∙ length-map parts cert_stalk

  pub own_vertices : vertex_count s.graph ≡ vertex_count G
  own_vertices = ap (λ (H : Graph). vertex_count H) h.graph

  -- parts that continue those that are there
  abbrev pub filled : Written
  filled = record { degree = D; parts = parts ++ replicate (vertex_count G - length parts) no_part }

  pub continues : Continues G D parts filled
  continues = record {
    degree = refl;
    counted =
        omega (
          arith,
          length-append parts (replicate (vertex_count G - length parts) no_part),
          length-replicate (vertex_count G - length parts) no_part,
          h.few,
        );
    begins = take_at parts (replicate (vertex_count G - length parts) no_part) (length parts) refl;
  }

  -- a part that isn't there is empty in them
  part_missing : (y : ℕ) → y + length parts < vertex_count G → part_of filled y ≡ no_part
  part_missing y missing =
      let rest = replicate (vertex_count G - length parts) no_part in
      let i = vertex_count G - 1 - y in
      ap (λ (n : ℕ). get_or filled.parts (n - 1 - y) no_part) continues.counted
      ∙ get_or-append_right parts rest (length parts) i no_part refl (omega (arith, missing))
      ∙ get_or-replicate (vertex_count G - length parts) (i - length parts) no_part no_part (omega (arith, missing))

  pub size_there : {c : Written} → Continues G D parts c → (d y : ℕ) → y < vertex_count G →
      vertex_count G ≤ y + length parts → stalk_size s.graph (sheaf_of s) d y ≡ stalk_size G (parts_sheaf G c) d y
  size_there = size_in s h.graph h.stalks

  -- the numbers of their blocks are below the prime
  pub blocks_below : IsCheckableGraph G → (d : ℕ) → d ≤ D →
      BlocksAreBelow G (top_vertex G) (λ y. block_of filled y d)
  blocks_below on d within = record {
    basis = λ x below shorter. elim (cases_lt (x + length parts) (vertex_count G)) [
      | inl missing ↦
          subst (λ (p : VertexPart). All (λ v. ValuesBelow v G.prime) (get_or p.blocks d no_block).kernel.basis)
          (sym (part_missing x missing)) (All-nil (λ (v : List Entry). ValuesBelow v G.prime))
      | inr there ↦
          let vertex = not_greatest G x below shorter in
          (passes_at on continues.counted vertex ((h.vertices x vertex there).built filled continues) d
          within).fits.kernel_below.basis_below
    ];
    covers = λ x below shorter. elim (cases_lt (x + length parts) (vertex_count G)) [
      | inl missing ↦
          subst (λ (p : VertexPart). All (λ v. ValuesBelow v G.prime) (get_or p.blocks d no_block).cover.covers)
          (sym (part_missing x missing)) (All-nil (λ (v : List Entry). ValuesBelow v G.prime))
      | inr there ↦
          let vertex = not_greatest G x below shorter in
          (passes_at on continues.counted vertex ((h.vertices x vertex there).built filled continues) d
          within).fits.covers_below
    ];
  }

-- the length of the next vertex
pub next_in :
    {A : Type 0} {G : Graph} {D level low k : ℕ} {s : SheafState A} {parts : List VertexPart}
    {families : List FamilyTable}
    → IsBuiltDown G D level low s parts families → k ≡ length_at s.graph (next_vertex s) →
    k ≡ length_at G (vertex_count G - 1 - length parts)
next_in {G = G} {k = k} {s = s} {parts = parts} h is =
    let next : next_vertex s ≡ vertex_count G - 1 - length parts = omega (arith, pushed h, own_vertices h) in
    subst (λ (H : Graph). k ≡ length_at H (vertex_count G - 1 - length parts)) h.graph
    (subst (λ y. k ≡ length_at s.graph y) next is)

-- ---- the end

module _
    {A : Type 0} {G : Graph} {D level low : ℕ} {s : SheafState A} {parts : List VertexPart}
    {families : List FamilyTable}
    (h : IsBuiltDown G D level low s parts families) (all : vertex_count G ≤ length parts) where
  all_there : length parts ≡ vertex_count G
  all_there = omega (arith, all, h.few)

  pub are_built : AreBuilt A G (record { degree = D; parts = parts })
  are_built =
      let c : Written = record { degree = D; parts = parts } in
      let first : length parts - 1 - (vertex_count G - 1) ≡ 0 = omega (arith, all_there) in
      record {
        counted = all_there;
        top = ap (λ (k : ℕ). get_or parts k no_part) first ∙ h.top;
        others = λ x vertex.
            (h.vertices x vertex (omega (arith, vertex, all_there))).built c
            (record {
              degree = refl;
              counted = all_there;
              begins = take_all (length parts) parts (omega arith);
            });
      }

-- ---- to the next level

-- with all of its length, the next vertex is there
pub level_more : {G : Graph} {k : ℕ} (parts : List VertexPart) {more : List VertexPart} → IsLevelThere G k more →
    length parts < vertex_count G →
    k ≡ length_at G (vertex_count G - 1 - length parts) → length parts < length more
level_more {G = G} parts level left next =
    let there = level.there (vertex_count G - 1 - length parts) (omega (arith, left)) (omega (arith, next)) in
    omega (arith, there, left)

module _ {A : Type 0} {G : Graph} {D k : ℕ} {s : SheafState A} {parts : List VertexPart} {families : List FamilyTable}
  where
    -- the next vertex has length k
    module _ {level : ℕ} (is : IsGraph G) (h : IsBuiltDown G D level level s parts families)
        (left : length parts < vertex_count G) (next : k ≡ length_at G (vertex_count G - 1 - length parts)) where
      shorter : k < level
      shorter = elim (cases_lt k level) [
        | inl short ↦ short
        | inr long ↦ absurd
            (let there = h.there (vertex_count G - 1 - length parts) (omega (arith, left))
            (omega (arith, long, next)) in
            omega (arith, there, left))
      ]

      under_top : level ≤ length_at G (top_vertex G)
      under_top = let some = h.some in h.only (top_vertex G) (omega (arith, left)) (omega (arith, left, some))

      pub next_shorter : k < length_at G (top_vertex G)
      next_shorter = omega (arith, shorter, under_top)

      -- no vertex has a length between k and the level
      no_other : IsGap G (suc k) level
      no_other y below long = elim (cases_lt (y + length parts) (vertex_count G)) [
        | inl missing ↦ absurd
            (let rises : length_at G y ≤ length_at G (vertex_count G - 1 - length parts) =
            is.lengths_rise y (vertex_count G - 1 - length parts) (omega (arith, missing)) (omega (arith, left)) in
            omega (arith, rises, long, next))
        | inr there ↦ h.only y below there
      ]

      own_gap : IsGap s.graph (suc k) level
      own_gap = subst (λ (H : Graph). IsGap H (suc k) level) (sym h.graph) no_other

      longer_family : (d : ℕ) (f : FamilyTable) → HoldsFamily G D level parts s d f →
          HoldsFamily G D (suc k) parts s d f
      longer_family d f old = record {
        holds = record {
          vertices = old.holds.vertices;
          has = λ y inside. old.holds.has y (inside.0, own_gap y inside.0 inside.1);
          only = λ y below there. (let long = old.holds.only y below there in omega (arith, long, shorter));
          sizes = λ y inside. old.holds.sizes y (inside.0, own_gap y inside.0 inside.1);
        };
        same = λ c more.
            family_over_gap G (parts_sheaf G c) d (top_vertex G) (λ y. block_of c y d) (suc k) level (list_of f)
            (omega (arith, shorter)) under_top no_other (old.same c more);
      }

      -- the families over the longer vertices are there, and no vertex of length k
      pub level_begun : IsBuiltDown s.graph s.degree (suc k) k s parts families
      level_begun = own_down (record {
        graph = h.graph;
        degree = h.degree;
        stalks = h.stalks;
        some = h.some;
        few = h.few;
        top = h.top;
        there = λ y below long. h.there y below (no_other y below long);
        only = λ y below there. (let long = h.only y below there in omega (arith, long, shorter));
        vertices = h.vertices;
        sized = h.sized;
        families = λ d within. longer_family d (get_or families d no_family) (h.families d within);
      })

    -- the last vertex that is there has the length of the level
    pub level_last : (fewer : List VertexPart) → IsGraph G → IsBuiltDown G D k k s parts families →
        length fewer < length parts → k ≡ length_at G (vertex_count G - 1 - length fewer) →
        length_at G (vertex_count G - length parts) ≡ k
    level_last fewer is h more next =
        let few = h.few in
        let some = h.some in
        let low : k ≤ length_at G (vertex_count G - length parts) =
        h.only (vertex_count G - length parts) (omega (arith, few, some)) (omega (arith, few)) in
        let rises : length_at G (vertex_count G - length parts) ≤ length_at G (vertex_count G - 1 - length fewer) =
        is.lengths_rise (vertex_count G - length parts) (vertex_count G - 1 - length fewer)
        (omega (arith, more, few)) (omega (arith, more, few)) in
        omega (arith, low, rises, next)

    -- where the next vertex has another length, all of length k are there
    pub level_there : IsGraph G → IsBuiltDown G D (suc k) k s parts families →
        ((length s.stalks < vertex_count s.graph) × (length_at s.graph (next_vertex s) ≡ k) → ⊥) →
        IsLevelThere G k parts
    level_there is h none = record {
      there = λ y below long. elim (cases_lt (y + length parts) (vertex_count G)) [
        | inr there ↦ there
        | inl missing ↦
            let x = vertex_count G - 1 - length parts in
            let next : next_vertex s ≡ vertex_count G - 1 - length parts = omega (arith, pushed h, own_vertices h) in
            let rises : length_at G y ≤ length_at G (vertex_count G - 1 - length parts) =
            is.lengths_rise y x (omega (arith, missing)) (omega (arith, missing)) in
            elim (cases_lt k (length_at G (vertex_count G - 1 - length parts))) [
              | inl longer ↦ absurd
                  (let there = h.there x (omega (arith, missing)) longer in omega (arith, there, missing))
              | inr short ↦
                  let here : length_at G (vertex_count G - 1 - length parts) ≡ k = omega (arith, rises, long, short) in
                  absurd (none (
                    omega (arith, missing, pushed h, own_vertices h),
                    subst (λ (H : Graph). length_at H (next_vertex s) ≡ k) (sym h.graph)
                        (subst (λ z. length_at G z ≡ k) (sym next) here),
                  ))
            ]
      ];
    }

-- ---- one vertex more, of the length below the level

-- what a part that was made at a vertex was made upon, whatever parts come behind those that are there
pub made_before :
    {A : Type 0} {G : Graph} {D : ℕ} {s : SheafState A} {parts : List VertexPart} {k x : ℕ} {t : SheafState A} →
    IsGraph G → s.graph ≡ G → s.degree ≡ D → s.stalks ≡ map cert_stalk parts → x ≡ vertex_count G - 1 - length parts →
    IsAtLength k s x t → {c : Written} → Continues G D parts c → IsBefore G c x t
made_before {G = G} {s = s} {parts = parts} {k = k} {x = x} {t = t} is graph degree stalks next at {c} more =
    let vertices : vertex_count s.graph ≡ vertex_count G = ap (λ (H : Graph). vertex_count H) graph in
    let here : length_at G x ≡ k = subst (λ (H : Graph). length_at H x ≡ k) graph at.long in
    record {
      graph = at.graph ∙ graph;
      degree = at.degree ∙ degree ∙ sym more.degree;
      pushed = omega (arith, at.pushed, vertices);
      longer = λ y below long.
          let past = longer_past G is x y (omega (arith, at.vertex, vertices)) long in
          let own : k < length_at s.graph y =
          subst (λ (H : Graph). k < length_at H y) (sym graph) (omega (arith, here, long)) in
          at.longer y (omega (arith, below, vertices)) own
          ∙ stalk_in s graph stalks more y below (omega (arith, past, next));
    }

module _
    {A : Type 0} {G : Graph} {D k : ℕ} {s : SheafState A} {parts : List VertexPart} {families : List FamilyTable}
    (on : IsCheckableGraph G) (h : IsBuiltDown G D (suc k) k s parts families) {counts : List ℕ}
    (counted : AreCounts families counts) where
  own_count : (d : ℕ) → d ≤ D → get_or counts d 0 ≡ (get_or families d no_family).count
  own_count d within = counted.each d (omega (arith, within, h.sized))

  pub members_over : HaveMembersOver k s families counts
  members_over = record {
    some = let some = h.some in omega (arith, some, pushed h);
    families_are = omega (arith, h.sized, h.degree);
    counts_are = let sized = counted.sized in omega (arith, sized, h.sized, h.degree);
    within = λ d l. (let same = own_count d (omega (arith, l, h.degree)) in omega (arith, same));
    values = λ d y l below long.
        let within : d ≤ D = omega (arith, l, h.degree) in
        let hold = h.families d within in
        let own : level_vertices s.graph (suc k) y = (below, omega (arith, long)) in
        let inside : level_vertices G (suc k) y =
        subst (λ (H : Graph). level_vertices H (suc k) y) h.graph own in
        let same = hold.same (filled h) (continues h) in
        record {
          has = same.has y inside;
          size = hold.holds.sizes y own;
          below = λ j e is_member coordinate.
              subst (λ n. n < s.graph.prime)
              (sym (same.value j y e (omega (arith, is_member, own_count d within, same.count)) inside
              (subst (λ n. e < n) (same.size y inside) coordinate)))
              (subst (λ (H : Graph). (family G (parts_sheaf G (filled h)) d (top_vertex G)
              (λ z. block_of (filled h) z d) (suc k)).value j y e < H.prime) (sym h.graph)
              (families_are_below G (parts_sheaf G (filled h)) d (top_vertex G) (λ z. block_of (filled h) z d)
              (over_field on).two (blocks_below h on d within) (suc k) j y e inside.0));
        };
  }

  module _ (left : length s.stalks < vertex_count s.graph) {made : Made A}
      (over : IsMadeOver (IsBuiltBy families counts) k s (next_vertex s) made) {new : SheafState A}
      (taken : new ≡ with_stalk s (cert_stalk made.part)) where
    abbrev part : VertexPart
    part = made.part

    more_left : length parts < vertex_count G
    more_left = omega (arith, left, pushed h, own_vertices h)

    next_is : next_vertex s ≡ vertex_count G - 1 - length parts
    next_is = omega (arith, pushed h, own_vertices h)

    length_here : length_at G (vertex_count G - 1 - length parts) ≡ k
    length_here =
        subst (λ (H : Graph). length_at H (vertex_count G - 1 - length parts) ≡ k) h.graph
        (subst (λ y. length_at s.graph y ≡ k) next_is over.at.long)

    one_more : length (parts ++ part ∷ []) ≡ length parts + 1
    one_more = length_push parts part

    -- the part of the vertex
    at_vertex : IsBuiltIn A G D (parts ++ part ∷ []) (vertex_count G - 1 - length parts)
    at_vertex = record {
      built = λ c more.
          let fewer : Continues G D parts c = continues_fewer part more_left more in
          let place : vertex_count G - 1 - (vertex_count G - 1 - length parts) ≡ length parts =
          omega (arith, more_left) in
          let own : part_of c (vertex_count G - 1 - length parts) ≡ part =
          part_there more (vertex_count G - 1 - length parts) (omega (arith, more_left))
          (omega (arith, more_left, one_more))
          ∙ ap (λ (i : ℕ). get_or (parts ++ part ∷ []) i no_part) place
          ∙ get_or_push parts part no_part (length parts) refl in
          record {
            old = over.old;
            new = made.sheaf;
            lists = list_at families counts;
            before = subst (λ x. IsBefore G c x over.old) next_is
                (made_before on.graph h.graph h.degree h.stalks next_is over.at fewer);
            families = λ d l.
                let within : d ≤ D = omega (arith, l, more.degree) in
                let f = get_or families d no_family in
                subst (λ n. SameList (level_vertices G (suc n)) (list_at families counts d)
                (family G (parts_sheaf G c) d (top_vertex G) (λ y. block_of c y d) (suc n))) (sym length_here)
                (subst (λ n. SameList (level_vertices G (suc k)) (first_members n (list_of f))
                (family G (parts_sheaf G c) d (top_vertex G) (λ y. block_of c y d) (suc k))) (sym (own_count d within))
                ((h.families d within).same c fewer));
            built = subst (λ (p : VertexPart). IsBuiltPart over.old made.sheaf (list_at families counts) p) (sym own)
                over.upon.by;
            held = subst IsHeldPart (sym own) over.upon.held;
          };
    }

    -- the families are those of the longer vertices, as before
    family_stays : (d : ℕ) → d ≤ D →
        HoldsFamily G D (suc k) (parts ++ part ∷ []) new d (get_or families d no_family)
    family_stays d within =
        let old = h.families d within in
        let t = cert_stalk part in
        record {
          holds = subst (λ (u : SheafState A). HoldsLevel u (suc k) d (get_or families d no_family))
              (sym taken)
              (record {
                vertices = old.holds.vertices;
                has = old.holds.has;
                only = old.holds.only;
                sizes = λ y inside.
                    let there = h.there y (omega (arith, inside.0, own_vertices h))
                    (subst (λ (H : Graph). suc k ≤ length_at H y) h.graph inside.1) in
                    old.holds.sizes y inside
                    ∙ ap (λ (u : Stalk). stalk_count s.graph.rank u.degrees d)
                    (sym (get_or_append_left s.stalks (t ∷ []) no_stalk (vertex_count s.graph - 1 - y)
                    (omega (arith, there, inside.0, pushed h, own_vertices h))));
              });
          same = λ c more. old.same c (continues_fewer part more_left more);
        }

    pub down_more : IsBuiltDown G D (suc k) k new (parts ++ part ∷ []) families
    down_more = record {
      graph = ap (λ (u : SheafState A). u.graph) taken ∙ h.graph;
      degree = ap (λ (u : SheafState A). u.degree) taken ∙ h.degree;
      stalks =
          ap (λ (u : SheafState A). u.stalks) taken
          ∙ ap (λ (l : List Stalk). l ++ cert_stalk part ∷ []) h.stalks ∙ sym (map-append cert_stalk parts (part ∷ []));
      some = omega (arith, one_more);
      few = omega (arith, one_more, more_left);
      top = get_or_append_left parts (part ∷ []) no_part 0 (omega (arith, h.some)) ∙ h.top;
      there = λ y below long. (let there = h.there y below long in omega (arith, there, one_more));
      only = λ y below there. elim (cases_lt (y + length parts) (vertex_count G)) [
        | inl last ↦
            let is : y ≡ vertex_count G - 1 - length parts = omega (arith, last, there, one_more) in
            let same : length_at G y ≡ k = ap (length_at G) is ∙ length_here in omega (arith, same)
        | inr before ↦ h.only y below before
      ];
      vertices = λ y vertex there. elim (cases_lt (y + length parts) (vertex_count G)) [
        | inl last ↦
            let is : y ≡ vertex_count G - 1 - length parts = omega (arith, last, there, one_more) in
            subst (IsBuiltIn A G D (parts ++ part ∷ [])) (sym is) at_vertex
        | inr before ↦ record {
          built = λ c more. (h.vertices y vertex before).built c (continues_fewer part more_left more);
        }
      ];
      sized = h.sized;
      families = family_stays;
    }
