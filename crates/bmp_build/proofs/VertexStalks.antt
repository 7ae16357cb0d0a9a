-- The stalk that was built at one vertex, of the sheaf that all parts write down: sheaves that agree at the vertex and
-- above it, and the sizes and lines that hang on the stalk alone.
use Rattle.std.proofs.Common.{◌≡◌, ℕ, suc, ◌+◌, ◌-◌, ◌*◌, ◌/◌, ◌%◌, ◌<◌, ◌≤◌, ◌^◌, eqb, List, [], ◌∷◌, ◌++◌, length, get_or, take, map, refl, sym, ap, ap₂, subst, ◌∙◌, inl, inr, arith, true}
use Rattle.std.specs.Prelude.{All, count_by}
use Rattle.std.proofs.lemmas.Bool.{cases_eq, cases_lt}
use Rattle.std.proofs.lemmas.List.{get_or_push, get_or_append_left, get_or_default, get_or_past}
use Rattle.std.proofs.lemmas.List.Elements.{All-get_or, All-weaker}
use Rattle.std.proofs.lemmas.Nat.{div_below}
use Rattle.bmp_graph.specs.Graph.{Graph, IsGraph, vertex_count, edge_count, length_at, lower, upper}
use Rattle.bmp_graph.proofs.GraphLemmas.{edge_rises, IsAbove-higher}
use Rattle.bmp_linear.specs.declared.vector.Entry.{Entry}
use Rattle.bmp_linear.specs.declared.blocks.DegreeBlock.{DegreeBlock}
use Rattle.bmp_linear.specs.SparseVectors.{FitsBelow}
use Rattle.bmp_sheaf.specs.Coordinates.{stalk_count}
use Rattle.bmp_sheaf.specs.Sheaves.{SheafData}
use Rattle.bmp_sheaf.specs.Written.{first_edge, up_count, written_sheaf}
use Rattle.bmp_sheaf.specs.States.{Stalk, no_stalk, SheafState, stalk_of, next_vertex, with_stalk, sheaf_of}
use Rattle.bmp_sheaf.specs.StalkFaults.{IsStalk}
use Rattle.bmp_sheaf.proofs.Agreement.{written_agree}
use Rattle.bmp_sheaf.proofs.UpEdges.{up_range_of}
use Rattle.bmp_sections.specs.Numbers.{is_above}
use Rattle.bmp_sections.proofs.AboveLemmas.{above_from_test}
use Rattle.bmp_cert.specs.declared.cert.VertexPart.{VertexPart}
use Rattle.bmp_cert.specs.Counts.{Written, no_part, part_of}
use Rattle.bmp_cert.specs.BlockGrammar.{IsBlock}
use Rattle.bmp_cert.specs.CertGrammar.{IsPart}
use Rattle.bmp_check.specs.declared.method.Method.{Method}
use Rattle.bmp_check.specs.BlockData.{no_block, block_of, top_vertex}
use Rattle.bmp_check.specs.PartsSheaf.{parts_sheaf}
use Rattle.bmp_check.specs.Shaped.{cert_stalk}
use Rattle.bmp_check.specs.Sizes.{lift_size, vertex_sizes, block_sizes, shape_sizes}
use Rattle.bmp_check.specs.Verdicts.{ShapePassesAt}
use Rattle.bmp_check.proofs.ShapeLemmas.{sizes_first, sizes_later}
use Rattle.bmp_stalk.specs.Above.{AgreeAbove}
use Rattle.bmp_build.specs.BuiltGraphs.{IsHeldPart, IsBefore}
use Rattle.bmp_build.specs.WholeSpaces.{IsPartStalk}
use Rattle.bmp_build.proofs.AgreeLemmas.{AgreeAt}
use Rattle.bmp_build.proofs.HoldingSizes.{AllHold, none_fails, hold_both, listed_hold, need_from_fits}
use Rattle.bmp_build.proofs.Lines.{chain_upward, vectors_lines, degrees_lines}

-- a longer vertex has a greater number
pub longer_past : (G : Graph) → IsGraph G → (x y : ℕ) → x < vertex_count G → length_at G x < length_at G y → x < y
longer_past G is x y below long = elim (cases_lt x y) [
  | inl past ↦ past
  | inr before ↦ absurd (let rises = is.lengths_rise y x before below in omega (arith, rises, long))
]

-- sheaves that are written down by the same stalks at the longer vertices
abbrev pub written_by_stalks : Graph → (ℕ → Stalk) → SheafData
written_by_stalks G t = written_sheaf G (λ y. (t y).degrees) (λ y. (t y).lifts)

pub agree_by_stalks : (G : Graph) → IsGraph G → (x : ℕ) (t u : ℕ → Stalk) →
    ((y : ℕ) → x < y → y < vertex_count G → length_at G x < length_at G y → t y ≡ u y) →
    AgreeAbove G x (written_by_stalks G t) (written_by_stalks G u)
agree_by_stalks G is x t u same = record {
  degrees = λ y here.
      let higher = IsAbove-higher G is y x (above_from_test G x y here) in
      ap (λ (s : Stalk). s.degrees) (same y higher.number higher.is_vertex higher.longer);
  lifts = λ e is_edge here.
      let low = IsAbove-higher G is (lower G e) x (above_from_test G x (lower G e) here) in
      let ends = is.ends e is_edge in
      let below = same (lower G e) low.number low.is_vertex low.longer in
      let above =
      same (upper G e) (omega (arith, edge_rises G is e is_edge, low.number)) ends.1
      (omega (arith, low.longer, ends.2)) in
      (written_agree G (λ y. (t y).degrees) (λ y. (u y).degrees) (λ y. (t y).lifts) (λ y. (u y).lifts) e
      (ap (λ (s : Stalk). s.degrees) below) (ap (λ (s : Stalk). s.degrees) above)
      (ap (λ (s : Stalk). s.lifts) below)).lifts;
}

module _ {A : Type 0} {G : Graph} {c : Written} (is : IsGraph G) (counted : length c.parts ≡ vertex_count G)
    {x : ℕ} (vertex : x + 1 < vertex_count G) {old new : SheafState A} (earlier : IsBefore G c x old)
    (own : IsPartStalk old new (part_of c x)) where
  -- ---- the sheaf before and after, by the parts

  abbrev part : VertexPart
  part = part_of c x

  abbrev pub before : SheafState A
  before = record {
    graph = G;
    field = old.field;
    degree = c.degree;
    stalks = old.stalks;
  }

  abbrev pub after : SheafState A
  after = with_stalk before (cert_stalk part)

  old_is : old ≡ before
  old_is =
      ap₂ (λ (H : Graph) (k : ℕ). let made : SheafState A = record {
        graph = H;
        field = old.field;
        degree = k;
        stalks = old.stalks;
      } in made) earlier.graph earlier.degree

  -- what holds of the sheaves in memory holds of these
  pub by_parts : (P : SheafState A → SheafState A → Type 0) → P old new → P before after
  by_parts P h =
      let made : new ≡ after = own.stalk ∙ ap (λ (s : SheafState A). with_stalk s (cert_stalk part)) old_is in
      subst (λ (s : SheafState A). P before s) made (subst (λ (s : SheafState A). P s new) old_is h)

  stalk_by_parts : IsPartStalk before after part
  stalk_by_parts = by_parts (λ s t. IsPartStalk s t part) own

  pub next_is : next_vertex before ≡ x
  next_is = omega (arith, earlier.pushed, vertex)

  -- the stalk at the vertex, and those of the longer ones

  own_stalk : stalk_of after x ≡ cert_stalk part
  own_stalk =
      get_or_push old.stalks (cert_stalk part) no_stalk (vertex_count G - 1 - x) (omega (arith, earlier.pushed, vertex))

  stalk_before : (y : ℕ) → y < vertex_count G → length_at G x < length_at G y →
      stalk_of before y ≡ cert_stalk (part_of c y)
  stalk_before y below long =
      ap (λ (H : Graph). get_or old.stalks (vertex_count H - 1 - y) no_stalk) (sym earlier.graph)
      ∙ earlier.longer y below long

  stalk_after : (y : ℕ) → y < vertex_count G → length_at G x < length_at G y →
      stalk_of after y ≡ cert_stalk (part_of c y)
  stalk_after y below long =
      let past = longer_past G is x y (omega (arith, vertex)) long in
      get_or_append_left old.stalks (cert_stalk part ∷ []) no_stalk (vertex_count G - 1 - y)
      (omega (arith, past, below, earlier.pushed))
      ∙ stalk_before y below long

  -- ---- the sheaf of all parts agrees with it

  pub agree : AgreeAt G x (parts_sheaf G c) (sheaf_of after)
  agree =
      let own : (part_of c x).degrees ≡ (stalk_of after x).degrees =
      ap (λ (t : Stalk). t.degrees) (sym own_stalk) in
      let upper_end : (e : ℕ) → e < edge_count G → lower G e ≡ x →
      (part_of c (upper G e)).degrees ≡ (stalk_of after (upper G e)).degrees =
      λ e is_edge here.
      let ends = is.ends e is_edge in
      ap (λ (t : Stalk). t.degrees)
      (sym (stalk_after (upper G e) ends.1 (subst (λ y. length_at G y < length_at G (upper G e)) here ends.2))) in
      record {
        own = own;
        upper_ends = upper_end;
        lifts = λ e is_edge here.
            (written_agree G (λ y. (part_of c y).degrees) (λ y. (stalk_of after y).degrees)
            (λ y. (part_of c y).lifts) (λ y. (stalk_of after y).lifts) e
            (subst (λ y. (part_of c y).degrees ≡ (stalk_of after y).degrees) (sym here) own) (upper_end e is_edge here)
            (subst (λ y. (part_of c y).lifts ≡ (stalk_of after y).lifts) (sym here)
            (ap (λ (t : Stalk). t.lifts) (sym own_stalk)))).lifts;
      }

  pub agree_above : AgreeAbove G x (parts_sheaf G c) (sheaf_of after)
  agree_above = agree_by_stalks G is x (λ y. cert_stalk (part_of c y)) (stalk_of after)
      (λ y past below long. sym (stalk_after y below long))

  has_blocks : length part.blocks ≡ c.degree + 1
  has_blocks = stalk_by_parts.blocks

  -- ---- its lifts, and its sizes

  is_stalk : IsStalk before x part.degrees part.lifts
  is_stalk = subst (λ y. IsStalk before y part.degrees part.lifts) next_is stalk_by_parts.is_stalk

  -- the end of the edge that the lift number i is on
  abbrev end_of : ℕ → ℕ
  end_of i = upper G (first_edge G x + i / length part.degrees)

  end_above : (i : ℕ) → i < length part.lifts →
      (end_of i < vertex_count G) × (length_at G x < length_at G (end_of i))
  end_above i within =
      let k = length part.degrees in
      let all : i < up_count G x * k = omega (arith, within, is_stalk.counted) in
      let place : i / k < up_count G x = div_below i k (up_count G x) (positive (up_count G x) k i all) all in
      let e = first_edge G x + i / k in
      let range = up_range_of G is x in
      let is_edge : e < edge_count G = omega (arith, range.within, place) in
      let starts : lower G e ≡ x = range.inside e (omega arith) (omega (arith, place)) in
      let ends = is.ends e is_edge in
      (ends.1, subst (λ y. length_at G y < length_at G (upper G e)) starts ends.2)
    where
      positive : (m k j : ℕ) → j < m * k → 0 < k
      positive m k j below = elim (cases_eq k 0) [
        | inl empty ↦
            (let none : m * k ≡ 0 = ap (λ z. m * z) empty ∙ omega arith in absurd (omega (arith, none, below)))
        | inr some ↦ omega arith
      ]

  -- how many coordinates it may have
  abbrev room : ℕ → ℕ
  room i =
      stalk_count G.rank (part_of c (end_of i)).degrees (get_or part.degrees (i % length part.degrees) 0)

  lift_fits : (i : ℕ) → i < length part.lifts → FitsBelow (get_or part.lifts i []) (room i)
  lift_fits i within =
      let end = end_above i within in
      subst (λ (t : Stalk). FitsBelow (get_or part.lifts i [])
      (stalk_count G.rank t.degrees (get_or part.degrees (i % length part.degrees) 0)))
      (stalk_before (end_of i) end.0 end.1) (is_stalk.fit i within)

  vertex_hold : AllHold (vertex_sizes G c x)
  vertex_hold = (
    subst (λ y. part.edges ≡ up_count G y) next_is stalk_by_parts.edges,
    listed_hold (lift_size G c x) (length part.lifts)
        (λ i within. need_from_fits (get_or part.lifts i []) (room i) (lift_fits i within)),
  )

  -- with those of its blocks
  pub shape_holds : (m : Method) (d : ℕ) → AllHold (block_sizes G m c x d) → ShapePassesAt G m c x d
  shape_holds m d block_hold = none_fails x d (shape_sizes G m c x d) 0 (elim (cases_eq d 0) [
    | inl first ↦ subst AllHold (sym (sizes_first G m c x d first))
        (hold_both (vertex_sizes G c x) (block_sizes G m c x d) vertex_hold block_hold)
    | inr later ↦ subst AllHold (sym (sizes_later G m c x d later)) block_hold
  ])

  -- ---- its lines, where no stalk has too many coordinates, with those of its blocks

  module _ (few : (y d : ℕ) → y < vertex_count G → d ≤ c.degree →
      stalk_count G.rank (part_of c y).degrees d < 2 ^ 32) (held : IsHeldPart part) where
    own_degree : (i : ℕ) → i < length part.lifts → get_or part.degrees (i % length part.degrees) 0 ≤ c.degree
    own_degree i within = elim (cases_lt (i % length part.degrees) (length part.degrees)) [
      | inl inside ↦
          All-get_or (λ e. e ≤ c.degree) part.degrees (i % length part.degrees) 0 inside stalk_by_parts.bounded
      | inr past ↦
          subst (λ e. e ≤ c.degree) (sym (get_or_past part.degrees (i % length part.degrees) 0 past)) (omega arith)
    ]

    lifts_fit : All (λ v. FitsBelow v (2 ^ 32)) part.lifts
    lifts_fit i none within =
        let small : room i < 2 ^ 32 = few (end_of i)
        (get_or part.degrees (i % length part.degrees) 0) (end_above i within).0 (own_degree i within) in
        subst (λ (v : List Entry). FitsBelow v (2 ^ 32)) (get_or_default part.lifts i [] none within)
        (All-weaker (λ (e : Entry). e.place < room i) (λ (e : Entry). e.place < 2 ^ 32)
        (λ e l. omega (arith, l, small)) (get_or part.lifts i []) (lift_fits i within))

    pub stalk_lines : (version : ℕ) →
        ((d : ℕ) → d ≤ c.degree →
        IsBlock version (G.prime - 1) (λ e. count_by (λ a. eqb a e) part.degrees) d (block_of c x d)) →
        IsPart version (G.prime - 1) c.degree x part
    stalk_lines version lines = record {
      degrees = degrees_lines c.degree part.degrees held.few_degrees
          (λ k l. is_stalk.rising (suc k) l k (omega arith)) stalk_by_parts.bounded;
      edges = let narrow = held.few_edges in omega (arith, narrow);
      lifts = vectors_lines G.prime (2 ^ 32) (part.edges * length part.degrees) part.lifts (omega arith)
          held.lifts
          (is_stalk.counted
          ∙ ap (λ n. n * length part.degrees)
          (sym (subst (λ y. part.edges ≡ up_count G y) next_is stalk_by_parts.edges)))
          lifts_fit stalk_by_parts.values;
      blocks = (
        has_blocks,
        chain_upward (λ d b. IsBlock version (G.prime - 1) (λ e. count_by (λ a. eqb a e) part.degrees) d b) no_block
            part.blocks 0
            (λ d l.
            let same : d ≡ 0 + d = omega arith in
            subst (λ f. IsBlock version (G.prime - 1) (λ e. count_by (λ a. eqb a e) part.degrees) f
            (get_or part.blocks d no_block)) same (lines d (omega (arith, l, has_blocks)))),
      );
    }
