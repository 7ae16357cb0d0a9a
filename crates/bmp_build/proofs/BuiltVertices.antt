-- What was built at one vertex, of the sheaf that all parts write down: its blocks pass, its sizes hold, and it has
-- lines.
use Rattle.std.proofs.Common.{◌≡◌, ℕ, suc, ◌+◌, ◌-◌, ◌*◌, ◌/◌, ◌%◌, ◌<◌, ◌≤◌, ◌^◌, eqb, List, [], ◌∷◌, ◌++◌, length, get_or, take, map, refl, sym, ap, ap₂, subst, ◌∙◌, inl, inr, arith}
use Rattle.std.specs.Prelude.{All, count_by}
use Rattle.std.proofs.Math.ListN.{get_or-map}
use Rattle.std.proofs.lemmas.Bool.{cases_eq, cases_lt}
use Rattle.std.proofs.lemmas.List.{length-map, length-take-le, get_or-take, take_more, map-append, get_or_default, get_or_past}
use Rattle.std.proofs.lemmas.List.Elements.{All-get_or, All-weaker}
use Rattle.std.proofs.lemmas.Nat.{div_below}
use Rattle.bmp_graph.specs.Graph.{Graph, vertex_count, edge_count, length_at, lower, upper}
use Rattle.bmp_graph.proofs.GraphLemmas.{edge_rises, IsAbove-higher}
use Rattle.bmp_linear.specs.declared.vector.Entry.{Entry}
use Rattle.bmp_linear.specs.SparseVectors.{FitsBelow}
use Rattle.bmp_poly.proofs.Scanning.{count_small}
use Rattle.bmp_sheaf.specs.Coordinates.{stalk_count}
use Rattle.bmp_sheaf.specs.Written.{first_edge, up_count}
use Rattle.bmp_sheaf.specs.States.{Stalk, no_stalk, SheafState, stalk_of, next_vertex, with_stalk, sheaf_of}
use Rattle.bmp_sheaf.specs.StalkFaults.{IsStalk}
use Rattle.bmp_sheaf.proofs.Agreement.{written_agree}
use Rattle.bmp_sheaf.proofs.UpEdges.{up_range_of}
use Rattle.bmp_sections.specs.Sections.{above}
use Rattle.bmp_levels.specs.Levels.{level_vertices}
use Rattle.bmp_levels.specs.Lists.{SameList}
use Rattle.bmp_levels.proofs.Families.{family_size}
use Rattle.bmp_cert.specs.declared.cert.VertexPart.{VertexPart}
use Rattle.bmp_cert.specs.Counts.{Written, no_part, part_of}
use Rattle.bmp_cert.specs.BlockGrammar.{IsBlock}
use Rattle.bmp_cert.specs.CertGrammar.{IsPart}
use Rattle.bmp_check.specs.declared.method.Method.TheVariants.{Levels}
use Rattle.bmp_check.specs.Accepted.{IsCheckableGraph}
use Rattle.bmp_check.specs.BlockData.{no_block, block_of, family_at, top_vertex}
use Rattle.bmp_check.specs.PartsSheaf.{parts_sheaf}
use Rattle.bmp_check.specs.Shaped.{cert_stalk}
use Rattle.bmp_check.specs.Sizes.{lift_size, vertex_sizes, block_sizes, shape_sizes}
use Rattle.bmp_check.specs.Verdicts.{ShapePassesAt, BlockPasses}
use Rattle.bmp_check.proofs.CheckableLemmas.{over_field}
use Rattle.bmp_check.proofs.CountBounds.{stalk_start_most}
use Rattle.bmp_check.proofs.ShapeLemmas.{sizes_first, sizes_later}
use Rattle.bmp_stalk.specs.BuiltParts.{IsBuiltPart, IsBuiltBlock}
use Rattle.bmp_build.specs.BuiltGraphs.{top_part, IsBuiltAt, AreBuilt}
use Rattle.bmp_build.specs.WholeSpaces.{IsPartStalk}
use Rattle.bmp_build.proofs.AgreeLemmas.{AgreeAt}
use Rattle.bmp_build.proofs.HoldingSizes.{AllHold, none_fails, hold_both, listed_hold, need_from_fits}
use Rattle.bmp_build.proofs.Lines.{chain_upward, vectors_lines, degrees_lines}
use Rattle.bmp_build.proofs.VertexStalks.{before, after, by_parts, next_is, agree, shape_holds, stalk_lines}
use Rattle.bmp_build.proofs.PassingBlocks.{PassesAt, built_passes, passes_there, passes_for, sizes_hold, block_lines}

module _ {A : Type 0} {G : Graph} {c : Written} (on : IsCheckableGraph G) (counted : length c.parts ≡ vertex_count G)
    {x : ℕ} (vertex : x + 1 < vertex_count G) (at : IsBuiltAt A G c x) where
  abbrev part : VertexPart
  part = part_of c x

  own_stalk : IsPartStalk at.old at.new part
  own_stalk = record {
    stalk = at.built.stalk;
    is_stalk = at.built.is_stalk;
    edges = at.built.edges;
    bounded = at.built.bounded;
    values = at.built.values;
    blocks = at.built.blocks;
  }

  abbrev new_sheaf : SheafState A
  new_sheaf = after on.graph counted vertex at.before own_stalk

  built : IsBuiltPart (before on.graph counted vertex at.before own_stalk) new_sheaf at.lists part
  built = by_parts on.graph counted vertex at.before own_stalk (λ s t. IsBuiltPart s t at.lists part) at.built

  pub has_blocks : length part.blocks ≡ c.degree + 1
  has_blocks = built.blocks

  same_above : (d : ℕ) → d ≤ c.degree → SameList (above G x) (at.lists d) (family_at G c x d)
  same_above d within =
      let same = at.families d within in
      let long : (y : ℕ) → above G x y → level_vertices G (suc (length_at G x)) y =
      λ y high. let h = IsAbove-higher G on.graph y x high in (h.is_vertex, h.longer) in
      record {
        count = same.count;
        has = λ y high. same.has y (long y high);
        size = λ y high. same.size y (long y high);
        value = λ j y k member high coordinate. same.value j y k member (long y high) coordinate;
      }

  pub passes_at : (d : ℕ) → d ≤ c.degree → PassesAt G (parts_sheaf G c) x d (family_at G c x d) (block_of c x d)
  passes_at d within =
      let made : IsBuiltBlock new_sheaf x d (at.lists d) (block_of c x d) =
      subst (λ y. IsBuiltBlock new_sheaf y d (at.lists d) (block_of c x d))
      (next_is on.graph counted vertex at.before own_stalk) (built.block d within) in
      passes_for (over_field on) on.few_variables (same_above d within)
      (λ y high. family_size G (parts_sheaf G c) d (top_vertex G) (λ z. block_of c z d) (suc (length_at G x)) y)
      (passes_there (agree on.graph counted vertex at.before own_stalk) (built_passes made))

  pub block_passes : (d : ℕ) → d ≤ c.degree → BlockPasses G Levels c x d
  block_passes d within = let passes = passes_at d within in (passes.fits.kernel, passes.cover)

  pub shape_passes : (d : ℕ) → d ≤ c.degree → ShapePassesAt G Levels c x d
  shape_passes d within =
      shape_holds on.graph counted vertex at.before own_stalk Levels d (sizes_hold (passes_at d within).fits)

  -- its lines, where no stalk has too many coordinates
  pub part_lines : ((y d : ℕ) → y < vertex_count G → d ≤ c.degree →
      stalk_count G.rank (part_of c y).degrees d < 2 ^ 32) → (version : ℕ) → 2 ≤ version →
      IsPart version (G.prime - 1) c.degree x part
  part_lines few version levels =
      stalk_lines on.graph counted vertex at.before own_stalk few at.held version
      (λ d within.
      block_lines (passes_at d within).fits version levels (λ e. count_by (λ a. eqb a e) part.degrees) refl
      (at.held.blocks d no_block (omega (arith, within, has_blocks))))
