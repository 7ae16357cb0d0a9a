-- What was built at one vertex by whole spaces, of the sheaf that all parts write down: its blocks pass, its sizes
-- hold, and it has lines.
use Rattle.std.proofs.Common.{◌≡◌, ℕ, ◌+◌, ◌-◌, ◌<◌, ◌≤◌, ◌^◌, eqb, length, refl, subst, arith}
use Rattle.std.specs.Prelude.{count_by}
use Rattle.bmp_graph.specs.Graph.{Graph, vertex_count}
use Rattle.bmp_sheaf.specs.Coordinates.{stalk_count}
use Rattle.bmp_sheaf.specs.States.{SheafState, sheaf_of}
use Rattle.bmp_cert.specs.Counts.{Written, part_of}
use Rattle.bmp_cert.specs.CertGrammar.{IsPart}
use Rattle.bmp_check.specs.declared.method.Method.TheVariants.{Spaces}
use Rattle.bmp_check.specs.Accepted.{IsCheckableGraph}
use Rattle.bmp_check.specs.BlockData.{no_block, block_of}
use Rattle.bmp_check.specs.PartsSheaf.{parts_sheaf}
use Rattle.bmp_check.specs.Verdicts.{ShapePassesAt, BlockPasses}
use Rattle.bmp_build.specs.WholeSpaces.{IsWholeBlock, IsWholePart, IsWholeAt}
use Rattle.bmp_build.proofs.VertexStalks.{before, after, by_parts, next_is, agree, agree_above, shape_holds, stalk_lines}
use Rattle.bmp_build.proofs.WholeBlocks.{whole_there, whole_sizes_hold, whole_block_lines}

module _ {A : Type 0} {G : Graph} {c : Written} (on : IsCheckableGraph G) (counted : length c.parts ≡ vertex_count G)
    {x : ℕ} (vertex : x + 1 < vertex_count G) (at : IsWholeAt A G c x) where
  abbrev new_sheaf : SheafState A
  new_sheaf = after on.graph counted vertex at.before at.built.own

  built : IsWholePart (before on.graph counted vertex at.before at.built.own) new_sheaf (part_of c x)
  built = by_parts on.graph counted vertex at.before at.built.own (λ s t. IsWholePart s t (part_of c x)) at.built

  pub whole_at : (d : ℕ) → d ≤ c.degree → IsWholeBlock G (parts_sheaf G c) x d (block_of c x d)
  whole_at d within =
      whole_there (agree on.graph counted vertex at.before at.built.own)
      (agree_above on.graph counted vertex at.before at.built.own)
      (subst (λ y. IsWholeBlock G (sheaf_of new_sheaf) y d (block_of c x d))
      (next_is on.graph counted vertex at.before at.built.own) (built.block d within))

  pub whole_block_passes : (d : ℕ) → d ≤ c.degree → BlockPasses G Spaces c x d
  whole_block_passes d within = let whole = whole_at d within in (whole.space.passes, whole.passes)

  pub whole_shape_passes : (d : ℕ) → d ≤ c.degree → ShapePassesAt G Spaces c x d
  whole_shape_passes d within =
      shape_holds on.graph counted vertex at.before at.built.own Spaces d (whole_sizes_hold (whole_at d within))

  -- its lines, where no stalk has too many coordinates
  pub whole_part_lines : ((y d : ℕ) → y < vertex_count G → d ≤ c.degree →
      stalk_count G.rank (part_of c y).degrees d < 2 ^ 32) → IsPart 1 (G.prime - 1) c.degree x (part_of c x)
  whole_part_lines few =
      stalk_lines on.graph counted vertex at.before at.built.own few at.held 1
      (λ d within.
      whole_block_lines (whole_at d within) (λ e. count_by (λ a. eqb a e) (part_of c x).degrees) refl
      (at.held.blocks d no_block (omega (arith, within, built.own.blocks))))
