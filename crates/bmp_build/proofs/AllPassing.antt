-- Parts that were built have lines, and no comparison fails.
use Rattle.std.proofs.Common.{◌≡◌, ℕ, ◌+◌, ◌-◌, ◌<◌, ◌≤◌, ◌^◌, eqb, length, sym, subst, arith, ne_eqb}
use Rattle.std.proofs.lemmas.Bool.{cond-false}
use Rattle.bmp_graph.specs.Graph.{Graph, vertex_count}
use Rattle.bmp_sheaf.specs.Coordinates.{stalk_count}
use Rattle.bmp_cert.specs.Counts.{Written, part_of}
use Rattle.bmp_cert.specs.CertGrammar.{HavePartLines}
use Rattle.bmp_check.specs.declared.method.Method.{Method}
use Rattle.bmp_check.specs.declared.method.Method.TheVariants.{Spaces, Levels}
use Rattle.bmp_check.specs.Accepted.{IsCheckableGraph}
use Rattle.bmp_check.specs.Methods.{method_of}
use Rattle.bmp_check.specs.Verdicts.{ShapePasses, BlocksPass, Passes}
use Rattle.bmp_build.specs.BuiltGraphs.{AreBuilt, BuiltPartsPass}
use Rattle.bmp_build.proofs.AllLines as all
use Rattle.bmp_build.proofs.BuiltVertices.{passes_at, block_passes, shape_passes, part_lines}

module _ {A : Type 0} {G : Graph} {c : Written} (on : IsCheckableGraph G) (small : c.degree ≤ 6) (v : ℕ)
    (levels : 2 ≤ v) (are : AreBuilt A G c) where
  by_levels : method_of v ≡ Levels
  by_levels = cond-false {A = Method} (eqb v 1) Spaces Levels (ne_eqb v 1 (λ first. omega (arith, first, levels)))

  shape : ShapePasses G Levels c
  shape x d block = shape_passes on are.counted block.0 (are.others x block.0) d block.1

  blocks : BlocksPass G Levels c
  blocks x d block = block_passes on are.counted block.0 (are.others x block.0) d block.1

  -- no stalk has too many coordinates
  few_coordinates :
      (y d : ℕ) → y < vertex_count G → d ≤ c.degree → stalk_count G.rank (part_of c y).degrees d < 2 ^ 32
  few_coordinates = all.few_coordinates c on are.top small
      (λ x d vertex within. (passes_at on are.counted vertex (are.others x vertex) d within).fits.few)

  pub all_pass : HavePartLines v (G.prime - 1) c.degree c.parts × Passes G v c
  all_pass = (
    all.have_lines c on are.top are.counted v
        (λ x vertex. part_lines on are.counted vertex (are.others x vertex) few_coordinates v levels),
    record {
      count = are.counted;
      shape = subst (λ (m : Method). ShapePasses G m c) (sym by_levels) shape;
      top = all.top_passes c on are.top are.counted;
      blocks = subst (λ (m : Method). BlocksPass G m c) (sym by_levels) blocks;
    },
  )

pub built_parts_pass : {A : Type 0} → BuiltPartsPass A
built_parts_pass G v c on small version are = all_pass on small v version.0 are
