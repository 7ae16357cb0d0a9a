-- Parts that were built by whole spaces have lines of version 1, and no comparison fails.
use Rattle.std.proofs.Common.{ℕ, ◌+◌, ◌-◌, ◌<◌, ◌≤◌, ◌^◌}
use Rattle.bmp_graph.specs.Graph.{Graph, vertex_count}
use Rattle.bmp_sheaf.specs.Coordinates.{stalk_count}
use Rattle.bmp_cert.specs.Counts.{Written, part_of}
use Rattle.bmp_build.specs.WholeSpaces.{WholePartsPass}
use Rattle.bmp_build.proofs.AllLines.{few_coordinates, have_lines, top_passes}
use Rattle.bmp_build.proofs.WholeVertices.{whole_at, whole_block_passes, whole_shape_passes, whole_part_lines}

pub whole_parts_pass : {A : Type 0} → WholePartsPass A
whole_parts_pass G c on small are =
    let few : (y d : ℕ) → y < vertex_count G → d ≤ c.degree → stalk_count G.rank (part_of c y).degrees d < 2 ^ 32 =
    few_coordinates c on are.top small
    (λ x d vertex within. (whole_at on are.counted vertex (are.others x vertex) d within).few) in (
      have_lines c on are.top are.counted 1
          (λ x vertex. whole_part_lines on are.counted vertex (are.others x vertex) few),
      record {
        count = are.counted;
        shape = λ x d block. whole_shape_passes on are.counted block.0 (are.others x block.0) d block.1;
        top = top_passes c on are.top are.counted;
        blocks = λ x d block. whole_block_passes on are.counted block.0 (are.others x block.0) d block.1;
      },
    )
