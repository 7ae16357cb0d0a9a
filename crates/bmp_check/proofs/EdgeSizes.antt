-- The coordinates on an edge, from the certificate.
use Rattle.std.proofs.Common.{◌≡◌, ℕ, ◌-◌, ap, ap₂, ◌∙◌}
use Rattle.bmp_graph.specs.Graph.{Graph, upper}
use Rattle.bmp_sheaf.specs.Coordinates.{stalk_count, edge_module_count}
use Rattle.bmp_cert.specs.declared.cert.VertexPart.{VertexPart}
use Rattle.bmp_cert.specs.Counts.{Written, part_of}
use Rattle.bmp_check.specs.PartsSheaf.{parts_sheaf}

-- the coordinates on an edge from the part of its upper end
pub edge_size :
    (G : Graph) (c : Written) (r e u d size : ℕ) (part : VertexPart) → r ≡ G.rank → u ≡ upper G e → part ≡ part_of c u →
    size ≡ stalk_count (r - 1) part.degrees d → size ≡ edge_module_count G (parts_sheaf G c) d e
edge_size G c r e u d size part rank ends is counted =
    counted ∙ ap₂ (λ (q : ℕ) (v : VertexPart). stalk_count (q - 1) v.degrees d) rank (is ∙ ap (part_of c) ends)
