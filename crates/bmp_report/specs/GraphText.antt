-- The text of a job's moment graph: its vertices with lengths and matrices, and its edges with labels; and the line of
-- a graph that has the GKM condition.
--   matrix_words rank e              the entries of the element's matrix, row by row
--   vertex_line roots x e            `vertex x l` and the entries, for the element e with number x and length l
--   edge_line g e                    `edge x y` and the coordinates of the label, for edge e
--   graph_text roots vertices g      `vertices n`, the vertices, `edges m`, the edges
--   gkm_text g                       `gkm holds vertices n edges m`
use Rattle.std.specs.Prelude.{ℕ, ◌+◌, List, [], ◌∷◌, ◌++◌, length, codes}
use Rattle.std.specs.Fmt.{decimal, signed_decimal}
use Rattle.bmp_text.specs.Printing.{line_text, single_text, chain_text, range_text}
use Rattle.bmp_roots.specs.RootSystems.{matrix_of, positive_roots_of}
use Rattle.bmp_roots.specs.declared.root_system.Roots.{Roots}
use Rattle.bmp_weyl.specs.Matrices.{cell}
use Rattle.bmp_weyl.specs.Elements.{element_length}
use Rattle.bmp_weyl.specs.declared.elem.Elem.{Elem}
use Rattle.bmp_graph.specs.Graph.{Graph, vertex_count, edge_count, lower, upper, label}
use Rattle.bmp_report.specs.FaultLines.{numbered_text}

-- ---- vertices

abbrev pub row_words : ℕ → Elem → ℕ → List (List ℕ)
row_words rank e i = range_text (λ j. signed_decimal (cell e.entries i j) ∷ []) 0 rank

abbrev pub matrix_words : ℕ → Elem → List (List ℕ)
matrix_words rank e = range_text (row_words rank e) 0 rank

abbrev pub vertex_line : Roots → ℕ → Elem → List ℕ
vertex_line roots x e = line_text (codes "vertex")
    (decimal x ∷ decimal (element_length (positive_roots_of roots) e) ∷ matrix_words (matrix_of roots).rank e)

abbrev pub next_number : Elem → ℕ → ℕ
next_number e x = x + 1

abbrev pub vertex_lines : Roots → List Elem → List ℕ
vertex_lines roots vertices = chain_text (vertex_line roots) next_number 0 vertices

-- ---- edges

abbrev pub edge_line : Graph → ℕ → List ℕ
edge_line g e = line_text (codes "edge")
    (decimal (lower g e) ∷ decimal (upper g e) ∷ range_text (λ i. decimal (label g e i) ∷ []) 0 g.rank)

abbrev pub edge_lines : Graph → List ℕ
edge_lines g = range_text (edge_line g) 0 (edge_count g)

-- ---- the texts

abbrev pub graph_text : Roots → List Elem → Graph → List ℕ
graph_text roots vertices g = single_text (codes "vertices") (length vertices) ++ (vertex_lines roots vertices
    ++ (single_text (codes "edges") (edge_count g) ++ edge_lines g))

abbrev pub gkm_text : Graph → List ℕ
gkm_text g = numbered_text (codes "gkm holds vertices") (vertex_count g)
    ++ (numbered_text (codes " edges") (edge_count g) ++ (10 ∷ []))
