-- The values of tuples that are kept as vectors.
use Rattle.std.proofs.Common.{◌≡◌, ℕ, ◌+◌, List, [], ap₂}
use Rattle.std.specs.Prelude.{slice_index_or}
use Rattle.bmp_linear.specs.declared.vector.Entry.{Entry}
use Rattle.bmp_linear.specs.SparseVectors.{number_at}
use Rattle.bmp_graph.specs.Graph.{Graph}
use Rattle.bmp_sheaf.specs.Sheaves.{SheafData}
use Rattle.bmp_sections.specs.Positions.{position_start}
use Rattle.bmp_sections.specs.Numbers.{is_above}
use Rattle.bmp_sections.specs.TupleLists.{tuples_over}

-- where the positions of y start, the vector of a tuple has its value at y
pub value_at :
    (G : Graph) (F : SheafData) (x d : ℕ) (vs : List (List Entry)) (j y start : ℕ) (es : List Entry) →
    es ≡ slice_index_or vs j [] → start ≡ position_start G F (is_above G x) d y →
    (k : ℕ) → number_at es (start + k) ≡ (tuples_over G F x d vs).value j y k
value_at G F x d vs j y start es is_vector is_start k = ap₂ (λ v s. number_at v (s + k)) is_vector is_start
