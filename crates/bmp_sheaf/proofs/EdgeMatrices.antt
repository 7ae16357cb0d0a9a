-- The kept matrices of an edge are those of its two module maps.
use Rattle.std.proofs.Common.{◌≡◌, ℕ, ◌-◌, ◌<◌, sym, ap, ◌∙◌, arith}
use Rattle.std.proofs.Math.Nat.{mod-eq_of_lt}
use Rattle.bmp_math.specs.Matrices.{Matrix, SameMatrix}
use Rattle.bmp_poly.specs.Labels.{prime_of, rank_of, leading_of, coordinate_of}
use Rattle.bmp_graded.specs.Quotients.{quotient}
use Rattle.bmp_module.specs.declared.quotient.Quotient.{Quotient}
use Rattle.bmp_module.specs.FreeModules.{degrees_of}
use Rattle.bmp_module.specs.QuotientModules.{free_of, label_of}
use Rattle.bmp_module.specs.Columns.{matrix_of_map}
use Rattle.bmp_graph.specs.Graph.{Graph, edge_count, lower, upper, label}
use Rattle.bmp_sheaf.specs.Fields.{IsOverField}
use Rattle.bmp_sheaf.specs.Sheaves.{SheafData, lift_of}
use Rattle.bmp_sheaf.specs.Coordinates.{leading, edge_module_count}
use Rattle.bmp_sheaf.specs.Numbers.{unit_at, lower_matrix, upper_matrix}
use Rattle.bmp_sheaf.specs.ModuleMaps.{stalk_module, edge_module, from_lower, from_upper}
use Rattle.bmp_sheaf.specs.States.{SheafState, sheaf_of}
use Rattle.bmp_sheaf.specs.UpperTables.{IsEdgeModule}
use Rattle.bmp_sheaf.proofs.ModuleLemmas.{free_count, quotient_count}
use Rattle.bmp_sheaf.proofs.OnEdge.{on_edge_below}

module _ (G : Graph) (over : IsOverField G) (F : SheafData) (d e : ℕ) (inside : e < edge_count G) (a : Matrix) where
  rows_are : (edge_module G F e).dim d ≡ edge_module_count G F d e
  rows_are = quotient_count G.prime (G.rank - 1) (leading G e) d (label G e) (F.degrees (upper G e))

  -- a matrix that is equal to the one of the lower end, and so on
  pub lower_of_map : SameMatrix a (lower_matrix G F d e) →
      SameMatrix a (matrix_of_map G.prime (stalk_module G F (lower G e)) (edge_module G F e) (from_lower G F e) d)
  lower_of_map same = record {
    rows = same.rows ∙ sym rows_are;
    cols = same.cols ∙ sym (free_count G.rank d (F.degrees (lower G e)));
    entries = λ i j row column.
        same.entries i j (omega (arith, row, rows_are))
        (omega (arith, column, free_count G.rank d (F.degrees (lower G e))))
        ∙ sym (mod-eq_of_lt
        (on_edge_below G over F d e inside (lift_of G F e d (unit_at G.rank (F.degrees (lower G e)) d j)) i));
  }

  pub upper_of_map : SameMatrix a (upper_matrix G F d e) →
      SameMatrix a (matrix_of_map G.prime (stalk_module G F (upper G e)) (edge_module G F e) (from_upper G F e) d)
  upper_of_map same = record {
    rows = same.rows ∙ sym rows_are;
    cols = same.cols ∙ sym (free_count G.rank d (F.degrees (upper G e)));
    entries = λ i j row column.
        same.entries i j (omega (arith, row, rows_are))
        (omega (arith, column, free_count G.rank d (F.degrees (upper G e))))
        ∙ sym (mod-eq_of_lt (on_edge_below G over F d e inside (unit_at G.rank (F.degrees (upper G e)) d j) i));
  }

-- the module that is kept for an edge is that of the edge
pub module_kept_is : {T : Type 0} (s : SheafState T) (e : ℕ) (m : Quotient) → IsEdgeModule s e m
    → quotient (prime_of (label_of m)) (rank_of (label_of m) - 1) (leading_of (label_of m)) (coordinate_of (label_of m))
    (degrees_of (free_of m)) ≡ edge_module s.graph (sheaf_of s) e
module_kept_is s e m is =
    let x = label_of m in
    let gs = degrees_of (free_of m) in
    ap (λ p. quotient p (rank_of x - 1) (leading_of x) (coordinate_of x) gs) is.label_prime
    ∙ ap (λ r. quotient s.graph.prime (r - 1) (leading_of x) (coordinate_of x) gs) is.label_rank
    ∙ ap (λ l. quotient s.graph.prime (s.graph.rank - 1) l (coordinate_of x) gs) is.label_leading
    ∙ ap (λ c. quotient s.graph.prime (s.graph.rank - 1) (leading s.graph e) c gs) is.label_coordinates
    ∙ ap (quotient s.graph.prime (s.graph.rank - 1) (leading s.graph e) (label s.graph e)) is.degrees
